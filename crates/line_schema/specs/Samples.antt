-- Files with later additions by other people: the rows of sqlite_schema from 22 on.
use Rattle.std.specs.Prelude.{◌++◌, [], ◌∷◌, false, codes}
use Rattle.sqlite.specs.Schema.{Schema}
use Rattle.sqlite_schema.specs.declared.schema.Table.{Table}
use Rattle.sqlite_schema.specs.declared.schema.Index.{Index}
use Rattle.line_tables.specs.Line.{table_of, text, plain, to_reel, line_schema}

-- CREATE TABLE note (reel TEXT NOT NULL) STRICT.
abbrev pub note : Table
note = table_of (codes "note") 21 (text (codes "reel") ∷ [])

-- CREATE TABLE note (reel TEXT NOT NULL REFERENCES reel) STRICT.
abbrev pub note_on_reel : Table
note_on_reel = record note { references = to_reel 1 ∷ [] }

-- CREATE INDEX by_source ON accepted (source).
abbrev pub by_source : Index
by_source = record {
  name = codes "by_source";
  tree = 22;
  table = 1;
  columns = 3 ∷ [];
  order = plain;
  is_unique = false;
}

abbrev pub with_others : Table → Schema
with_others table = record line_schema {
  tables = line_schema.tables ++ table ∷ [];
  indexes = line_schema.indexes ++ by_source ∷ [];
}
