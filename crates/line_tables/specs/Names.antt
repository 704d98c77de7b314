-- The names of the tables and of their columns. SQL ignores their case.
use Rattle.std.specs.Prelude.{Bool, not, ◌&&◌, ℕ, List, [], ◌∷◌, map}
use Rattle.std.specs.List.{list_any, list_all}
use Rattle.sqlite_schema.specs.Names.{same_name}
use Rattle.sqlite_schema.specs.declared.schema.Table.{Table}
use Rattle.desk_types.specs.declared.rules.Rules.{Rules}
use Rattle.desk_types.specs.declared.rules.Rules.TheVariants.{One, Two}
use Rattle.line_tables.specs.Line.{our_names, version, accepted, part, alternate, sheet_row, selected, reel, mount, board, placement, found}

-- The table has a column of this name.
abbrev pub has_column : Table → List ℕ → Bool
has_column t name = list_any (λ column. same_name column.name name) t.columns

-- The table has one of our names.
abbrev pub has_name : Table → Bool
has_name t = list_any (λ name. same_name t.name name) our_names

-- The table has this name and these columns.
abbrev pub is_named : List ℕ → List (List ℕ) → Table → Bool
is_named name columns t = same_name t.name name && list_all (λ column. has_column t column) columns

-- The table has the name and the columns of ours.
abbrev pub is_like : Table → Table → Bool
is_like ours t = is_named ours.name (map (λ column. column.name) ours.columns) t

abbrev pub is_version : Table → Bool
is_version t = is_like version t

abbrev pub is_accepted : Table → Bool
is_accepted t = is_like accepted t

-- Some table is like ours.
abbrev pub has_like : Table → List Table → Bool
has_like ours tables = list_any (λ t. is_like ours t) tables

-- The tables of the setup, and those of reels, mounts, boards and placements, exist with their columns.
abbrev pub has_setup : List Table → Bool
has_setup tables = has_like part tables && has_like alternate tables && has_like sheet_row tables
    && has_like selected tables

abbrev pub has_floor : List Table → Bool
has_floor tables = has_like reel tables && has_like mount tables && has_like board tables
    && has_like placement tables

-- The table of found pieces exists with its columns. Under rules One no table has its name.
abbrev pub has_found : Rules → List Table → Bool
has_found One tables = not (list_any (λ t. is_named found.name [] t) tables)
has_found Two tables = has_like found tables

-- All tables except `version` and `accepted` exist with their columns.
abbrev pub has_state : Rules → List Table → Bool
has_state rules tables = has_setup tables && has_floor tables && has_found rules tables
