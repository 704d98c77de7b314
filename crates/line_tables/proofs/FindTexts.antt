-- The meaning of the texts that read.
use Rattle.desk_types.proofs.Common.{[], ◌∷◌, ◌≡◌, ◌⊎◌, Bool, codes, false, inl, is_ok, List, negsuc, None}
use Rattle.desk_types.proofs.Common.{pos, refl, Some, ℕ}
use Rattle.line_tables.proofs.Common.{ascending, Binary, col, command_of, Compare, end, Eq, everything, inner}
use Rattle.line_tables.proofs.Common.{Int, IsPlain, Layout, lit, Lt, Null, op2, Query, Rules, Schema}
use Rattle.line_tables.proofs.Common.{schema_of, Term, understood}
use Rattle.line_tables.specs.declared.reading.TheConstants.{SELECT_BEFORE, SELECT_COUNT, SELECT_LEAST}
use Rattle.line_tables.specs.declared.reading.TheConstants.{SELECT_NUMBER, SELECT_UID}
use Rattle.line_tables.specs.declared.version.TheConstants.{SELECT_VERSION}
use Rattle.sqlite.specs.Command.TheVariants.{Select}
use Rattle.sqlite.specs.Listing.{reads_listing}
use Rattle.sqlite_sql.specs.Group.{Grouping}
use Rattle.sqlite_sql.specs.declared.aggregate.AggregateOp.TheVariants as by

-- The rows of one table that pass the tests, unsorted: no group, no DISTINCT, no ORDER BY, no LIMIT.
abbrev pub rows_from : ℕ → List Term → List Term → Query
rows_from tree filter project = record { from = inner tree end; filter = filter; group = None; project = project; distinct = false; collations = []; order = []; limit = lit (Int (negsuc 0)); offset = lit (Int (pos 0)) }

-- In a database of the schema, the text means this query.
abbrev pub IsSelectIn : Schema → List ℕ → Query → List (List ℕ) → Type 0
IsSelectIn schema sql q names = (command_of (understood schema sql) ≡ Select (record { lets = []; body = q }) names) × (reads_listing schema sql ≡ false) × IsPlain (understood schema sql)

-- The same for our schema of each version and layout, unless the text is no statement there.
abbrev pub IsSelectBy : List ℕ → (Schema → Query) → List (List ℕ) → Type 0
IsSelectBy sql q names = (rules : Rules) (indexed : Layout) → IsSelectIn (schema_of rules indexed) sql (q (schema_of rules indexed)) names ⊎ (is_ok (understood (schema_of rules indexed) sql) ≡ false)

-- It means the same query in each of them.
abbrev pub IsSelect : List ℕ → Query → List (List ℕ) → Type 0
IsSelect sql q names = IsSelectBy sql (λ _. q) names

abbrev pub accepted_places : List Term
accepted_places = col 1 0 ∷ col 1 2 ∷ col 1 3 ∷ col 1 4 ∷ col 1 5 ∷ col 1 6 ∷ col 1 7 ∷ []

abbrev pub accepted_names : List (List ℕ)
accepted_names = codes "number" ∷ codes "uid" ∷ codes "source" ∷ codes "own" ∷ codes "effective" ∷ codes "command" ∷ codes "detail" ∷ []

abbrev pub uid_query : Query
uid_query = rows_from 1 (op2 (Compare Eq Binary) (col 1 2) (col 0 0) ∷ []) accepted_places

pub select_uid_is : IsSelect SELECT_UID.now uid_query accepted_names
unfolding understood everything
select_uid_is rules indexed = inl (refl, refl, (refl, refl))

abbrev pub number_query : Query
number_query = rows_from 1 (op2 (Compare Eq Binary) (col 1 0) (col 0 0) ∷ []) accepted_places

pub select_number_is : IsSelect SELECT_NUMBER.now number_query accepted_names
unfolding understood everything
select_number_is rules indexed = inl (refl, refl, (refl, refl))

abbrev pub before_query : Query
before_query = rows_from 1 (op2 (Compare Eq Binary) (col 1 2) (col 0 0) ∷ op2 (Compare Lt Binary) (col 1 0) (col 0 1) ∷ []) (col 1 0 ∷ [])

pub select_before_is : IsSelect SELECT_BEFORE.now before_query (codes "number" ∷ [])
unfolding understood everything
select_before_is rules indexed = inl (refl, refl, (refl, refl))

abbrev pub version_query : Query
version_query = rows_from 0 [] (col 1 0 ∷ col 1 2 ∷ col 1 3 ∷ [])

pub select_version_is : IsSelect SELECT_VERSION.now version_query (codes "one" ∷ codes "number" ∷ codes "greatest" ∷ [])
unfolding understood everything
select_version_is rules indexed = inl (refl, refl, (refl, refl))

-- The least value of a table's first column.
abbrev pub least_from : ℕ → Query
least_from tree = record { from = inner tree end; filter = []; group = None; project = col 1 0 ∷ []; distinct = false; collations = []; order = (col 1 0, ascending Binary) ∷ []; limit = lit (Int (pos 1)); offset = lit (Int (pos 0)) }

abbrev pub least_query : Query
least_query = least_from 1

pub select_least_is : IsSelect SELECT_LEAST.now least_query (codes "number" ∷ [])
unfolding understood everything
select_least_is rules indexed = inl (refl, refl, (refl, refl))

abbrev pub count_all : Grouping
count_all = record { keys = []; collations = []; aggregates = record { op = by.CountRows; distinct = false; collation = Binary; argument = lit Null } ∷ []; having = [] }

abbrev pub count_from : ℕ → Query
count_from tree = record { from = inner tree end; filter = []; group = Some count_all; project = col 1 0 ∷ []; distinct = false; collations = []; order = []; limit = lit (Int (negsuc 0)); offset = lit (Int (pos 0)) }

abbrev pub count_query : Query
count_query = count_from 1

pub select_count_is : IsSelect SELECT_COUNT.now count_query (codes "count(*)" ∷ [])
unfolding understood everything
select_count_is rules indexed = inl (refl, refl, (refl, refl))
