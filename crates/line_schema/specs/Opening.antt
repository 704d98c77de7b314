-- The contents read when a store is opened, and the meaning of a fault for the committed contents.
use Rattle.std.specs.Prelude.{◌≡◌, ◌≢◌, ◌⊎◌, ◌≤◌, ⊤, ℕ, ℤ, pos, true, false, length, List, [], ◌∷◌, ◌++◌, codes, decimal}
use Rattle.std.specs.Fmt.{signed_decimal}
use Rattle.std.specs.List.{list_any}
use Rattle.sqlite.specs.declared.types.Value.TheVariants.{Int}
use Rattle.sqlite.specs.Effect.{Database}
use Rattle.sqlite.specs.State.{State, HasCleanDisk}
use Rattle.desk_types.specs.declared.limits.TheConstants.{MOST_ENTRIES}
use Rattle.desk_types.specs.declared.rules.Rules.{Rules}
use Rattle.desk_types.specs.declared.rules.Rules.TheVariants.{Two}
use Rattle.desk_types.specs.History.{History, Basis, basis}
use Rattle.desk_types.specs.Judged.{IsJudged}
use Rattle.desk_types.specs.Tables.{tables_of as state_of}
use Rattle.line_tables.specs.Names.{is_version, is_accepted, has_state}
use Rattle.line_tables.specs.Rows.{version_in, accepted_in, version_of}
use Rattle.line_tables.specs.StateRows.{HoldsStateBy}
use Rattle.line_tables.specs.Rowids.{AreAllApartBy}
use Rattle.line_tables.specs.Calls.{Reads}
use Rattle.line_replay.specs.Audit.{IsFirstWrong, state_tables}
use Rattle.line_replay.specs.TableNames.{name_of}
use Rattle.line_replay.specs.declared.fault.ReplayFault.{ReplayFault}
use Rattle.line_replay.specs.declared.fault.ReplayFault.TheVariants as replay
use Rattle.line_replay.specs.Listed.{StopsAt, AreRowsOf}
use Rattle.line_schema.specs.declared.fault.OpenFault.{OpenFault}
use Rattle.line_schema.specs.declared.fault.OpenFault.TheVariants.{NotADesk, OtherVersion, NotLawful, TableDiffers, NotBlank, Unavailable}
use Rattle.line_schema.specs.declared.opening.Opened.{Opened}
use Rattle.line_replay.specs.declared.table.StateTable.{StateTable}
use Rattle.line_traces.specs.Working.{IsWorking}

-- A fault of a replay, as a fault of opening.
abbrev pub opening_fault : ReplayFault → OpenFault
opening_fault (replay.NotLawful n) = NotLawful n
opening_fault replay.Unavailable = Unavailable

-- The whole number is a greatest number: from 1 to the limit of entries.
pub record IsGreatest (z : ℤ) (greatest : ℕ) : Type 0 where
  pub same : z ≡ pos greatest
  pub least : 1 ≤ greatest
  pub most : greatest ≤ MOST_ENTRIES

-- `version` has a single row: a 1, this version and this greatest number.
pub record IsVersion (db : Database) (number : ℤ) (greatest : ℕ) : Type 0 where
  pub row : version_in db ≡ (Int (pos 1) ∷ Int number ∷ Int (pos greatest) ∷ []) ∷ []
  pub least : 1 ≤ greatest
  pub most : greatest ≤ MOST_ENTRIES

-- The tables of the version exist with their columns, by name. Rules One go with version 1, rules
-- Two with version 2.
abbrev pub IsNamedBy : Rules → State → Type 0
IsNamedBy rules old = (list_any is_version old.now.schema.tables ≡ true)
    × (list_any is_accepted old.now.schema.tables ≡ true)
    × (has_state rules old.now.schema.tables ≡ true)

abbrev pub IsNamed : State → Type 0
IsNamed = IsNamedBy Two

-- The database claims to be of this version.
abbrev pub IsOfBy : Rules → State → Type 0
IsOfBy rules old = Reads old (λ db. (greatest : ℕ) × IsVersion db (pos (version_of rules)) greatest)

-- The table `version` or one of its columns is missing, or it has no such row; or it names this
-- version, and another table or a column is missing. In version 1 a table named `found` counts as
-- such a fault.
abbrev pub IsNoDeskBy : Rules → State → Type 0
IsNoDeskBy rules old =
    (list_any is_version old.now.schema.tables ≡ false)
    ⊎ Reads old (λ db. (number : ℤ) (greatest : ℕ) → IsVersion db number greatest → ⊥)
    ⊎ (((list_any is_accepted old.now.schema.tables ≡ false)
    ⊎ (has_state rules old.now.schema.tables ≡ false)) × IsOfBy rules old)

-- The fault concerns neither the history nor another table.
abbrev pub IsOfVersion : OpenFault → Type 0
IsOfVersion (NotLawful n) = ⊥
IsOfVersion (TableDiffers table) = ⊥
IsOfVersion _ = ⊤

-- OtherVersion is reported only for a file with the table `version`, and a fault of the rows only
-- for one with all tables of the version.
abbrev pub IsToldBy : Rules → State → OpenFault → Type 0
IsToldBy rules old (OtherVersion n) = list_any is_version old.now.schema.tables ≡ true
IsToldBy rules old (NotLawful n) = IsNamedBy rules old
IsToldBy rules old (TableDiffers table) = IsNamedBy rules old
IsToldBy rules old _ = ⊤

-- The history is lawful and its rows are present. This is the first of the other tables, in their
-- order, whose rows are not the history's.
pub record IsTableFault (rules : Rules) (old : State) (table : StateTable) : Type 0 where
  pub greatest : ℕ
  pub list : History
  pub version : Reads old (λ db. IsVersion db (pos (version_of rules)) greatest)
  pub rows : Reads old (λ db. AreRowsOf rules greatest (accepted_in db) list)
  pub first : Reads old (λ db. IsFirstWrong (state_tables rules) db (state_of list) table)

-- The meaning of a fault for the committed contents, which should be tables of this version.
abbrev pub IsFaultBy : Rules → State → OpenFault → Type 0
IsFaultBy rules old NotADesk = IsNoDeskBy rules old
IsFaultBy rules old (OtherVersion n) =
    (n ≢ pos (version_of rules)) × Reads old (λ db. (greatest : ℕ) × IsVersion db n greatest)
IsFaultBy rules old (NotLawful n) = (greatest : ℕ)
    × Reads old (λ db. IsVersion db (pos (version_of rules)) greatest)
    × Reads old (λ db. StopsAt rules greatest (accepted_in db) n)
IsFaultBy rules old (TableDiffers table) = IsTableFault rules old table
IsFaultBy rules old NotBlank = ⊥
IsFaultBy rules old Unavailable = ⊤

-- The reported fault is in the committed contents, if the disk is honest, and it is never NotBlank.
pub record IsReported (rules : Rules) (old new : State) (fault : OpenFault) : Type 0 where
  pub holds : HasCleanDisk new → IsFaultBy rules old fault
  pub told : IsToldBy rules old fault
  pub never : fault ≢ NotBlank

-- The name of a fault and, after a space, its number or its table.
abbrev pub fault_text : OpenFault → List ℕ
fault_text NotADesk = codes "NotADesk"
fault_text (OtherVersion n) = codes "OtherVersion " ++ signed_decimal n
fault_text (NotLawful n) = codes "NotLawful " ++ decimal n
fault_text (TableDiffers table) = codes "TableDiffers " ++ name_of table
fault_text NotBlank = codes "NotBlank"
fault_text Unavailable = codes "Unavailable"

-- The working state represents a judged history of this length by these rules, within the greatest
-- number. On a clean disk with our schema: `version` has that greatest
-- number, the history is lawful, its rows are committed, the other tables are the history's, and
-- their rowids are distinct.
pub record IsOpened {D : Type 0} (StandsFor : D → Basis → Type 0)
    (Clean : Type 0) (old : State) (by : Rules) (opened : Opened D) (H : History) : Type 0 where
  pub working : IsWorking StandsFor opened.working (basis by H)
  pub judged : IsJudged by H
  pub count : opened.count ≡ length H
  pub within : length H ≤ opened.greatest
  pub bound : opened.greatest ≤ MOST_ENTRIES
  pub version : Clean → Reads old (λ db. IsVersion db (pos (version_of by)) opened.greatest)
  pub rows : Clean → Reads old (λ db. AreRowsOf by opened.greatest (accepted_in db) H)
  pub state : Clean → Reads old (λ db. HoldsStateBy by db (state_of H))
  pub apart : Clean → Reads old (λ db. AreAllApartBy by db)
