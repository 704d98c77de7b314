-- A desk that can accept a change by the edits that were committed.
use Rattle.std.specs.Prelude.{◌≡◌, List}
use Rattle.desk_types.specs.declared.change.Change.{Change}
use Rattle.desk_types.specs.declared.edit.RowEdit.{RowEdit}
use Rattle.desk_types.specs.Desk.{HasRoom, IsChange}
use Rattle.desk_types.specs.Edits.{with_edits}
use Rattle.desk_types.specs.History.{Basis, accept}
use Rattle.desk_types.specs.Tables.{tables_of}
use Rattle.state_rows.specs.Kept.{unnumbered}

-- There is room for the change, which is judged for the desk's history. The edits lead to the
-- tables of the history with the change, apart from the numbers of mounts.
pub record CanSettle {D : Type 0} (StandsFor : D → Basis → Type 0)
    (change : Change) (edits : List RowEdit) (desk : D) : Type 0 where
  pub room : HasRoom StandsFor desk 1
  pub judged : (B : Basis) → StandsFor desk B
      → IsChange B.rules B.history change.stamped change
  pub lead : (B : Basis) → StandsFor desk B
      → unnumbered (with_edits edits (tables_of B.history))
      ≡ unnumbered (tables_of (accept B.history change.stamped))
