-- The rows of the desk after the edits that were committed.
use Rattle.desk_types.proofs.Common.{[], ◌∙◌, ◌∷◌, ◌≡◌, ap, History, IfSome, List, None, Option, refl, Some}
use Rattle.desk_types.proofs.Common.{subst, sym, with_edit, with_edits, ℕ}
use Rattle.line_tables.proofs.Common.{after_edits, command_edits, row_edits, RowEdit}
use Rattle.desk_types.specs.Tables.{tables_of as state_of}
use Rattle.line_replay.proofs.ExpectedRows.{kept_more}
use Rattle.line_replay.specs.{Expected.AreKept, Rows.ledger_tables, Rows.rows_of}
use Rattle.line_tables.specs.{Rows.columns_of, Rows.Tables, declared.edit.Accepted.Accepted}
use Rattle.line_traces.specs.declared.working.Working.{Working}
use Rattle.state_rows.specs.Kept.{but_placements, KeptRows, tables_in}

state_edited : (edits : List RowEdit) (t : Tables) → (after_edits (row_edits edits) t).state ≡ with_edits edits t.state
state_edited [] t = refl
state_edited (x ∷ edits) t = state_edited edits (record t { state = with_edit x t.state })

pub lead_of : (greatest : ℕ) (G H : History) (row : Accepted) (edits : List RowEdit) → after_edits (command_edits row edits) (ledger_tables greatest G) ≡ ledger_tables greatest H → with_edits edits (state_of G) ≡ state_of H
lead_of greatest G H row edits is =
    sym (state_edited edits (record { greatest = greatest; accepted = columns_of row ∷ rows_of G; state = state_of G })) ∙ ap (λ (t : Tables). t.state) is

pub rows_settled : {D : Type 0} (K : D → KeptRows) (edits : List RowEdit) (old new : Option (Working D)) (w : Working D) (G H : History) → old ≡ Some w
    → IfSome new (λ x. tables_in (K x.desk) ≡ but_placements (with_edits edits (tables_in (K w.desk))) (tables_in (K w.desk))) → with_edits edits (state_of G) ≡ state_of H → IfSome old (λ x. AreKept (K x.desk) G) → IfSome new (λ x. AreKept (K x.desk) H)
rows_settled K edits old None w G H is made lead was = tt
rows_settled K edits old (Some x) w G H is made lead was = kept_more edits (K w.desk) (K x.desk) G H made lead (subst (λ o. IfSome o (λ x. AreKept (K x.desk) G)) is was)
