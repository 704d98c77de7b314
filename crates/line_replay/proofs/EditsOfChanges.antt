-- The effect of a change's edits on the tables of a history.
use Rattle.desk_types.proofs.Common.{[], ◌+◌, ◌∙◌, ◌∷◌, ◌≡◌, accept, ap, History, IsChange, length, List}
use Rattle.desk_types.proofs.Common.{refl, with_edit, with_edits, ℕ}
use Rattle.line_tables.proofs.Common.{after_edits, AreNew, command_edits, Row, row_edits, RowEdit, Two}
use Rattle.desk_answers.specs.Texts.{accepted_text}
use Rattle.desk_types.specs.{Edits.AreNew as AreNewRows, Tables.Tables as StateTables}
use Rattle.desk_types.specs.{Tables.tables_of as state_of, declared.change.Change.Change}
use Rattle.line_replay.proofs.Judgements.{row_is}
use Rattle.line_replay.specs.Rows.{columns, ledger_tables, rows_of}
use Rattle.line_tables.specs.{Rows.columns_of, Rows.Tables, declared.edit.Accepted.Accepted}

rows_edited : (rows : List RowEdit) (t : Tables) → after_edits (row_edits rows) t ≡ record t { state = with_edits rows t.state }
rows_edited [] t = refl
rows_edited (x ∷ rows) t = rows_edited rows (record t { state = with_edit x t.state })

rows_new : (rows : List RowEdit) (t : Tables) → AreNewRows rows t.state → AreNew (row_edits rows) t
rows_new [] t new = tt
rows_new (x ∷ rows) t new = (new.0, rows_new rows (record t { state = with_edit x t.state }) new.1)

pub put_is : (greatest number : ℕ) (H : History) (change : Change) (text : List ℕ) (row : Accepted) (rows : List RowEdit)
    → columns_of row ≡ columns number change.stamped change.minute text → IsChange Two H change.stamped change → number ≡ length H + 1 → text ≡ accepted_text number change.stamped.uid change.detail
    → with_edits rows (state_of H) ≡ state_of (accept H change.stamped) → after_edits (command_edits row rows) (ledger_tables greatest H) ≡ ledger_tables greatest (accept H change.stamped)
put_is greatest number H change text row rows kept is numbered told lead =
    rows_edited rows (record { greatest = greatest; accepted = columns_of row ∷ rows_of H; state = state_of H })
    ∙ ap (λ (t : StateTables). record { greatest = greatest; accepted = columns_of row ∷ rows_of H; state = t }) lead
    ∙ ap (λ (r : Row). record { greatest = greatest; accepted = r ∷ rows_of H; state = state_of (accept H change.stamped) }) (kept ∙ row_is Two H change.stamped change number text is numbered told)

pub put_new : (greatest : ℕ) (H : History) (row : Accepted) (rows : List RowEdit) → AreNewRows rows (state_of H) → AreNew (command_edits row rows) (ledger_tables greatest H)
put_new greatest H row rows new = (tt, rows_new rows (record { greatest = greatest; accepted = columns_of row ∷ rows_of H; state = state_of H }) new)
