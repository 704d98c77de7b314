-- A row under the UniqueID of a message.
use Rattle.desk_types.proofs.Common.{◌∙◌, ◌≡◌, ap, ap₂, cases_Bool, History, if◌then◌else◌, inl, inr}
use Rattle.desk_types.proofs.Common.{IsCommand, List, stored_text, string_bytes, sym, ℕ}
use Rattle.desk_answers.proofs.Sameness.{equal_messages, same_messages}
use Rattle.desk_answers.specs.{Commands.answer_under, Commands.first_text, Repeats.is_same}
use Rattle.desk_answers.specs.{declared.answer.Answer.TheVariants.Accepted}
use Rattle.desk_answers.specs.{declared.answer.Answer.TheVariants.IdReused}
use Rattle.desk_types.specs.{Command.IsEntry, declared.command.Entry.Entry, declared.command.Stamped.Stamped}
use Rattle.line_replay.proofs.RowsTellLists.{stamped_same, TextsTell}
use Rattle.line_replay.specs.Rows.{entry_row}
use Rattle.line_tables.specs.{Rows.columns_of, declared.edit.Accepted.Accepted as Row}

module _ (tells : TextsTell) (a : Row) (G : History) (e : Entry) (s : Stamped) (text : List ℕ) (is_entry : IsEntry e) (is_command : IsCommand s.command) (is_text : text ≡ stored_text s.command)
    (uid : e.stamped.uid ≡ s.uid) (row : columns_of a ≡ entry_row G e) where
  pub again : (string_bytes a.source ≡ s.source) × (a.own ≡ s.minute) × (string_bytes a.command ≡ text) → Accepted a.number (string_bytes a.detail) ≡ answer_under G e s
  again h =
      let source : string_bytes a.source ≡ e.stamped.source = cc in
      let own : a.own ≡ e.stamped.minute = cc in
      let command : string_bytes a.command ≡ stored_text e.stamped.command = cc in
      let number : a.number ≡ e.number = cc in
      let detail : string_bytes a.detail ≡ first_text G e = cc in
      let same = stamped_same e.stamped s uid (sym source ∙ h.0) (sym own ∙ h.1) (tells e.stamped.command s.command is_entry.stamped.command is_command (sym command ∙ h.2 ∙ is_text)) in
      ap₂ (λ n t. Accepted n t) number detail ∙ sym (ap (λ b. if b then Accepted e.number (first_text G e) else IdReused e.number) (equal_messages e.stamped s same))

  pub reused : ((string_bytes a.source ≡ s.source) × (a.own ≡ s.minute) × (string_bytes a.command ≡ text) → ⊥) → IdReused a.number ≡ answer_under G e s
  reused other =
      let number : a.number ≡ e.number = cc in
      let source : string_bytes a.source ≡ e.stamped.source = cc in
      let own : a.own ≡ e.stamped.minute = cc in
      let command : string_bytes a.command ≡ stored_text e.stamped.command = cc in
      elim (cases_Bool (is_same e.stamped s)) [
        | inl is ↦ let same = same_messages e.stamped s is in absurd (other (source ∙ ap (λ (x : Stamped). x.source) same, own ∙ ap (λ (x : Stamped). x.minute) same, command ∙ ap (λ (x : Stamped). stored_text x.command) same ∙ sym is_text))
        | inr not ↦ ap IdReused number ∙ sym (ap (λ b. if b then Accepted e.number (first_text G e) else IdReused e.number) not)
      ]
