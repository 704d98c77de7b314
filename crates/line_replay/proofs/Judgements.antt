-- A row, judged again.
use Rattle.desk_types.proofs.Common.{◌+◌, ◌∙◌, ◌≡◌, ap, detail_of, effective_minute, entry_of, History}
use Rattle.desk_types.proofs.Common.{IsChange, IsMinute, IsNext, IsStamped, length, List, None, pos, refl}
use Rattle.desk_types.proofs.Common.{refusal_of, Some, stored_text, subst, sym, ℕ}
use Rattle.line_tables.proofs.Common.{column, Int, Row, Rules, Text}
use Rattle.desk_answers.specs.{Commands.first_text, Texts.accepted_text}
use Rattle.desk_types.specs.{declared.answer.Refusal.Refusal, declared.change.Change.Change}
use Rattle.desk_types.specs.{declared.command.Entry.Entry, declared.command.Stamped.Stamped}
use Rattle.line_replay.proofs.RowsTellLists.{next_entry, stamped_same, TextsTell}
use Rattle.line_replay.specs.{Judging.GoesOn, Judging.IsMessageOf, Rows.columns, Rows.entry_row}
use Rattle.line_tables.proofs.Finds.{seven}

minute_is : (rules : Rules) (H : History) (s : Stamped) (change : Change) → IsChange rules H s change → change.minute ≡ effective_minute H s.minute
minute_is rules H s change is = ap (λ (c : Change). c.minute) is.value

pub row_is : (rules : Rules) (H : History) (s : Stamped) (change : Change) (number : ℕ) (text : List ℕ) → IsChange rules H s change → number ≡ length H + 1
    → text ≡ accepted_text number s.uid change.detail → columns number s change.minute text ≡ entry_row H (entry_of H s)
row_is rules H s change number text is numbered told =
    let minute = minute_is rules H s change is in
    let detail : change.detail ≡ detail_of H (effective_minute H s.minute) s.command = ap (λ (c : Change). c.detail) is.value in
    let words : text ≡ first_text H (entry_of H s) = told ∙ ap (λ n. accepted_text n s.uid change.detail) numbered ∙ ap (accepted_text (length H + 1) s.uid) detail in
    ap (λ n. columns n s change.minute text) numbered ∙ ap (λ m. columns (length H + 1) s m text) minute
    ∙ ap (columns (length H + 1) s (effective_minute H s.minute)) words

pub next_is : (rules : Rules) (H : History) (s : Stamped) (change : Change) → IsStamped s → IsMinute change.minute → IsChange rules H s change → IsNext rules H (entry_of H s)
next_is rules H s change stamped minute is = record {
  in_range = record { stamped = stamped; effective = subst IsMinute (minute_is rules H s change is) minute };
  number = refl;
  effective = refl;
  accepted = is.accepted;
}

text_same : (a b : List ℕ) → Text a ≡ Text b → a ≡ b
text_same a b h = cc

number_same : (a b : ℕ) → Int (pos a) ≡ Int (pos b) → a ≡ b
number_same a b h = cc

-- The row has this number, this effective minute and this answer.
abbrev pub Says : Row → ℕ → ℕ → List ℕ → Type 0
Says row number minute text = (column row 0 ≡ Int (pos number)) × (column row 4 ≡ Int (pos minute)) × (column row 6 ≡ Text text)

row_values : (row : Row) (s : Stamped) (number minute : ℕ) (text : List ℕ) → IsMessageOf row s → Says row number minute text → row ≡ columns number s minute text
row_values row s number minute text of says = seven row of.seven ∙ rw (says.0, of.uid, of.source, of.minute, says.1, of.command, says.2) refl

value_says : (row : Row) (s : Stamped) (number minute : ℕ) (text : List ℕ) → row ≡ columns number s minute text → Says row number minute text
value_says row s number minute text is = (ap (λ (r : Row). column r 0) is, ap (λ (r : Row). column r 4) is, ap (λ (r : Row). column r 6) is)

message_of : (rules : Rules) (H : History) (row : Row) (e : Entry) → GoesOn rules H row e → IsMessageOf row e.stamped
message_of rules H row e goes = record {
  seven = ap length goes.same;
  uid = ap (λ (r : Row). column r 1) goes.same;
  source = ap (λ (r : Row). column r 2) goes.same;
  minute = ap (λ (r : Row). column r 3) goes.same;
  command = ap (λ (r : Row). column r 5) goes.same;
}

module _ (tells : TextsTell) (rules : Rules) (H : History) (row : Row) (s : Stamped) (of : IsMessageOf row s) (in_range : IsStamped s) where
  same_message : (e : Entry) → GoesOn rules H row e → e.stamped ≡ s
  same_message e goes =
      let at = message_of rules H row e goes in
      stamped_same e.stamped s (text_same e.stamped.uid s.uid (sym at.uid ∙ of.uid)) (text_same e.stamped.source s.source (sym at.source ∙ of.source))
      (number_same e.stamped.minute s.minute (sym at.minute ∙ of.minute))
      (tells e.stamped.command s.command goes.next.in_range.stamped.command in_range.command (text_same (stored_text e.stamped.command) (stored_text s.command) (sym at.command ∙ of.command)))

  pub refused : (r : Refusal) → refusal_of rules H s ≡ Some r → (e : Entry) → GoesOn rules H row e → ⊥
  refused r is e goes =
      let none : refusal_of rules H s ≡ None = subst (λ (x : Stamped). refusal_of rules H x ≡ None) (same_message e goes) goes.next.accepted in
      let both = sym is ∙ none in
      absurd cc

  module _ (change : Change) (number : ℕ) (text : List ℕ) (is : IsChange rules H s change) (numbered : length H + 1 ≡ number) (told : text ≡ accepted_text number s.uid change.detail) where
    as_entry : columns number s change.minute text ≡ entry_row H (entry_of H s)
    as_entry = row_is rules H s change number text is (sym numbered) told

    pub unsaid : (Says row number change.minute text → ⊥) → (e : Entry) → GoesOn rules H row e → ⊥
    unsaid never e goes =
        let entry : e ≡ entry_of H s = next_entry rules H e goes.next ∙ ap (entry_of H) (same_message e goes) in
        never (value_says row s number change.minute text (goes.same ∙ ap (entry_row H) entry ∙ sym as_entry))

    pub said : IsMinute change.minute → Says row number change.minute text → GoesOn rules H row (entry_of H s)
    said minute says = record { next = next_is rules H s change in_range minute is; same = row_values row s number change.minute text of says ∙ as_entry }

pub stamped_is : (rules : Rules) (H : History) (s : Stamped) (change : Change) → IsChange rules H s change → change.stamped ≡ s
stamped_is rules H s change is = ap (λ (c : Change). c.stamped) is.value
