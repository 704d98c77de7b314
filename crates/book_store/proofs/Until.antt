-- The first commands of a history.
use Rattle.desk_types.proofs.Common.{[], ◌+◌, ◌<◌, ◌==◌, ◌∙◌, ◌∷◌, ◌≡◌, ◌≤◌, accept, ap, arith, cases_Bool}
use Rattle.desk_types.proofs.Common.{entry_of, false}
use Rattle.desk_types.proofs.Common.{History, inl, inr, IsJudged, length, nat_le, nat_tests}
use Rattle.desk_types.proofs.Common.{refl, Some, sym, true, ℕ}
use Rattle.desk_laws.proofs.Common.{Entry, Stamped, Two}
use Rattle.line_replay.proofs.RowsTellLists.{next_entry}
use Rattle.line_schema.specs.Checking.{command_numbered}
use Rattle.book_store.specs.Restored.{history_until}

pub all_until : (H : History) (n : ℕ) → length H ≤ n → history_until n H ≡ H
all_until [] n h = refl
all_until (e ∷ H) n h = let fits : nat_le (length H + 1) n ≡ true = grind (arith, nat_tests) in rw fits refl

pub none_until : (H : History) → history_until 0 H ≡ []
none_until [] = refl
none_until (e ∷ H) = let over : nat_le (length H + 1) 0 ≡ false = grind (arith, nat_tests) in rw over (none_until H)

pub length_until : (H : History) (n : ℕ) → n ≤ length H → length (history_until n H) ≡ n
length_until [] n h = omega (arith, h)
length_until (e ∷ H) n h = elim (cases_Bool (nat_le (length H + 1) n)) [
  | inl fits ↦ let all : length H + 1 ≤ n = grind (arith, nat_tests) in rw fits (omega (arith, all, h))
  | inr over ↦ let less : n ≤ length H = grind (arith, nat_tests) in rw over (length_until H n less)
]

numbered_here : (e : Entry) (H : History) (n : ℕ) (s : Stamped) → (e.number == n) ≡ true → command_numbered n
    (e ∷ H) ≡ Some s → e.stamped ≡ s
numbered_here e H n s is found = let it : Some e.stamped ≡ Some s = (rw is at found) in cc

-- One command more.
pub more_until : (H : History) (n : ℕ) (s : Stamped) → IsJudged Two H → n < length H → command_numbered
    (n + 1) H ≡ Some s → history_until (n + 1) H ≡ accept (history_until n H) s
more_until [] n s judged less found = absurd (omega (arith, less))
more_until (e ∷ H) n s judged less found = elim (cases_Bool (nat_le (length H + 1) (n + 1))) [
  | inl fits ↦
      let all : length H ≤ n = grind (arith, nat_tests) in
      let same : n ≡ length H = omega (arith, all, less) in
      let here : (e.number == n + 1) ≡ true = let number = judged.0.number in grind (arith, nat_tests) in
      let over : nat_le (length H + 1) n ≡ false = grind (arith, nat_tests) in
      let stamped : e.stamped ≡ s = numbered_here e H (n + 1) s here found in
      let entry : e ≡ entry_of H s = next_entry Two H e judged.0 ∙ ap (entry_of H) stamped in
      rw (fits, over) (ap (λ (x : Entry). x ∷ H) entry ∙ ap (λ G. accept G s) (sym (all_until H n all)))
  | inr over ↦
      let low : n + 1 ≤ length H = grind (arith, nat_tests) in
      let there : (e.number == n + 1) ≡ false = let number = judged.0.number in grind (arith, nat_tests) in
      let below : nat_le (length H + 1) n ≡ false = grind (arith, nat_tests) in
      rw (over, below) (more_until H n s judged.1 (omega (arith, low)) (rw there at found))
]
