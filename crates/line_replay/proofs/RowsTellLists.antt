-- The rows of a history determine it.
use Rattle.desk_types.proofs.Common.{[], ◌+◌, ◌<◌, ◌==◌, ◌∙◌, ◌∷◌, ◌≡◌, AllByRecursion, ap, ap₂, arith, Bool}
use Rattle.desk_types.proofs.Common.{entry_of, false, filter, History, if◌then◌else◌, IsCommand, IsJudged}
use Rattle.desk_types.proofs.Common.{IsNext, IsPermutation, length, length_permutation, List, nat_tests, not}
use Rattle.desk_types.proofs.Common.{pos, refl, stored_text, subst₂, sym, true, ℕ}
use Rattle.line_tables.proofs.Common.{filter_none, Int, IsPermutation-filter, one_permutation, Row, Rules}
use Rattle.desk_types.specs.{declared.command.Command.Command, declared.command.Entry.Entry}
use Rattle.desk_types.specs.{declared.command.Stamped.Stamped}
use Rattle.line_replay.specs.Rows.{entry_row, rows_of}
use Rattle.sqlite_trees.proofs.ListLemmas.{filter_all}

pub stamped_same : (a b : Stamped) → a.uid ≡ b.uid → a.source ≡ b.source → a.minute ≡ b.minute → a.command ≡ b.command → a ≡ b
stamped_same a b u s m c =
    ap (λ x. record a { uid = x }) u ∙ ap (λ x. record a { uid = b.uid; source = x }) s
    ∙ ap (λ x. record a { uid = b.uid; source = b.source; minute = x }) m ∙ ap (λ x. record b { command = x }) c

-- Different commands in their ranges have different texts.
abbrev pub TextsTell : Type 0
TextsTell = (a b : Command) → IsCommand a → IsCommand b → stored_text a ≡ stored_text b → a ≡ b

pub entry_parts : (e f : Entry) → e.number ≡ f.number → e.stamped ≡ f.stamped → e.effective ≡ f.effective → e ≡ f
entry_parts e f number stamped effective =
    ap (λ n. record e { number = n }) number ∙ ap (λ s. record e { number = f.number; stamped = s }) stamped ∙ ap (λ m. record f { effective = m }) effective

pub next_entry : (rules : Rules) (H : History) (e : Entry) → IsNext rules H e → e ≡ entry_of H e.stamped
next_entry rules H e next = entry_parts e (entry_of H e.stamped) next.number refl next.effective

pub rows-length : (H : History) → length (rows_of H) ≡ length H
rows-length [] = refl
rows-length (e ∷ H) = omega (arith, rows-length H)

abbrev number_in : Row → ℕ
number_in (Int (pos n) ∷ more) = n
number_in _ = 0

abbrev is_number : ℕ → Row → Bool
is_number n row = number_in row == n

none_above : (rules : Rules) (H : History) (n : ℕ) → IsJudged rules H → length H < n → AllByRecursion (λ r. is_number n r ≡ false) (rows_of H)
none_above rules [] n judged h = tt
none_above rules (e ∷ H) n judged h = (grind (arith, nat_tests, judged.0.number), none_above rules H n judged.1 (omega arith))

flipped : (rows : List Row) (n : ℕ) → AllByRecursion (λ r. is_number n r ≡ false) rows → AllByRecursion (λ r. not (is_number n r) ≡ true) rows
flipped [] n h = tt
flipped (r ∷ rows) n h = (ap not h.0, flipped rows n h.1)

itself : (n : ℕ) → (n == n) ≡ true
itself n = grind (arith, nat_tests)

module _ (rules : Rules) where
  last_is : (e : Entry) (H : History) (n : ℕ) → IsJudged rules (e ∷ H) → n ≡ length H + 1 → is_number n (entry_row H e) ≡ true
  last_is e H n judged is = ap (λ m. e.number == m) (is ∙ sym judged.0.number) ∙ itself e.number

  heads : (e : Entry) (H : History) (n : ℕ) → IsJudged rules (e ∷ H) → n ≡ length H + 1 → filter (is_number n) (rows_of (e ∷ H)) ≡ entry_row H e ∷ []
  heads e H n judged is =
      ap (λ b. if b then entry_row H e ∷ filter (is_number n) (rows_of H) else filter (is_number n) (rows_of H)) (last_is e H n judged is)
      ∙ ap (λ l. entry_row H e ∷ l) (filter_none (is_number n) (rows_of H) (none_above rules H n judged.1 (omega (arith, is))))

  tails : (e : Entry) (H : History) (n : ℕ) → IsJudged rules (e ∷ H) → n ≡ length H + 1 → filter (λ r. not (is_number n r)) (rows_of (e ∷ H)) ≡ rows_of H
  tails e H n judged is =
      ap (λ b. if not b then entry_row H e ∷ filter (λ r. not (is_number n r)) (rows_of H) else filter (λ r. not (is_number n r)) (rows_of H)) (last_is e H n judged is)
      ∙ filter_all (λ r. not (is_number n r)) (rows_of H) (flipped (rows_of H) n (none_above rules H n judged.1 (omega (arith, is))))

  module _ (tells : TextsTell) where
    entry_same : (e f : Entry) (G H : History) → IsNext rules G e → IsNext rules H f → entry_row G e ≡ entry_row H f → e ≡ f
    entry_same e f G H is_e is_f row =
        let number : e.number ≡ f.number = cc in
        let uid : e.stamped.uid ≡ f.stamped.uid = cc in
        let source : e.stamped.source ≡ f.stamped.source = cc in
        let own : e.stamped.minute ≡ f.stamped.minute = cc in
        let effective : e.effective ≡ f.effective = cc in
        let text : stored_text e.stamped.command ≡ stored_text f.stamped.command = cc in
        let stamped = stamped_same e.stamped f.stamped uid source own (tells e.stamped.command f.stamped.command is_e.in_range.stamped.command is_f.in_range.stamped.command text) in
        entry_parts e f number stamped effective

    one_same : (x y : Row) → IsPermutation (x ∷ []) (y ∷ []) → y ≡ x
    one_same x y h = let e = one_permutation x (y ∷ []) h in cc

    pub rows_tell : (G H : History) → IsJudged rules G → IsJudged rules H → IsPermutation (rows_of G) (rows_of H) → G ≡ H
    rows_tell [] [] g h same = refl
    rows_tell [] (f ∷ H) g h same = absurd (omega (arith, length_permutation _ _ same))
    rows_tell (e ∷ G) [] g h same = absurd (omega (arith, length_permutation _ _ same))
    rows_tell (e ∷ G) (f ∷ H) g h same =
        let n = length G + 1 in
        let long : n ≡ length H + 1 = omega (arith, length_permutation _ _ same, rows-length G, rows-length H) in
        let first = subst₂ (λ a b. IsPermutation a b) (heads e G n g refl) (heads f H n h long) (IsPermutation-filter (is_number n) _ _ same) in
        let rest = subst₂ (λ a b. IsPermutation a b) (tails e G n g refl) (tails f H n h long) (IsPermutation-filter (λ r. not (is_number n r)) _ _ same) in
        ap₂ (λ x l. x ∷ l) (entry_same e f G H g.0 h.0 (sym (one_same (entry_row G e) (entry_row H f) first))) (rows_tell G H g.1 h.1 rest)
