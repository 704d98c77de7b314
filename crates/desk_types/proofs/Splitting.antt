-- Splitting a text at its first tab.
use Rattle.desk_types.proofs.Common.{[], ◌+◌, ◌==◌, ◌∙◌, ◌∷◌, ◌≡◌, ◌≤◌, ap, arith, Bool, cond, drop, false}
use Rattle.desk_types.proofs.Common.{fields_in, length, length-slice_split, List, nat_lt, nat_tests, None}
use Rattle.desk_types.proofs.Common.{refl, slice_split_none, Some, take, true, ℕ}
use Rattle.std.{proofs.Common.position, proofs.lemmas.List.Splits.slice_split_first}
use Rattle.std.{proofs.lemmas.List.Sums.fails_before_first, specs.List.position_or_len}

abbrev is_tab : ℕ → Bool
is_tab byte = byte == 0x09

pub cut_at : (text : List ℕ) (end : ℕ) → position is_tab text ≡ Some end → fields_in text ≡ take end text ∷ fields_in (drop (end + 1) text)
cut_at text end is = by (nat_lt (position_or_len is_tab text) (length text)) refl is
  where
    by : (b : Bool) → nat_lt (position_or_len is_tab text) (length text) ≡ b → cond b (Some (position_or_len is_tab text)) None ≡ Some end
        → fields_in text ≡ take end text ∷ fields_in (drop (end + 1) text)
    by true inside is =
        let at : position_or_len is_tab text ≡ end = cc in
        slice_split_first is_tab text 0 (grind (arith, nat_tests)) ∙ ap (λ n. take n text ∷ fields_in (drop (n + 1) text)) at
    by false past is = absurd cc

pub cut_nowhere : (text : List ℕ) → position is_tab text ≡ None → fields_in text ≡ text ∷ []
cut_nowhere text is = by (nat_lt (position_or_len is_tab text) (length text)) refl is
  where
    by : (b : Bool) → nat_lt (position_or_len is_tab text) (length text) ≡ b → cond b (Some (position_or_len is_tab text)) None ≡ None → fields_in text ≡ text ∷ []
    by true inside is = absurd cc
    by false past is =
        let far : length text ≤ position_or_len is_tab text = grind (arith, nat_tests) in
        slice_split_none is_tab text (λ k d inside. fails_before_first is_tab text k d (omega arith))

pub some_field : (text : List ℕ) → ¬ (fields_in text ≡ [])
some_field text none = let n = length-slice_split is_tab text in let z = ap length none in absurd (omega arith)
