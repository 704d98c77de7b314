-- A text tells each byte.
use Rattle.desk_types.proofs.Common.{◌++◌, ◌∙◌, ◌≡◌, ◌⊎◌, ap, drop, false, inl, inr, is_utf8, List, Ok}
use Rattle.desk_types.proofs.Common.{refl, sym, true, ℕ}
use Rattle.hex.specs.Hex.{decode_of, encode_lower, IsBytes}
use Rattle.hex.proofs.HexLemmas.{decode_of-encode_lower}
use Rattle.line_entries.specs.Told.{begins_marked, hex_mark, told_text}
use Rattle.line_entries.proofs.ToldMessages.{told_marked, told_other, told_so}

two_forms : (a : List ℕ) → ((told_text a ≡ a) × (begins_marked a ≡ false)) ⊎ (told_text a ≡ hex_mark ++ encode_lower a)
two_forms a = elim (begins_marked a) as
    (λ m. begins_marked a ≡ m
    → ((told_text a ≡ a) × (begins_marked a ≡ false)) ⊎ (told_text a ≡ hex_mark ++ encode_lower a)) [
      | true ↦ λ marked. inr (told_marked a marked)
      | false ↦ λ plain. elim (is_utf8 a) as
          (λ u. is_utf8 a ≡ u → ((told_text a ≡ a) × (begins_marked a ≡ false)) ⊎
          (told_text a ≡ hex_mark ++ encode_lower a)) [
            | true ↦ λ text. inl (told_so a text plain, plain)
            | false ↦ λ other. inr (told_other a other)
          ] refl
    ] refl

same_digits : (a b : List ℕ) → IsBytes a → IsBytes b → hex_mark ++ encode_lower a ≡ hex_mark ++ encode_lower b → a ≡ b
same_digits a b as_bytes bs_bytes is =
    let digits : encode_lower a ≡ encode_lower b = ap (drop 2) is in
    let both : Ok a ≡ Ok b = sym (decode_of-encode_lower a as_bytes) ∙ ap decode_of digits
    ∙ decode_of-encode_lower b bs_bytes in
    cc

pub each_byte : (a b : List ℕ) → IsBytes a → IsBytes b → told_text a ≡ told_text b → a ≡ b
each_byte a b as_bytes bs_bytes is = by (two_forms a) (two_forms b)
  where
    by : ((told_text a ≡ a) × (begins_marked a ≡ false)) ⊎ (told_text a ≡ hex_mark ++ encode_lower a)
        → ((told_text b ≡ b) × (begins_marked b ≡ false)) ⊎ (told_text b ≡ hex_mark ++ encode_lower b) → a ≡ b
    by (inl x) (inl y) = sym x.0 ∙ is ∙ y.0
    by (inl x) (inr y) = let marked = ap begins_marked (sym x.0 ∙ is ∙ y) in let plain = x.1 in cc
    by (inr x) (inl y) = let marked = ap begins_marked (sym y.0 ∙ sym is ∙ x) in let plain = y.1 in cc
    by (inr x) (inr y) = same_digits a b as_bytes bs_bytes (sym x ∙ is ∙ y)
