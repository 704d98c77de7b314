-- Names are text.
use Rattle.desk_types.proofs.Common.{◌<◌, ◌≡◌, ◌≤◌, All, arith, cases_lt, inl, inr, is_designator_byte}
use Rattle.desk_types.proofs.Common.{IsUtf8, IsUtf8-from_ascii, length, List, nat_tests, true, ℕ}
use Rattle.std.{proofs.lemmas.List.get_or_past, specs.List.AllPass, specs.List.slice_index}

pub IsUtf8-printable : (bytes : List ℕ) → All (λ b. (0x20 ≤ b) × (b ≤ 0x7e)) bytes → IsUtf8 bytes
IsUtf8-printable bytes each = IsUtf8-from_ascii bytes at
  where
    at : (i : ℕ) → slice_index bytes i < 128
    at i = elim (cases_lt i (length bytes)) [
      | inl inside ↦ omega (arith, each i 0 inside)
      | inr past ↦ omega (arith, get_or_past bytes i 0 past)
    ]

printable-mark : (b : ℕ) → is_designator_byte b ≡ true → (0x20 ≤ b) × (b ≤ 0x7e)
printable-mark b is = grind (arith, nat_tests)

pub printable-marks : (bytes : List ℕ) → AllPass is_designator_byte bytes → All (λ b. (0x20 ≤ b) × (b ≤ 0x7e)) bytes
printable-marks bytes each = λ k d inside. printable-mark _ (each k d inside)
