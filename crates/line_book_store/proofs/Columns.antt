-- A row of twelve columns.
use Rattle.desk_types.proofs.Common.{[], ◌∷◌, ◌≡◌, arith, IsUtf8, length, List, refl, ℕ}
use Rattle.line_tables.proofs.Common.{column, Row}
use Rattle.std.proofs.{Common.String, lemmas.Str.IsUtf8-string_bytes}
use Rattle.std.specs.String.{string_bytes}
use Rattle.desk_types.proofs.Common.{Global}

pub is_text : (s : String Global) → IsUtf8 (string_bytes s)
is_text s = IsUtf8-string_bytes s

pub twelve : (row : Row) → length row ≡ 12 → row ≡ column row 0 ∷ column row 1 ∷ column row 2 ∷ column row 3 ∷ column row 4 ∷ column row 5 ∷ column row 6 ∷ column row 7 ∷ column row 8 ∷ column row 9 ∷ column row 10 ∷ column row 11 ∷ []
twelve (a ∷ b ∷ c ∷ d ∷ e ∷ f ∷ g ∷ h ∷ i ∷ j ∷ k ∷ l ∷ []) is = refl
twelve [] is = absurd (omega arith)
twelve (a ∷ []) is = absurd (omega arith)
twelve (a ∷ b ∷ []) is = absurd (omega arith)
twelve (a ∷ b ∷ c ∷ []) is = absurd (omega arith)
twelve (a ∷ b ∷ c ∷ d ∷ []) is = absurd (omega arith)
twelve (a ∷ b ∷ c ∷ d ∷ e ∷ []) is = absurd (omega arith)
twelve (a ∷ b ∷ c ∷ d ∷ e ∷ f ∷ []) is = absurd (omega arith)
twelve (a ∷ b ∷ c ∷ d ∷ e ∷ f ∷ g ∷ []) is = absurd (omega arith)
twelve (a ∷ b ∷ c ∷ d ∷ e ∷ f ∷ g ∷ h ∷ []) is = absurd (omega arith)
twelve (a ∷ b ∷ c ∷ d ∷ e ∷ f ∷ g ∷ h ∷ i ∷ []) is = absurd (omega arith)
twelve (a ∷ b ∷ c ∷ d ∷ e ∷ f ∷ g ∷ h ∷ i ∷ j ∷ []) is = absurd (omega arith)
twelve (a ∷ b ∷ c ∷ d ∷ e ∷ f ∷ g ∷ h ∷ i ∷ j ∷ k ∷ []) is = absurd (omega arith)
twelve (a ∷ b ∷ c ∷ d ∷ e ∷ f ∷ g ∷ h ∷ i ∷ j ∷ k ∷ l ∷ x ∷ more) is = absurd (omega arith)
