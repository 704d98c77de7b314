use Rattle.desk_types.proofs.Common.{◌∙◌, ◌≡◌, ap, Bor, Err, false, if◌then◌else◌, is_utf8}
use Rattle.desk_types.proofs.Common.{is_utf8-from_IsUtf8, IsUtf8, IsUtf8-from_is_utf8, List, None, Ok, refl}
use Rattle.desk_types.proofs.Common.{Result, result_ok, Some, true, ℕ}
use Rattle.imports.specs.File.{text_of}
use Rattle.std.{proofs.Common.option_map, specs.Prelude.MatchResult}
use Rattle.imports.proofs.fields.text_at.Goals as goal

-- Reading bytes as UTF-8 gives the same bytes.
text_of-read : {E : Type 0} (Q : E → Type 0) (bytes : List ℕ) (read : Result (Bor (List ℕ)) E)
    → MatchResult read (λ text. (text.now ≡ bytes) × IsUtf8 bytes) (λ e. ¬ (IsUtf8 bytes) × Q e) → option_map (λ text. text.now) (result_ok read) ≡ text_of bytes
text_of-read Q bytes (Ok text) is = rw (is_utf8-from_IsUtf8 bytes is.1, is.0) refl
text_of-read Q bytes (Err e) is =
    elim (is_utf8 bytes) as (λ b. is_utf8 bytes ≡ b → None ≡ (if b then Some bytes else None))
    [ true ↦ λ yes. absurd (is.0 (IsUtf8-from_is_utf8 bytes yes)) | false ↦ λ no. refl ] refl

pub returns : goal.returns
returns c = ap (option_map (λ text. text.now)) c.ok.ensures.value ∙ text_of-read _ _ _ c.from_utf8.ensures.cases ∙ ap text_of c.field.ensures
