-- The text of bytes, and of a message that can be read.
use Rattle.desk_types.proofs.Common.{[], ◌&&◌, ◌++◌, ◌==◌, ◌∷◌, ◌≡◌, eqb-true, Err, false}
use Rattle.desk_types.proofs.Common.{if◌then◌else◌, IfOk, is_utf8}
use Rattle.desk_types.proofs.Common.{IsUtf8, IsUtf8-from_is_utf8, List, None, not, Ok}
use Rattle.desk_types.proofs.Common.{refl, Result, Some}
use Rattle.desk_types.proofs.Common.{subst, sym, true, ℕ}
use Rattle.cfx_profile.specs.declared.message.Said.TheVariants.{Asked}
use Rattle.cfx_profile.specs.Message.{said_in, value_of}
use Rattle.desk_types.specs.declared.command.Stamped.{Stamped}
use Rattle.hex.specs.Hex.{encode_lower}
use Rattle.json.specs.Json.{value}
use Rattle.json.specs.Lex.{lex, punctuate}
use Rattle.serde_json.specs.Data.{Data}
use Rattle.serde_json.specs.Read.{read}
use Rattle.line_entries.specs.Told.{begins_marked, hex_mark, told_text}

-- ---- any bytes

pub told_so : (bytes : List ℕ) → is_utf8 bytes ≡ true → begins_marked bytes ≡ false → told_text bytes ≡ bytes
unfolding told_text
told_so bytes text plain = rw (text, plain) refl

pub told_marked : (bytes : List ℕ) → begins_marked bytes ≡ true → told_text bytes ≡ hex_mark ++ encode_lower bytes
unfolding told_text
told_marked bytes marked = rw marked
    (elim (is_utf8 bytes) as
    (λ u. (if u && not true then bytes else hex_mark ++ encode_lower bytes) ≡ hex_mark ++ encode_lower bytes)
    [ true ↦ refl | false ↦ refl ])

pub told_other : (bytes : List ℕ) → is_utf8 bytes ≡ false → told_text bytes ≡ hex_mark ++ encode_lower bytes
unfolding told_text
told_other bytes other = rw other refl

pub told_bytes : (bytes : List ℕ) → (IsUtf8 bytes → ⊥) → told_text bytes ≡ hex_mark ++ encode_lower bytes
told_bytes bytes none = elim (is_utf8 bytes) as
    (λ b. is_utf8 bytes ≡ b → told_text bytes ≡ hex_mark ++ encode_lower bytes)
    [ true ↦ λ e. absurd (none (IsUtf8-from_is_utf8 bytes e)) | false ↦ λ e. told_other bytes e ] refl

pub then_ok : {X F : Type 0} {P Q : X → Type 0} (r : Result X F) → ((x : X) → P x → Q x) → IfOk r P → IfOk r Q
then_ok (Ok x) so p = so x p
then_ok (Err e) so p = p

-- ---- a message

no_json : (rest : List ℕ) → read (0x5c ∷ rest) ≡ None
unfolding lex punctuate value
no_json rest = refl

no_value : (bytes : List ℕ) → is_utf8 bytes ≡ false → value_of bytes ≡ None
unfolding value_of
no_value bytes other = rw other refl

no_marked_value : (rest : List ℕ) → value_of (0x5c ∷ rest) ≡ None
unfolding value_of
no_marked_value rest = elim (is_utf8 (0x5c ∷ rest)) as
    (λ b. (if b then read (0x5c ∷ rest) else None) ≡ None) [ true ↦ no_json rest | false ↦ refl ]

value_plain : (bytes : List ℕ) (d : Data) → value_of bytes ≡ Some d → begins_marked bytes ≡ false
value_plain [] d is = refl
value_plain (b ∷ rest) d is = elim (b == 0x5c) as (λ t. (b == 0x5c) ≡ t → (b == 0x5c) ≡ false) [
  | true ↦ λ e. let none = subst
      (λ x. value_of (x ∷ rest) ≡ None) (sym (eqb-true b 0x5c e)) (no_marked_value rest) in cc
  | false ↦ λ e. e
] refl

value_utf8 : (bytes : List ℕ) (d : Data) → value_of bytes ≡ Some d → is_utf8 bytes ≡ true
value_utf8 bytes d is = elim (is_utf8 bytes) as
    (λ t. is_utf8 bytes ≡ t → is_utf8 bytes ≡ true) [
      | true ↦ λ e. e
      | false ↦ λ e. let none = no_value bytes e in
          cc
    ] refl

unsaid : (bytes : List ℕ) (s : Stamped) → value_of bytes ≡ None → said_in bytes ≡ Ok (Asked s) → told_text bytes ≡ bytes
unfolding said_in
unsaid bytes s none is = cc

-- A message that can be read is told as it came.
pub message_told : (bytes : List ℕ) (s : Stamped) → said_in bytes ≡ Ok (Asked s) → told_text bytes ≡ bytes
message_told bytes s is = elim (value_of bytes) as (λ v. value_of bytes ≡ v → told_text bytes ≡ bytes) [
  | None ↦ λ e. unsaid bytes s e is
  | Some d ↦ λ e. told_so bytes (value_utf8 bytes d e) (value_plain bytes d e)
] refl
