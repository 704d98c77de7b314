use Rattle.desk_types.proofs.Common.{◌≡◌, false, if◌then◌else◌, is_utf8, is_utf8-from_IsUtf8, IsUtf8}
use Rattle.desk_types.proofs.Common.{IsUtf8-from_is_utf8, List, None, refl, rules, Some, sym, true, ℕ}
use Rattle.cfx_profile.specs.Message.{value_of}
use Rattle.serde_json.specs.Data.{Data}
use Rattle.serde_json.specs.Read.{read}
use Rattle.line_members.proofs.body.value_of.Goals as goal

some_of : (bytes : List ℕ) (d : Data) → IsUtf8 bytes → read bytes ≡ Some d → value_of bytes ≡ Some d
unfolding value_of
some_of bytes d text is = rw (is_utf8-from_IsUtf8 bytes text) is

none_of : (bytes : List ℕ) → (IsUtf8 bytes → read bytes ≡ None) → None ≡ value_of bytes
unfolding value_of
none_of bytes bad =
    elim (is_utf8 bytes) as (λ b. is_utf8 bytes ≡ b → None ≡ (if b then read bytes else None))
    [ true ↦ λ is. sym (bad (IsUtf8-from_is_utf8 bytes is)) | false ↦ λ is. refl ] refl

pub returns-in-Ok : goal.returns-in-Ok
returns-in-Ok c = sym (some_of c.args.told.now _ c.in-Ok.ensures.ok.0 c.in-Ok.ensures.ok.1)

pub returns-in-Err-2 : goal.returns-in-Err-2
returns-in-Err-2 c =
    let bad : IsUtf8 c.args.told.now → read c.args.told.now ≡ None = search rules in
    none_of c.args.told.now bad
