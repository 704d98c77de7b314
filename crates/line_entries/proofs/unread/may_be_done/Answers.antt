use Rattle.desk_types.proofs.Common.{◌∙◌, ◌≡◌, ap, if◌then◌else◌, is_utf8, is_utf8-from_IsUtf8, IsUtf8}
use Rattle.desk_types.proofs.Common.{IsUtf8-from_is_utf8, List, None, option_and_then, refl, rules, Some, sym, true, false, ℕ}
use Rattle.cfx_profile.specs.declared.member.Member.TheVariants.{MessageName}
use Rattle.cfx_profile.specs.Forms.{text_at}
use Rattle.cfx_profile.specs.Message.{value_of}
use Rattle.serde_json.specs.Data.{Data}
use Rattle.serde_json.specs.Read.{read}
use Rattle.line_entries.specs.Unread.{may_be_done, name_in}
use Rattle.line_entries.proofs.unread.may_be_done.Goals as goal

name_some : (bytes : List ℕ) (d : Data) → IsUtf8 bytes → read bytes ≡ Some d → name_in bytes ≡ text_at MessageName d
unfolding value_of
name_some bytes d text is = rw (is_utf8-from_IsUtf8 bytes text) (ap (option_and_then (text_at MessageName)) is)

name_none : (bytes : List ℕ) → (IsUtf8 bytes → read bytes ≡ None) → name_in bytes ≡ None
unfolding value_of
name_none bytes bad = elim (is_utf8 bytes) as
    (λ b. is_utf8 bytes ≡ b → option_and_then (text_at MessageName) (if b then read bytes else None) ≡ None) [
      | true ↦ λ is. ap (option_and_then (text_at MessageName)) (bad (IsUtf8-from_is_utf8 bytes is))
      | false ↦ λ is. refl
    ] refl

pub returns-in-Ok : goal.returns-in-Ok
returns-in-Ok c = c.may_be_under.ensures
    ∙ ap may_be_done (sym (name_some c.args.told.now _ c.in-Ok.ensures.ok.0 c.in-Ok.ensures.ok.1))

pub returns-in-Err-2 : goal.returns-in-Err-2
returns-in-Err-2 c =
    let bad : IsUtf8 c.args.told.now → read c.args.told.now ≡ None = search rules in
    ap may_be_done (sym (name_none c.args.told.now bad))
