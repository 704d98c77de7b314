use Rattle.desk_types.proofs.Common.{◌≡◌, false, if◌then◌else◌, is_utf8, is_utf8-from_IsUtf8, IsUtf8}
use Rattle.desk_types.proofs.Common.{IsUtf8-from_is_utf8, None, refl, rules, true}
use Rattle.cfx_profile.specs.Message.{value_of}
use Rattle.serde_json.specs.Read.{read}
use Rattle.line_answers.proofs.object.value_of.Goals as goal

pub returns-in-Ok-clause-ok : goal.returns-in-Ok-clause-ok
unfolding value_of
returns-in-Ok-clause-ok c = rw (is_utf8-from_IsUtf8 c.args.bytes.now c.in-Ok.ensures.ok.0) c.in-Ok.ensures.ok.1

pub returns-in-Err-2-clause-bad : goal.returns-in-Err-2-clause-bad
unfolding value_of
returns-in-Err-2-clause-bad c =
    let bytes = c.args.bytes.now in
    let bad : IsUtf8 bytes → read bytes ≡ None = search rules in
    λ _. elim (is_utf8 bytes) as (λ b. is_utf8 bytes ≡ b → (if b then read bytes else None) ≡ None)
    [ true ↦ λ is. bad (IsUtf8-from_is_utf8 bytes is) | false ↦ λ is. refl ] refl
