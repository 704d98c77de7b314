use Rattle.desk_types.proofs.Common.{◌∙◌, is_utf8-from_IsUtf8, sym}
use Rattle.line_entries.proofs.ToldMessages.{then_ok, told_bytes, told_marked, told_so}
use Rattle.line_entries.proofs.told.told_text.Goals as goal

pub returns-then-begins_marked : goal.returns-then-begins_marked
returns-then-begins_marked c = then_ok c.hex_text.result
    (λ text is. is ∙ sym (told_marked c.args.bytes.now (sym c.begins_marked.ensures ∙ c.if-begins_marked.true)))
    c.hex_text.ensures

pub returns-in-Ok : goal.returns-in-Ok
returns-in-Ok c =
    let bytes = c.args.bytes.now in
    let plain = told_so bytes (is_utf8-from_IsUtf8 bytes c.in-Ok.ensures.cases.1) (sym c.begins_marked.ensures
    ∙ c.if-begins_marked.false) in
    then_ok c.from_str.result (λ text is. is ∙ c.in-Ok.ensures.cases.0 ∙ sym plain) c.from_str.ensures.ok

pub returns-in-Err : goal.returns-in-Err
returns-in-Err c = then_ok c.hex_text-in-Err.result
    (λ text is. is ∙ sym (told_bytes c.args.bytes.now c.in-Err.ensures.cases.0)) c.hex_text-in-Err.ensures
