use Rattle.desk_types.proofs.Common.{◌==◌, ◌∙◌, ◌≡◌, ap, decimal, IsUtf8, IsUtf8-from_ascii}
use Rattle.desk_types.proofs.Common.{nat_list_eq_equiv, not, pointwise, subst, sym}
use Rattle.std.proofs.lemmas.Fmt.{IsAscii-decimal, parse-decimal}
use Rattle.desk_types.proofs.stored_number.number.Goals as goal

pub returns-in_default-clause-refused : goal.returns-in_default-clause-refused
returns-in_default-clause-refused c n fits is = c.in_default.ensures.cases.0 (subst IsUtf8 (sym is) (IsUtf8-from_ascii _ (IsAscii-decimal n fits)))

pub returns-in_default-parse-clause-refused : goal.returns-in_default-parse-clause-refused
returns-in_default-parse-clause-refused c n fits is =
    let read = parse-decimal 64 n c.in-Ok.chars.now c.parse.result fits fits (c.in-Ok.ensures.cases.0 ∙ is) c.parse.ensures.value.0 in
    c.in_default-parse.not-Ok n read

pub returns-then-ne-clause-refused : goal.returns-then-ne-clause-refused
returns-then-ne-clause-refused c n fits is =
    let read = parse-decimal 64 n c.in-Ok.chars.now c.parse.result fits fits (c.in-Ok.ensures.cases.0 ∙ is) c.parse.ensures.value.0 in
    let same_number : c.in-Ok-parse.n ≡ n = cc in
    let same_text : c.as_bytes.result.now ≡ c.args.text.now = c.as_bytes.ensures.value ∙ c.format.ensures.text ∙ ap decimal same_number ∙ sym is in
    let differ = sym c.if-ne.true ∙ c.ne.ensures ∙ ap (λ text. not (pointwise ◌==◌ text c.args.text.now)) same_text ∙ ap not (nat_list_eq_equiv.refl c.args.text.now) in
    cc
