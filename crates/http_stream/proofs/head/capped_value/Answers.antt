use Rattle.desk_types.proofs.Common.{◌∙◌, ◌≤◌, All-get_or, ap, arith, get_or, take, take_more}
use Rattle.http_stream.proofs.Headers.{digit_is, digits_value_after-more}
use Rattle.std.specs.Str.Parse.{digits_value_after}
use Rattle.http_stream.proofs.head.capped_value.Goals as goal

pub loop-digit-preserved : goal.loop-digit-preserved
loop-digit-preserved c =
    let digits = c.args.digits.now in
    let i = c.loop-digit.digit-index in
    let here = All-get_or (λ b. (48 ≤ b) × (b ≤ 57)) digits i 0 c.loop-digit-test.true c.requires.digits in
    let d = get_or digits i 0 in
    let more = ap (digits_value_after 10 0) (take_more digits i 0 c.loop-digit-test.true) ∙ digits_value_after-more 0 (take i digits) d in
    let e = digit_is d (omega (arith, here)) (omega (arith, here)) in
    omega (arith, more, e, c.loop-digit.invariant, c.min-value.ensures, c.from.ensures)
