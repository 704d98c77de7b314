use Rattle.desk_types.proofs.Common.{◌<◌, ◌∙◌, ◌≡◌, ◌≤◌, ap, arith, digits_value, is_ascii_digit, length}
use Rattle.desk_types.proofs.Common.{List, list_all, nat_tests, Ok, Result, result_ok, rules, true, ℕ}
use Rattle.desk_types.proofs.Numerals.{own}
use Rattle.gateway_http.specs.Values.{is_numeral, number_of}
use Rattle.std.proofs.lemmas.Str.Parse.{digits_value_short, parse_gives}
use Rattle.std.specs.Str.Parse.{ParsesUnsigned}
use Rattle.gateway_http.proofs.values.number_of.Goals as goal

-- 1 to 9 digits are read as their number.
parsed : {E : Type 0} (most : ℕ) (text : List ℕ) (read : Result ℕ E) → most ≤ 9 → ParsesUnsigned 32 10 text read → is_numeral most text ≡ true → read ≡ Ok (digits_value 10 text)
parsed most text read few reads is =
    let digits : list_all is_ascii_digit text ≡ true = grind (arith, nat_tests) in
    let some : 0 < length text = grind (arith, nat_tests) in
    let short : length text ≤ 9 = grind (arith, nat_tests) in
    parse_gives own 32 text read reads digits some (omega (arith, digits_value_short own text 9 digits short))

pub returns : goal.returns
unfolding number_of
returns c =
    let numeral : is_numeral c.args.most_digits c.args.text.now ≡ true = search rules in
    let read = parsed c.args.most_digits c.args.text.now c.parse.result c.requires c.parse.ensures.value.0 numeral in
    rw numeral (c.ok.ensures.value ∙ ap result_ok read)
