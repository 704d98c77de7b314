use Rattle.desk_types.proofs.Common.{◌<◌, ◌∙◌, ◌≡◌, ◌≤◌, ap, arith, digits_value, is_ascii_digit, length}
use Rattle.desk_types.proofs.Common.{List, list_all, nat_tests, None, Ok, Result, result_ok, rules, true, ℕ}
use Rattle.desk_types.proofs.Numerals.{own}
use Rattle.imports.specs.File.{is_number}
use Rattle.std.proofs.lemmas.Str.Parse.{digits_value_short, parse_gives}
use Rattle.std.specs.Str.Parse.{ParsesUnsigned}
use Rattle.imports.proofs.fields.quantity_of.Goals as goal

-- 1 to 8 digits are read as their number.
parsed : {E : Type 0} (text : List ℕ) (read : Result ℕ E) → ParsesUnsigned 64 10 text read → is_number text ≡ true → read ≡ Ok (digits_value 10 text)
parsed text read reads is =
    let digits : list_all is_ascii_digit text ≡ true = grind (arith, nat_tests) in
    let some : 0 < length text = grind (arith, nat_tests) in
    let short : length text ≤ 8 = grind (arith, nat_tests) in
    parse_gives own 64 text read reads digits some (omega (arith, digits_value_short own text 8 digits short))

pub returns-in_err-ok : goal.returns-in_err-ok
returns-in_err-ok c =
    let number : is_number c.args.text.now ≡ true = search rules in
    let read = parsed c.args.text.now c.parse.result c.parse.ensures.value.0 number in
    let some = c.ok.ensures.value ∙ ap result_ok read in
    let none : c.ok.result ≡ None = c.in_err-ok.was in
    cc
