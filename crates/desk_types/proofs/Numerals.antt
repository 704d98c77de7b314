-- Digits as a test and as a number, for the lemmas of `parse` and `decimal`.
use Rattle.desk_types.proofs.Common.{◌≡◌, digits_value, is_ascii_digit, list_all, rules, true}
use Rattle.std.proofs.lemmas.Str.Parse.{IsNumeralModel, numerals_by_value}

pub own : IsNumeralModel (λ ds. list_all is_ascii_digit ds ≡ true) (digits_value 10)
own = numerals_by_value _ (search rules)
