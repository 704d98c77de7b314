use Rattle.desk_types.proofs.Common.{is_ascii_digit, rules}
use Rattle.std.proofs.{Common.tests, lemmas.Iterator.YieldsList-from_slice}
use Rattle.std.proofs.{lemmas.Iterator.Search.all_from_yields_List}
use Rattle.imports.proofs.fields.are_digits.Goals as goal

pub returns : goal.returns
returns c = all_from_yields_List is_ascii_digit _ _ _ c.all.ensures.ran (YieldsList-from_slice c.args.text.now cc) (λ x b q k. search (rules, tests))
