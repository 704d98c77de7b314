use Rattle.desk_types.proofs.Common.{◌==◌, codes, rules}
use Rattle.httparse.specs.Grammar.{trim_ows}
use Rattle.std.{proofs.Common.tests, proofs.lemmas.Iterator.Search.any_from_yields_List}
use Rattle.std.{proofs.lemmas.Iterator.Splits.YieldsList-from_slice_split, specs.Str.str_eq_ignore_ascii_case}
use Rattle.http_stream.proofs.head.has_close.Goals as goal

pub returns : goal.returns
returns c =
    let split = c.split.ensures in
    any_from_yields_List (λ part. str_eq_ignore_ascii_case (trim_ows part) (codes "close")) _ _ _ c.any.ensures.ran
    (YieldsList-from_slice_split _ (λ b. b == 44) c.args.value.now split.rest split.done split.closure (λ x b q k. search (rules, tests))) (λ x b q k. search (rules, tests))
