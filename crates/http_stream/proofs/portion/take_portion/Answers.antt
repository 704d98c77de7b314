use Rattle.desk_types.proofs.Common.{inner_of, on_err_weaker, rules, subst}
use Rattle.desk_answers.specs.Block.{pending_bytes, source}
use Rattle.http_stream.proofs.Portions.{keeps_inside, takes_bad, takes_large}
use Rattle.http_stream.specs.Fronts.{IsFront}
use Rattle.http_stream.proofs.portion.take_portion.Goals as goal

pub returns-in-Bad-clause-next : goal.returns-in-Bad-clause-next
returns-in-Bad-clause-next g c =
    let known = g.R.Read.remaining (inner_of c.find_front.new.wire) in
    let told = subst (IsFront c.find_front.new.block known) c.in-Bad.is c.in_ok-find_front.ensures.front in
    record { taken = search rules; portion = takes_bad (source c.args.block.now (g.R.Read.remaining (inner_of c.args.input.now))) (pending_bytes c.find_front.new.block) known c.in_ok-find_front.ensures.source told }

pub returns-in-TooLarge-clause-next : goal.returns-in-TooLarge-clause-next
returns-in-TooLarge-clause-next g c =
    let known = g.R.Read.remaining (inner_of c.find_front.new.wire) in
    let told = subst (IsFront c.find_front.new.block known) c.in-TooLarge.is c.in_ok-find_front.ensures.front in
    record { taken = search rules; portion = takes_large (source c.args.block.now (g.R.Read.remaining (inner_of c.args.input.now))) (pending_bytes c.find_front.new.block) known c.in_ok-find_front.ensures.source told.0 told.1 }

pub returns-in-Head-clause-unread : goal.returns-in-Head-clause-unread
returns-in-Head-clause-unread g c = on_err_weaker c.take_request.result
    (λ inside. keeps_inside (source c.args.block.now (g.R.Read.remaining (inner_of c.args.input.now))) (source c.find_front.new.block (g.R.Read.remaining (inner_of c.find_front.new.wire))) (g.R.Read.remaining (inner_of c.take_request.new.input))
    c.in_ok-find_front.ensures.source inside) c.take_request.ensures.unread
