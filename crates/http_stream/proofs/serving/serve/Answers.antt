use Rattle.desk_types.proofs.Common.{[], ◌++◌, ◌+◌, ◌<◌, ◌∙◌, ◌∷◌, ◌≡◌, ap, arith, false, IfSome, inner_of}
use Rattle.desk_types.proofs.Common.{length, Option, refl, rules, Some, subst, sym, true}
use Rattle.desk_answers.proofs.Blocks.{none_pending}
use Rattle.desk_answers.specs.{Block.fuel, Block.pending_bytes, Block.source, Counts.none_served}
use Rattle.desk_types.specs.declared.limits.TheConstants.{MOST_READS}
use Rattle.http_stream.proofs.{HandlersOfPortions.goes_none, HandlersOfPortions.goes_on}
use Rattle.http_stream.proofs.{HandlersOfPortions.stops_into, Portions.end_comes, Portions.last_goes}
use Rattle.http_stream.proofs.{Portions.next_first, Portions.portions_go, Portions.start_gone}
use Rattle.http_stream.specs.{Cut.is_last, Cut.PortionsGone, Portions.portion_of, Portions.TakesNext}
use Rattle.http_stream.specs.{declared.portion.TakenPortion.TakenPortion}
use Rattle.http_stream.proofs.serving.serve.Goals as goal

pub portions-init : goal.portions-init
portions-init g c =
    let input = g.R.Read.remaining (inner_of c.args.input.now) in
    let empty = c.new-block.ensures.empty in
    let same = sym (none_pending (pending_bytes c.new-block.result) input empty) in
    let r = c.reads-most_reads.ensures in record {
      block = c.new-block.ensures.valid;
      reads = omega (arith, r);
      read_failures = refl;
      write_failures = refl;
      counted = omega (arith, ap length empty, r);
      refused = omega arith;
      ready = c.requires.ready;
      trusts = λ trusts. trusts;
      held = refl;
      portions = [];
      gone = subst (PortionsGone input []) same (start_gone input);
      answered = goes_none g.A.Handler.rule g.A.Handler.Stands g.A.Handler.Trusts c.args.handler.now (g.W.Write.contents (inner_of c.args.output.now));
    }

pub returns-in-Ok-true-clause-answers : goal.returns-in-Ok-true-clause-answers
returns-in-Ok-true-clause-answers g c = λ s stands trusts.
    let inv = c.portions.invariant in
    let asked = g.R.Read.remaining (inner_of c.args.input.now) in
    let before = source c.portions.block (g.R.Read.remaining (inner_of c.portions.input)) in
    let behind = source c.take_portion.new.block (g.R.Read.remaining (inner_of c.take_portion.new.input)) in
    let p = portion_of c.take_portion.new.block.bytes c.in-Ok-Some.taken in
    let is : c.in-Ok-Some.field-0 ≡ Some c.in-Ok-Some.taken = c.in-Ok-Some.field-0-is in
    let took = (subst (λ (o : Option TakenPortion). TakesNext o c.take_portion.new.block.bytes before behind) is c.in-Ok-Some.ensures.next).portion in
    let contents = g.W.Write.contents in
    let all = goes_on g.A.Handler.rule g.A.Handler.Stands g.A.Handler.Trusts inv.portions (p ∷ []) c.args.handler.now c.portions.handler c.serve_portion.new.handler
    (contents (inner_of c.args.output.now)) (contents (inner_of c.portions.output)) (contents (inner_of c.serve_portion.new.output)) none_served c.portions.served c.serve_portion.new.served
    c.serve_portion.ensures.stays.trusts inv.answered c.in-Ok-true.ensures.answers s stands trusts in
    let last : is_last p ≡ true = sym c.in-Ok-true.ensures.sent.last ∙ c.in-Ok-true.field-0-test in
    (all.0, all.1, (inv.portions ++ p ∷ [], all.2.0, last_goes asked before behind inv.portions p inv.gone took last, all.2.1))

pub returns-in-Ok-None-clause-answers : goal.returns-in-Ok-None-clause-answers
returns-in-Ok-None-clause-answers g c = λ s stands trusts.
    let inv = c.portions.invariant in
    let asked = g.R.Read.remaining (inner_of c.args.input.now) in
    let before = source c.portions.block (g.R.Read.remaining (inner_of c.portions.input)) in
    let behind = source c.take_portion.new.block (g.R.Read.remaining (inner_of c.take_portion.new.input)) in
    let ends = (subst (λ (o : Option TakenPortion). TakesNext o c.take_portion.new.block.bytes before behind) c.in-Ok-None.field-0-is c.in-Ok-None.ensures.next).portion in
    let all = inv.answered s stands trusts in
    (all.0, all.1, (inv.portions, all.2.0, end_comes asked before inv.portions inv.gone ends, all.2.1))

pub portions-preserved : goal.portions-preserved
portions-preserved g c =
    let inv = c.portions.invariant in
    let asked = g.R.Read.remaining (inner_of c.args.input.now) in
    let before = source c.portions.block (g.R.Read.remaining (inner_of c.portions.input)) in
    let behind = source c.take_portion.new.block (g.R.Read.remaining (inner_of c.take_portion.new.input)) in
    let p = portion_of c.take_portion.new.block.bytes c.in-Ok-Some.taken in
    let is : c.in-Ok-Some.field-0 ≡ Some c.in-Ok-Some.taken = c.in-Ok-Some.field-0-is in
    let took = (subst (λ (o : Option TakenPortion). TakesNext o c.take_portion.new.block.bytes before behind) is c.in-Ok-Some.ensures.next).portion in
    let last : is_last p ≡ false = sym c.in-Ok-false.ensures.sent.last ∙ c.in-Ok-false.field-0-test in
    let most = c.reads-most_reads.result + MOST_READS in
    let falls = subst (λ (o : Option TakenPortion). IfSome o (λ t. is_last (portion_of c.take_portion.new.block.bytes t) ≡ false
    → fuel most c.take_portion.new.input c.take_portion.new.block < fuel most c.portions.input c.portions.block)) is c.in-Ok-Some.ensures.falls in
    let falls = falls last in
    let few = c.serve_portion.ensures.sent.counts.few_answers in
    let contents = g.W.Write.contents in record {
      block = c.take_portion.ensures.reads.valid;
      reads = c.take_portion.ensures.reads.reads.few_reads;
      read_failures = c.in-Ok-Some.ensures.reads.reads.kept ∙ inv.read_failures;
      write_failures = c.in-Ok-false.ensures.sent.writes.kept ∙ inv.write_failures;
      counted = omega (arith, inv.counted, falls, few);
      refused = c.serve_portion.ensures.sent.counts.refused;
      ready = c.serve_portion.ensures.stays.ready;
      trusts = λ trusts. inv.trusts (c.serve_portion.ensures.stays.trusts trusts);
      held = c.serve_portion.ensures.stays.borrow ∙ inv.held;
      portions = inv.portions ++ p ∷ [];
      gone = portions_go asked before behind inv.portions p inv.gone took last;
      answered = goes_on g.A.Handler.rule g.A.Handler.Stands g.A.Handler.Trusts inv.portions (p ∷ []) c.args.handler.now c.portions.handler c.serve_portion.new.handler
          (contents (inner_of c.args.output.now)) (contents (inner_of c.portions.output)) (contents (inner_of c.serve_portion.new.output)) none_served c.portions.served c.serve_portion.new.served
          c.serve_portion.ensures.stays.trusts inv.answered c.in-Ok-false.ensures.answers;
    }

pub returns-in-Err-clause-answers : goal.returns-in-Err-clause-answers
returns-in-Err-clause-answers g c =
    let inv = c.portions.invariant in
    let asked = g.R.Read.remaining (inner_of c.args.input.now) in
    let before = source c.portions.block (g.R.Read.remaining (inner_of c.portions.input)) in
    let behind = source c.take_portion.new.block (g.R.Read.remaining (inner_of c.take_portion.new.input)) in
    let p = portion_of c.take_portion.new.block.bytes c.in-Ok-Some.taken in
    let is : c.in-Ok-Some.field-0 ≡ Some c.in-Ok-Some.taken = c.in-Ok-Some.field-0-is in
    let took = (subst (λ (o : Option TakenPortion). TakesNext o c.take_portion.new.block.bytes before behind) is c.in-Ok-Some.ensures.next).portion in
    let contents = g.W.Write.contents in
    stops_into g.A.Handler.rule g.A.Handler.Stands g.A.Handler.Trusts inv.portions p asked c.args.handler.now c.portions.handler c.serve_portion.new.handler
    (contents (inner_of c.args.output.now)) (contents (inner_of c.portions.output)) (contents (inner_of c.serve_portion.new.output)) c.portions.served c.serve_portion.new.served
    c.serve_portion.ensures.stays.trusts (next_first asked before behind inv.portions p inv.gone took) inv.answered c.in-Err.ensures.answers

pub returns-in-Err-clause-counts : goal.returns-in-Err-clause-counts
returns-in-Err-clause-counts g c =
    let inv = c.portions.invariant in
    let failed = c.in-Err.ensures.sent.writes.failed in
    record { few_reads = search rules; kept = search rules; fault = (omega (arith, failed, inv.write_failures), c.in-Ok-Some.ensures.reads.reads.kept ∙ inv.read_failures) }
