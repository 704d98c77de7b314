use Rattle.desk_types.proofs.Common.{[], ◌++◌, ◌∙◌, ◌≡◌, ap, arith, Bool, false, inner_of, length, refl}
use Rattle.desk_types.proofs.Common.{rules, subst, sym, true}
use Rattle.desk_answers.proofs.Blocks.{none_pending}
use Rattle.desk_answers.specs.{Block.pending_bytes, Block.source, Counts.none_served}
use Rattle.desk_feed.proofs.{LinesOfInputs.all_ended, LinesOfInputs.end_behind, LinesOfInputs.EndsGone}
use Rattle.desk_feed.proofs.{LinesOfInputs.last_goes, LinesOfInputs.lines_go, LinesOfInputs.next_first}
use Rattle.desk_feed.proofs.{LinesOfInputs.no_end, LinesOfInputs.one_more_end, LinesOfInputs.start_gone}
use Rattle.desk_feed.proofs.{OwnersOfLines.goes_none, OwnersOfLines.goes_on, OwnersOfLines.stops_into}
use Rattle.desk_feed.specs.{Lines.lines_in, Taking.LinesGone, Taking.TakesLine}
use Rattle.desk_feed.proofs.feeding.feed.Goals as goal

pub lines-init : goal.lines-init
lines-init g c =
    let input = g.R.Read.remaining (inner_of c.args.input.now) in
    let empty = c.new-block.ensures.empty in
    let same = sym (none_pending (pending_bytes c.new-block.result) input empty) in
    let r = c.reads-most_reads.ensures in record {
      block = c.new-block.ensures.valid;
      reads = omega (arith, r);
      read_failures = refl;
      write_failures = refl;
      counted = omega (arith, ap length empty, r);
      refused = omega arith;
      ready = c.requires.ready;
      trusts = λ trusts. trusts;
      lines = [];
      ended = subst (EndsGone input 0) same (no_end input);
      gone = subst (LinesGone input []) same (start_gone input);
      answered = goes_none g.L.Owner.Stands g.L.Owner.Trusts c.args.owner.now (g.W.Write.contents (inner_of c.args.output.now));
    }

pub returns-in-Ok-serve_line-clause-read : goal.returns-in-Ok-serve_line-clause-read
returns-in-Ok-serve_line-clause-read g c =
    let got = c.in-Ok.ensures.line in
    let block = c.take_line.new.block in
    let known = g.R.Read.remaining (inner_of c.take_line.new.wire) in
    let before = source c.lines.block (g.R.Read.remaining (inner_of c.lines.input)) in
    let took : TakesLine before got.0 c.in-Ok.field-0.last (source block known) = got.2 in
    let is_last : c.in-Ok.field-0.last ≡ true = cc in
    let took = subst (λ (b : Bool). TakesLine before got.0 b (source block known)) is_last took in
    end_behind (pending_bytes block) known took.2

pub returns-in-Ok-serve_line-clause-answers : goal.returns-in-Ok-serve_line-clause-answers
returns-in-Ok-serve_line-clause-answers g c = λ G stands trusts.
    let inv = c.lines.invariant in
    let got = c.in-Ok.ensures.line in
    let raw = got.0 in
    let asked = g.R.Read.remaining (inner_of c.args.input.now) in
    let before = source c.lines.block (g.R.Read.remaining (inner_of c.lines.input)) in
    let behind = source c.take_line.new.block (g.R.Read.remaining (inner_of c.take_line.new.wire)) in
    let took : TakesLine before raw c.in-Ok.field-0.last behind = got.2 in
    let is_last : c.in-Ok.field-0.last ≡ true = cc in
    let took = subst (λ (b : Bool). TakesLine before raw b behind) is_last took in
    let contents = g.W.Write.contents in
    let all = goes_on g.L.Owner.Stands g.L.Owner.Trusts inv.lines (lines_in raw) c.args.owner.now c.lines.owner c.serve_line.new.owner
    (contents (inner_of c.args.output.now)) (contents (inner_of c.lines.output)) (contents (inner_of c.serve_line.new.output)) none_served c.lines.served c.serve_line.new.served
    c.serve_line.ensures.stays.trusts inv.answered (c.in-Ok-serve_line.ensures.answers raw got.1) G stands trusts in
    (all.0, all.1, (inv.lines ++ lines_in raw, all.2.0, last_goes asked before behind inv.lines raw inv.gone took, all.2.1))

pub lines-preserved : goal.lines-preserved
lines-preserved g c =
    let inv = c.lines.invariant in
    let got = c.in-Ok.ensures.line in
    let raw = got.0 in
    let asked = g.R.Read.remaining (inner_of c.args.input.now) in
    let before = source c.lines.block (g.R.Read.remaining (inner_of c.lines.input)) in
    let behind = source c.take_line.new.block (g.R.Read.remaining (inner_of c.take_line.new.wire)) in
    let took : TakesLine before raw c.in-Ok.field-0.last behind = got.2 in
    let not_last : c.in-Ok.field-0.last ≡ false = cc in
    let took = subst (λ (b : Bool). TakesLine before raw b behind) not_last took in
    let contents = g.W.Write.contents in
    let falls = c.in-Ok.ensures.falls in
    let few = c.serve_line.ensures.counts.up_to_one.few_answers in record {
      block = c.take_line.ensures.reads.valid;
      reads = c.take_line.ensures.reads.reads.few_reads;
      read_failures = c.in-Ok.ensures.reads.reads.kept ∙ inv.read_failures;
      write_failures = c.in-Ok-serve_line.ensures.writes.kept ∙ inv.write_failures;
      counted = omega (arith, inv.counted, falls, few);
      refused = c.serve_line.ensures.counts.up_to_one.refused;
      ready = c.serve_line.ensures.stays.ready;
      trusts = λ trusts. inv.trusts (c.serve_line.ensures.stays.trusts trusts);
      lines = inv.lines ++ lines_in raw;
      ended = one_more_end asked before behind c.lines.served.answered c.serve_line.new.served.answered raw inv.ended took (c.in-Ok-serve_line.ensures.counts.each raw got.1);
      gone = lines_go asked before behind inv.lines raw inv.gone took;
      answered = goes_on g.L.Owner.Stands g.L.Owner.Trusts inv.lines (lines_in raw) c.args.owner.now c.lines.owner c.serve_line.new.owner
          (contents (inner_of c.args.output.now)) (contents (inner_of c.lines.output)) (contents (inner_of c.serve_line.new.output)) none_served c.lines.served c.serve_line.new.served
          c.serve_line.ensures.stays.trusts inv.answered (c.in-Ok-serve_line.ensures.answers raw got.1);
    }

pub returns-in-Err-clause-answers : goal.returns-in-Err-clause-answers
returns-in-Err-clause-answers g c =
    let inv = c.lines.invariant in
    let got = c.in-Ok.ensures.line in
    let raw = got.0 in
    let asked = g.R.Read.remaining (inner_of c.args.input.now) in
    let before = source c.lines.block (g.R.Read.remaining (inner_of c.lines.input)) in
    let behind = source c.take_line.new.block (g.R.Read.remaining (inner_of c.take_line.new.wire)) in
    let took : TakesLine before raw c.in-Ok.field-0.last behind = got.2 in
    let contents = g.W.Write.contents in
    stops_into g.L.Owner.Stands g.L.Owner.Trusts inv.lines (lines_in raw) asked c.args.owner.now c.lines.owner c.serve_line.new.owner
    (contents (inner_of c.args.output.now)) (contents (inner_of c.lines.output)) (contents (inner_of c.serve_line.new.output)) c.lines.served c.serve_line.new.served
    c.serve_line.ensures.stays.trusts (λ line is. next_first asked before behind inv.lines raw line c.in-Ok.field-0.last inv.gone took is) inv.answered (c.in-Err.ensures.answers raw got.1)

pub returns-in-Err-clause-counts : goal.returns-in-Err-clause-counts
returns-in-Err-clause-counts g c =
    let inv = c.lines.invariant in
    let failed = c.in-Err.ensures.writes.failed in
    record { few_reads = search rules; kept = search rules; fault = (omega (arith, failed, inv.write_failures), c.in-Ok.ensures.reads.reads.kept ∙ inv.read_failures) }

pub returns-in-Err-Failed-clause-read : goal.returns-in-Err-Failed-clause-read
returns-in-Err-Failed-clause-read g c =
    let asked = g.R.Read.remaining (inner_of c.args.input.now) in
    all_ended asked (source c.lines.block (g.R.Read.remaining (inner_of c.lines.input))) (g.R.Read.remaining (inner_of c.take_line.new.wire)) c.lines.served c.lines.invariant.ended c.in-Err-Failed.ensures.unread

pub returns-in-Err-TooMany-clause-read : goal.returns-in-Err-TooMany-clause-read
returns-in-Err-TooMany-clause-read g c =
    let asked = g.R.Read.remaining (inner_of c.args.input.now) in
    all_ended asked (source c.lines.block (g.R.Read.remaining (inner_of c.lines.input))) (g.R.Read.remaining (inner_of c.take_line.new.wire)) c.lines.served c.lines.invariant.ended c.in-Err-TooMany.ensures.unread
