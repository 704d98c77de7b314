use Rattle.desk_types.proofs.Common.{◌+◌, ◌<◌, ◌∙◌, ◌≡◌, ◌≤◌, ap, arith, false, inner_of, length, Ok, refl}
use Rattle.desk_types.proofs.Common.{rules, subst, sym, take, take_all}
use Rattle.desk_answers.{proofs.Blocks.first_pending, specs.Block.pending_bytes, specs.Block.source}
use Rattle.desk_types.specs.declared.limits.TheConstants.{HEAD_LIMIT}
use Rattle.http_stream.{proofs.Portions.stops_in_head, proofs.Portions.window_is, specs.Cut.ReadsInside}
use Rattle.http_stream.{specs.Heads.IsBadHead, specs.Heads.IsUnfinished, specs.Looks.IsHeadOf}
use Rattle.std.specs.List.{slice_range}
use Rattle.http_stream.proofs.front.find_front.Goals as goal

pub returns-in-Head-clause-front : goal.returns-in-Head-clause-front
returns-in-Head-clause-front g c =
    let bytes = c.pending-bytes.result.now in
    let block = c.looks.block in
    let at = c.start-from.result in
    let n = c.min-len.result in
    let is = window_is bytes (pending_bytes block) n c.pending-bytes.ensures c.min-len.ensures in
    let few : n ≤ length (pending_bytes block) = omega (arith, c.min-len.ensures, ap length c.pending-bytes.ensures) in
    let same : slice_range block.bytes at (at + n) ≡ take n bytes =
    first_pending block.bytes (pending_bytes block) at n c.start-from.ensures.place few ∙ ap (take n) (sym c.pending-bytes.ensures) in
    let told = c.in-Head.ensures.head c.in-Head.head refl in
    (told.0, subst (λ b. IsHeadOf b c.in-Head.head told.0) (sym same) told.1, same ∙ is, omega arith, omega (arith, few, c.start-from.ensures.within))

pub returns-in-Bad-clause-front : goal.returns-in-Bad-clause-front
returns-in-Bad-clause-front g c =
    let is = window_is c.pending-bytes.result.now (pending_bytes c.looks.block) c.min-len.result c.pending-bytes.ensures c.min-len.ensures in
    subst IsBadHead is (c.in-Bad.ensures.bad refl)

pub returns-then-len-ge-HEAD_LIMIT-clause-front : goal.returns-then-len-ge-HEAD_LIMIT-clause-front
returns-then-len-ge-HEAD_LIMIT-clause-front g c =
    let is = window_is c.pending-bytes.result.now (pending_bytes c.looks.block) c.min-len.result c.pending-bytes.ensures c.min-len.ensures in (
      omega (arith, c.min-len.ensures, ap length c.pending-bytes.ensures, c.if-len-ge-HEAD_LIMIT.true),
      subst IsUnfinished is (c.in-Unfinished.ensures.unfinished refl),
    )

pub returns-then-not-branch-clause-front : goal.returns-then-not-branch-clause-front
returns-then-not-branch-clause-front g c =
    let pend = pending_bytes c.looks.block in
    let is = window_is c.pending-bytes.result.now pend c.min-len.result c.pending-bytes.ensures c.min-len.ensures in
    let few : length pend < HEAD_LIMIT = omega (arith, c.min-len.ensures, ap length c.pending-bytes.ensures, c.if-len-ge-HEAD_LIMIT.false) in
    let no : c.in_ok-more-in-Unfinished.field-0 ≡ false = cc in
    let end = c.in_ok-more-in-Unfinished.ensures.more.end (ap Ok no) in
    let told = subst IsUnfinished (is ∙ take_all HEAD_LIMIT pend (omega (arith, few)) ∙ sym end.1) (c.in-Unfinished.ensures.unfinished refl) in
    (omega (arith, few, ap length end.1), told, end.0)

pub returns-in_err-more-in-Unfinished-clause-unread : goal.returns-in_err-more-in-Unfinished-clause-unread
returns-in_err-more-in-Unfinished-clause-unread g c =
    let pend = pending_bytes c.looks.block in
    let is = window_is c.pending-bytes.result.now pend c.min-len.result c.pending-bytes.ensures c.min-len.ensures in
    let few : length pend < HEAD_LIMIT = omega (arith, c.min-len.ensures, ap length c.pending-bytes.ensures, c.if-len-ge-HEAD_LIMIT.false) in
    let told = subst IsUnfinished (is ∙ take_all HEAD_LIMIT pend (omega (arith, few))) (c.in-Unfinished.ensures.unfinished refl) in
    let old = source c.args.block.now (g.R.Read.remaining (inner_of c.args.wire.now)) in
    let new = g.R.Read.remaining (inner_of c.more.new.wire) in
    let stops : ReadsInside old new = stops_in_head old pend (g.R.Read.remaining (inner_of c.looks.wire)) new c.looks.invariant.source c.in_err-more-in-Unfinished.ensures.source.unread few told in
    search rules
