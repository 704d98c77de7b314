use Rattle.desk_types.proofs.Common.{[], ◌++◌, ◌∙◌, ◌∷◌, ◌≡◌, All-append, ap, append_assoc, arith, Consumes}
use Rattle.desk_types.proofs.Common.{Consumes-trans, false, inner_of, length, length-drop, rules, subst, sym}
use Rattle.desk_types.proofs.Common.{take}
use Rattle.desk_answers.specs.Block.{pending_bytes, source}
use Rattle.desk_feed.proofs.TakenLines.{all_goes, line_goes}
use Rattle.desk_feed.specs.{Lines.is_feed, Taking.ReadsInside}
use Rattle.std.proofs.KnownBytes.{Consumes-kept}
use Rattle.desk_feed.proofs.taking.take_line.Goals as goal

pub returns-in-Some-clause-line : goal.returns-in-Some-clause-line
returns-in-Some-clause-line g c =
    let inv = c.loop-line.invariant in
    let bytes = c.pending-bytes.result.now in
    let n = c.in-Some.count in
    let s = c.in-Some.ensures in
    let here = Consumes-kept _ _ _ _ inv.gone c.in_ok-ready.ensures.source in
    let step = line_goes bytes (pending_bytes c.ready.new.block) (pending_bytes c.give.new.self) n (g.R.Read.remaining (inner_of c.ready.new.wire)) c.pending-bytes.ensures s.0 s.2 c.give.ensures.pending in
    let all = Consumes-trans _ _ _ _ _ here step in (
      inv.raw ++ take n bytes,
      c.extend_line-line.ensures inv.raw inv.holds,
      (
        All-append (λ b. is_feed b ≡ false) inv.raw (take n bytes) inv.no_feed s.1,
        subst (Consumes _ _) (sym (append_assoc inv.raw (take n bytes) (10 ∷ []))) all,
      ),
    )

pub loop-line-preserved : goal.loop-line-preserved
loop-line-preserved g c =
    let inv = c.loop-line.invariant in
    let bytes = c.pending-bytes.result.now in
    let pend = pending_bytes c.ready.new.block in
    let left = c.give-in-None.ensures.pending in
    let here = Consumes-kept _ _ _ _ inv.gone c.in_ok-ready.ensures.source in
    let step = all_goes bytes pend (pending_bytes c.give-in-None.new.self) (g.R.Read.remaining (inner_of c.ready.new.wire)) c.pending-bytes.ensures left in record {
      block = c.give-in-None.ensures.valid;
      reads = c.ready.ensures.reads.reads.few_reads;
      failures = c.in_ok-ready.ensures.reads.reads.kept ∙ inv.failures;
      falls = omega (arith, c.in_ok-ready.ensures.falls.falls, inv.falls, ap length left, length-drop (length bytes) pend);
      raw = inv.raw ++ bytes;
      gone = Consumes-trans _ _ _ _ _ here step;
      no_feed = All-append (λ b. is_feed b ≡ false) inv.raw bytes inv.no_feed c.in-None.ensures;
      holds = c.extend_line-line-in-None.ensures inv.raw inv.holds;
    }

pub returns-in_err-ready-clause-unread : goal.returns-in_err-ready-clause-unread
returns-in_err-ready-clause-unread g c =
    let inv = c.loop-line.invariant in
    let before = source c.args.block.now (g.R.Read.remaining (inner_of c.args.wire.now)) in
    let behind = g.R.Read.remaining (inner_of c.ready.new.wire) in
    let stops : ReadsInside before behind = (inv.raw, inv.no_feed, Consumes-kept _ _ _ _ inv.gone c.in_err-ready.ensures.unread) in
    search rules
