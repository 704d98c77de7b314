use Rattle.desk_types.proofs.Common.{◌-◌, ◌∙◌, ◌≡◌, ◌≤◌, append-nil, arith, Consumes, Consumes-trans}
use Rattle.desk_types.proofs.Common.{inner_of, length, length-take, rules, subst, sym, take, ℕ}
use Rattle.http_stream.proofs.Bodies.{put_mid_room, take-put_mid_some}
use Rattle.std.proofs.KnownBytes.{Consumes-kept}
use Rattle.http_stream.proofs.body.read_whole.Goals as goal

pub returns-in-Ok-eq0-clause-room : goal.returns-in-Ok-eq0-clause-room
returns-in-Ok-eq0-clause-room g c =
    let inv = c.loop-got.invariant in
    let e : c.in-Ok-eq0.field-0 ≡ 0 = cc in
    let read = c.in-Ok-eq0.ensures.bytes in
    let room = c.loop-got.room in
    let all = Consumes-trans _ _ _ _ _ inv.bytes (subst (λ (n : ℕ). Consumes (g.R.Read.remaining (inner_of c.loop-got.wire)) (g.R.Read.remaining (inner_of c.read.new.self)) (take n c.read.new.buf)) e read.0) in record {
      whole = search rules;
      end = λ _. (
        take c.loop-got.got room,
        omega (arith, length-take c.loop-got.got room, c.loop-got.auto.room, c.loop-got-test.true),
        subst (Consumes _ _) (append-nil (take c.loop-got.got room)) all,
        read.1 e (omega (arith, c.read.auto.buf, c.loop-got-test.true)),
      );
    }

pub loop-got-preserved : goal.loop-got-preserved
loop-got-preserved g c =
    let inv = c.loop-got.invariant in
    let room = c.loop-got.room in
    let buf = c.read.new.buf in
    let got = c.loop-got.got in
    let n = c.in-Ok.count in
    let fits : n ≤ length buf = c.in-Ok.ensures.bound.0 in
    let all = Consumes-trans _ _ _ _ _ inv.bytes c.in-Ok.ensures.bytes.0 in record {
      within = put_mid_room room buf got (length room - got) n inv.within fits;
      bytes = subst (Consumes _ _) (sym (take-put_mid_some room buf got (length room - got) n inv.within fits)) all;
      reads = omega (arith, c.read.ensures.reads, c.if-reads-most_reads.false, c.reads.ensures, c.ranges.most_reads.fits);
      more_reads = omega (arith, c.read.ensures.reads, inv.more_reads, c.if-reads-most_reads.false, c.reads.ensures, c.ranges.most_reads.fits);
      failures = c.in-Ok.ensures.kept ∙ inv.failures;
    }

pub returns-then-reads-most_reads-clause-unread : goal.returns-then-reads-most_reads-clause-unread
returns-then-reads-most_reads-clause-unread g c =
    let room = c.loop-got.room in
    (take c.loop-got.got room, omega (arith, length-take c.loop-got.got room, c.loop-got.auto.room, c.loop-got-test.true), c.loop-got.invariant.bytes)

pub returns-in-Err-clause-unread : goal.returns-in-Err-clause-unread
returns-in-Err-clause-unread g c =
    let room = c.loop-got.room in (
      take c.loop-got.got room,
      omega (arith, length-take c.loop-got.got room, c.loop-got.auto.room, c.loop-got-test.true),
      Consumes-kept (g.R.Read.remaining (inner_of c.args.wire.now)) (g.R.Read.remaining (inner_of c.loop-got.wire)) (g.R.Read.remaining (inner_of c.read.new.self)) (take c.loop-got.got room) c.loop-got.invariant.bytes c.in-Err.ensures.bytes,
    )
