use Rattle.desk_types.proofs.Common.{[], ◌++◌, ◌+◌, ◌∙◌, ◌∷◌, ◌≡◌, ap, append_assoc, arith, drop, drop-next}
use Rattle.desk_types.proofs.Common.{name_twice, sym, take, take-next, take_all}
use Rattle.setup_sheets.proofs.SeenNames.{HasSeen-push, name_twice-new, name_twice-seen, was-new, was-seen}
use Rattle.setup_sheets.proofs.sheet.twice_in.Goals as goal

pub returns-then-not-branch-clause-twice : goal.returns-then-not-branch-clause-twice
returns-then-not-branch-clause-twice c = λ before has.
    let ds = c.args.designators.now in
    let d = c.designator-item.result in
    let i = c.loop-designator.designator-index in
    let inv = c.loop-designator.invariant before has in
    let seen = was-seen c.loop-designator.seen (before ++ take i ds) d c.in_ok-insert.field-0 inv.seen c.in_ok-insert.ensures.added c.if-not-branch.true in
    sym (inv.none ∙ ap (name_twice (before ++ take i ds)) (drop-next ds i d (omega arith) c.designator-item.is)
    ∙ name_twice-seen (before ++ take i ds) d (drop (i + 1) ds) seen)

pub loop-designator-preserved : goal.loop-designator-preserved
loop-designator-preserved c = λ before has.
    let ds = c.args.designators.now in
    let d = c.designator-item.result in
    let i = c.loop-designator.designator-index in
    let inv = c.loop-designator.invariant before has in
    let more : before ++ take (i + 1) ds ≡ (before ++ take i ds) ++ d ∷ [] =
    ap (λ l. before ++ l) (take-next ds i d (omega arith) c.designator-item.is) ∙ sym (append_assoc before (take i ds) (d ∷ [])) in
    let new = was-new c.loop-designator.seen (before ++ take i ds) d c.in_ok-insert.field-0 inv.seen c.in_ok-insert.ensures.added c.if-not-branch.false in
    record {
      seen = rw more (HasSeen-push c.loop-designator.seen c.insert.new.self d (before ++ take i ds) inv.seen c.in_ok-insert.ensures.updates.0);
      none = inv.none ∙ ap (name_twice (before ++ take i ds)) (drop-next ds i d (omega arith) c.designator-item.is)
          ∙ name_twice-new (before ++ take i ds) d (drop (i + 1) ds) new ∙ ap (λ names. name_twice names (drop (i + 1) ds)) (sym more);
    }

pub returns-clause-seen : goal.returns-clause-seen
returns-clause-seen c = λ before has done.
    let all = take_all c.loop-designator.designator-index c.args.designators.now (omega arith) in
    rw all at (c.loop-designator.invariant before has).seen
