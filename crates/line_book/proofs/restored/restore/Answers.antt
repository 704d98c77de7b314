use Rattle.desk_types.proofs.Common.{◌+◌, ◌∙◌, ◌≡◌, arith, drop, drop-next, length, length-take-le, subst, sym, take, take-next}
use Rattle.line_book.specs.Guard.{IsGuard, IsNextNote}
use Rattle.line_book.specs.Restored.{Follow, history_of}
use Rattle.line_book.proofs.Restoring.{length-of}
use Rattle.line_book.proofs.restored.restore.Goals as goal

pub loop-note-preserved : goal.loop-note-preserved
loop-note-preserved c =
    let commands = c.args.commands.now in
    let notes = c.args.notes.now in
    let i = c.loop-note.note-index in
    let n = c.note-item.result in
    let here = drop-next notes i n (omega arith) c.note-item.is in
    let follow = subst (Follow (length commands) i c.loop-note.at) here c.loop-note.invariant.1 in
    let on = follow.0 in
    let at : c.in_ok-at.at ≡ n.after = c.in_ok-at.ensures.place in
    let long = length-of (take c.in_ok-at.at commands)
    ∙ length-take-le c.in_ok-at.at commands (omega (arith, at, on.within)) in
    let next : IsNextNote (history_of (take c.in_ok-at.at commands)) (take i notes) n = record {
      number = let many = length-take-le i notes (omega arith) in omega (arith, on.number, many);
      place = omega (arith, at, long);
      earlier = λ about is. (on.earlier about is).1;
    } in (
      subst (λ B. IsGuard (history_of (take c.in_ok-at.at commands)) B c.noted.new.self)
          (sym (take-next notes i n (omega arith) c.note-item.is))
          (c.in_ok-noted.ensures (history_of (take c.in_ok-at.at commands)) (take i notes)
          (subst (λ a. IsGuard (history_of (take a commands)) (take i notes) c.advance.new.guard) (sym at)
          (c.in_ok-at.ensures.guard (take i notes) c.loop-note.invariant.0)) next),
      subst (λ a. Follow (length commands) (i + 1) a (drop (i + 1) notes)) (sym at) follow.1,
      omega (arith, at, on.within),
    )
