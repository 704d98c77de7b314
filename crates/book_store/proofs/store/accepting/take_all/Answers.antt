use Rattle.desk_types.proofs.Common.{[], ◌++◌, ◌+◌, ◌∙◌, ◌∷◌, ◌≡◌, ap, append-nil, append_assoc, drop, IfSome}
use Rattle.desk_types.proofs.Common.{subst, sym, take, take-next}
use Rattle.line_book.specs.{Guard.IsGuard}
use Rattle.book_store.proofs.Accepting.{next_here}
use Rattle.book_store.specs.Accepted.{AreNextNotes}
use Rattle.book_store.proofs.store.accepting.take_all.Goals as goal

pub loop-note-init : goal.loop-note-init
loop-note-init c = λ H B guard next. (
  subst (λ B. IfSome c.args.guard.now (IsGuard H B)) (sym (append-nil B)) guard,
  subst (λ B. AreNextNotes H B c.args.notes.now) (sym (append-nil B)) next,
)

pub loop-note-preserved : goal.loop-note-preserved
loop-note-preserved c = λ H B guard next.
    let was = c.loop-note.invariant H B guard next in
    let i = c.loop-note.note-index in
    let n = c.note-item.result in
    let notes = c.args.notes.now in
    let here = next_here H B notes i n c.loop-note-test.true c.note-item.is was.1 in
    let more : B ++ take (i + 1) notes ≡ (B ++ take i notes) ++ n ∷ [] = ap (λ t. B ++ t)
    (take-next notes i n c.loop-note-test.true c.note-item.is) ∙ sym (append_assoc B (take i notes) (n ∷ [])) in (
      subst (λ B. IfSome c.take_in.new.guard (IsGuard H B)) (sym more)
          (c.take_in.ensures H (B ++ take i notes) was.0 here.0),
      subst (λ B. AreNextNotes H B (drop (i + 1) notes)) (sym more) here.1,
    )
