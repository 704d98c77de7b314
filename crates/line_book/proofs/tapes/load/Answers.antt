use Rattle.desk_types.proofs.Common.{[], ◌&&◌, ◌∙◌, ap, cond, List, Name, pair-written, same, unwrap_or}
use Rattle.line_book.specs.Guard.{tape_at}
use Rattle.line_book.proofs.tapes.load.Goals as goal

pub returns : goal.returns
returns c = λ m s.
    pair-written _ _ (c.args.machine, c.args.slot) _ (λ o. unwrap_or o []) c.in_ok-insert.ensures.updates.0 m s
    ∙ ap (λ (reels : List Name). cond (same c.args.machine m && same c.args.slot s) reels
    (tape_at c.args.tapes.now m s)) c.in_ok-tape.ensures
