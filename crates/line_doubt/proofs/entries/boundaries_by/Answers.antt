use Rattle.desk_types.proofs.Common.{◌∙◌, arith, take-next}
use Rattle.line_doubt.specs.Sources.{boundary_by, joint_of}
use Rattle.line_doubt.proofs.Lists.{mapped-next}
use Rattle.line_doubt.proofs.entries.boundaries_by.Goals as goal

pub loop-piece-preserved : goal.loop-piece-preserved
loop-piece-preserved c =
    let book = c.args.book.now in
    let placed = c.args.placed.now in
    let i = c.loop-piece.piece-index in
    let p = c.piece-item.result in
    mapped-next (boundary_by book) placed i p _ _ _ (take-next placed i p (omega arith) c.piece-item.is)
    c.loop-piece.invariant (c.number_in.ensures ∙ c.in_ok-joints.ensures (joint_of p))
    c.in_ok-push.ensures.items
