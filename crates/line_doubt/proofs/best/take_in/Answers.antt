use Rattle.desk_types.proofs.Common.{◌≡◌, arith, drop-next, length, subst, take-next}
use Rattle.line_doubt.specs.Marks.{AreTaken}
use Rattle.line_doubt.proofs.Taking.{goes-on, stops-behind}
use Rattle.line_doubt.proofs.best.take_in.Goals as goal

pub loop-at-preserved : goal.loop-at-preserved
loop-at-preserved c = λ before le is.
    let marks = c.args.marks.now in
    let m = c.index-marks-at.result in
    goes-on marks c.args.to c.loop-at.at c.loop-at.best c.raise.new.best m (omega arith)
    (take-next marks c.loop-at.at m (omega arith) c.index-marks-at.is)
    (drop-next marks c.loop-at.at m (omega arith) c.index-marks-at.is)
    (omega arith) c.in_ok-raise.ensures (c.loop-at.invariant before le is)

pub returns-clause-taken : goal.returns-clause-taken
returns-clause-taken c = λ before le is.
    let marks = c.args.marks.now in
    let to = c.args.to in
    let all : c.loop-at.at ≡ length marks = omega arith in
    subst (λ n. AreTaken marks to n c.loop-at.best) all
    (stops-behind marks to c.loop-at.at c.loop-at.best (omega arith) (c.loop-at.invariant before le is))
