use Rattle.desk_types.proofs.Common.{◌∙◌, ap₂, map, subst, refl, sym}
use Rattle.line_doubt.specs.Late.{handled_marks}
use Rattle.line_doubt.specs.Marks.{best_before, MarksRise}
use Rattle.line_doubt.specs.Sources.{ask_of}
use Rattle.line_doubt.proofs.Lateness.{handled-rise}
use Rattle.line_doubt.proofs.Lists.{mapped-twice}
use Rattle.line_doubt.proofs.late.swapped_before.Goals as goal

pub best_before-requires-clause-marks : goal.best_before-requires-clause-marks
best_before-requires-clause-marks c =
    subst (MarksRise 0) (sym (c.deref.ensures.value ∙ c.in_ok-marks.ensures)) (handled-rise c.args.commands.now)

pub returns : goal.returns
returns c = λ own are.
    let commands = c.args.commands.now in
    let placed = c.args.placed.now in
    c.numbers_above.ensures (λ p. best_before (handled_marks commands) (ask_of p)) own placed
    (c.deref-3.ensures.value ∙ c.in_ok-latest.ensures
    ∙ ap₂ (λ marks asks. map (best_before marks) asks) (c.deref.ensures.value ∙ c.in_ok-marks.ensures)
    (c.deref-2.ensures.value ∙ c.in_ok-asks.ensures)
    ∙ mapped-twice (best_before (handled_marks commands)) ask_of placed _ refl) are
