use Rattle.desk_types.proofs.Common.{◌∙◌, ap₂, length, map, Option, subst, refl, sym}
use Rattle.desk_types.specs.declared.placement.Placement.{Placement}
use Rattle.line_doubt.specs.declared.mark.Mark.{Mark}
use Rattle.line_doubt.specs.Marks.{AsksRise, best_before, MarksRise}
use Rattle.line_doubt.specs.Sources.{ask_of, restarted_by, unsettled_marks}
use Rattle.line_doubt.proofs.Lists.{mapped-twice}
use Rattle.line_doubt.proofs.Ordering.{asks-rise, unsettled-rise}
use Rattle.line_doubt.proofs.entries.unsettled_by.Goals as goal

pub best_before-requires-clause-marks : goal.best_before-requires-clause-marks
best_before-requires-clause-marks c =
    subst (MarksRise 0) (sym (c.deref.ensures.value ∙ c.in_ok-refusals.ensures))
    (unsettled-rise (length c.args.commands.now) c.args.book.now c.requires.book)

pub best_before-requires-clause-asks : goal.best_before-requires-clause-asks
best_before-requires-clause-asks c =
    subst (AsksRise 0) (sym (c.deref-2.ensures.value ∙ c.in_ok-asks.ensures))
    (asks-rise (length c.args.commands.now) c.args.placed.now c.requires.placed)

pub returns : goal.returns
returns c =
    let book = c.args.book.now in
    let placed = c.args.placed.now in
    let refused : Placement → Option Mark = λ p. best_before (unsettled_marks book) (ask_of p) in
    c.numbers_above.ensures refused (restarted_by c.args.commands.now) placed
    (c.deref-3.ensures.value ∙ c.in_ok-refused.ensures
    ∙ ap₂ (λ marks asks. map (best_before marks) asks) (c.deref.ensures.value ∙ c.in_ok-refusals.ensures)
    (c.deref-2.ensures.value ∙ c.in_ok-asks.ensures)
    ∙ mapped-twice (best_before (unsettled_marks book)) ask_of placed _ refl)
    (c.deref-4.ensures.value ∙ c.in_ok-restarted.ensures)
