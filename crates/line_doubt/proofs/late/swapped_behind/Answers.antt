use Rattle.desk_types.proofs.Common.{◌-◌, ◌∙◌, ap, ap₂, length, map, reverse, subst, refl, sym}
use Rattle.desk_types.specs.declared.limits.TheConstants.{GREATEST_MINUTE}
use Rattle.line_doubt.specs.Late.{ask_from_end, handled_from_end}
use Rattle.line_doubt.specs.Marks.{AsksRise, best_before, MarksRise}
use Rattle.line_doubt.proofs.Lateness.{asks-from-end-rise, from-end-rise}
use Rattle.line_doubt.proofs.Lists.{back-again, mapped-twice}
use Rattle.line_doubt.proofs.late.swapped_behind.Goals as goal

pub best_before-requires-clause-marks : goal.best_before-requires-clause-marks
best_before-requires-clause-marks c =
    subst (MarksRise 0) (sym (c.deref.ensures.value ∙ c.in_ok-marks.ensures)) (from-end-rise c.args.commands.now)

pub best_before-requires-clause-asks : goal.best_before-requires-clause-asks
best_before-requires-clause-asks c =
    subst (AsksRise 0) (sym (c.deref-2.ensures.value ∙ c.in_ok-asks.ensures))
    (asks-from-end-rise (length c.args.commands.now) c.args.placed.now c.requires.order)

pub returns : goal.returns
returns c = λ own are.
    let commands = c.args.commands.now in
    let placed = c.args.placed.now in
    let many = length commands in
    let marks = handled_from_end commands in
    c.numbers_above.ensures (λ p. best_before marks (ask_from_end many p)) (λ p. GREATEST_MINUTE - own p) placed
    (c.deref-3.ensures.value ∙ c.reverse.ensures.items
    ∙ ap reverse (c.in_ok-soonest.ensures
    ∙ ap₂ (λ marks asks. map (best_before marks) asks) (c.deref.ensures.value ∙ c.in_ok-marks.ensures)
    (c.deref-2.ensures.value ∙ c.in_ok-asks.ensures))
    ∙ back-again (best_before marks) (map (ask_from_end many) placed)
    ∙ mapped-twice (best_before marks) (ask_from_end many) placed _ refl)
    (c.deref-4.ensures.value ∙ c.in_ok-left.ensures ∙ ap (map (λ m. GREATEST_MINUTE - m)) are
    ∙ mapped-twice (λ m. GREATEST_MINUTE - m) own placed _ refl)
