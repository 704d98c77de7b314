use Rattle.desk_types.proofs.Common.{◌∙◌, ap, ap₂, IfOk-weaker, length, map, refl, subst, sym}
use Rattle.desk_types.specs.declared.placement.Placement.{Placement}
use Rattle.line_doubt.specs.Marks.{AsksRise, best_before, MarksRise, value_of}
use Rattle.line_doubt.specs.Sources.{ask_of, restart_marks}
use Rattle.line_doubt.proofs.Lists.{mapped-twice}
use Rattle.line_doubt.proofs.Ordering.{asks-rise}
use Rattle.line_doubt.proofs.Unsettling.{restarts-rise}
use Rattle.line_doubt.proofs.entries.restarts_before.Goals as goal

pub best_before-requires-clause-marks : goal.best_before-requires-clause-marks
best_before-requires-clause-marks c =
    subst (MarksRise 0) (sym (c.deref.ensures.value ∙ c.in_ok-restarts.ensures)) (restarts-rise c.args.commands.now)

pub best_before-requires-clause-asks : goal.best_before-requires-clause-asks
best_before-requires-clause-asks c =
    subst (AsksRise 0) (sym (c.deref-2.ensures.value ∙ c.in_ok-asks.ensures))
    (asks-rise (length c.args.commands.now) c.args.placed.now c.requires)

pub returns : goal.returns
returns c =
    let marks = restart_marks c.args.commands.now in
    let placed = c.args.placed.now in
    IfOk-weaker c.values_of.result _ _
    (λ found is. is ∙ ap (map value_of) (c.deref-3.ensures.value ∙ c.in_ok-last.ensures
    ∙ ap₂ (λ marks asks. map (best_before marks) asks) (c.deref.ensures.value ∙ c.in_ok-restarts.ensures)
    (c.deref-2.ensures.value ∙ c.in_ok-asks.ensures)
    ∙ mapped-twice (best_before marks) ask_of placed _ refl)
    ∙ mapped-twice value_of (λ (p : Placement). best_before marks (ask_of p)) placed _ refl)
    c.values_of.ensures
