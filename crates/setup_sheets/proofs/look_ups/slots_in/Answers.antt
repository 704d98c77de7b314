use Rattle.desk_types.proofs.Common.{◌∙◌, ap, option_or, slot_in, sym}
use Rattle.setup_sheets.{proofs.SheetLookUps.slot_in-last, specs.LookUps.slot_at}
use Rattle.setup_sheets.proofs.look_ups.slots_in.Goals as goal

pub loop-row-preserved : goal.loop-row-preserved
loop-row-preserved c = λ d.
    ap (option_or (slot_in c.in-Some.before.now d)) (c.in_ok-note_row.ensures d)
    ∙ slot_in-last c.in-Some.before.now c.in-Some.row.now d (slot_at c.loop-row.slots d)
    ∙ ap (λ rows. option_or (slot_in rows d) (slot_at c.loop-row.slots d)) (sym c.in-Some.ensures.cases.0)
    ∙ c.loop-row.invariant d
