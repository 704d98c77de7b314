use Rattle.desk_types.proofs.Common.{◌||◌, ◌∙◌, ap, defines_on, sym}
use Rattle.feeder_state.{proofs.NameSets.put, specs.Setup.is_sheeted}
use Rattle.feeder_state.proofs.setup.note_machine.Goals as goal

pub returns-in_ok-insert : goal.returns-in_ok-insert
returns-in_ok-insert c = λ m.
    put c.in-SheetDefined.machine m _ _ (c.in_ok-insert.ensures.updates.0 m)
    ∙ ap (λ command. defines_on m command || is_sheeted c.args.sheeted.now m) (sym c.in-SheetDefined.is)
