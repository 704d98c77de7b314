use Rattle.desk_types.proofs.Common.{◌∙◌, ap, false, option_map_or, sym}
use Rattle.feeder_state.proofs.AcceptedChanges.{state-board, state-two}
use Rattle.feeder_state.proofs.RestoredWork.{busy-row, is_at_work}
use Rattle.std.specs.Option.{option_copied}
use Rattle.feeder_state.proofs.desk.StateDeskFacts.is_in_work.Goals as goal

pub returns-in-Some : goal.returns-in-Some
returns-in-Some c = λ H state.
    c.is_some.ensures ∙ ap (λ o. option_map_or is_at_work o false) (sym (ap option_copied c.in-Some.is) ∙ c.board.ensures ∙ state-board H c.args.self.now c.args.board.now state)
    ∙ busy-row H c.args.board.now (state-two H c.args.self.now state)

pub returns-in-None : goal.returns-in-None
returns-in-None c = λ H state.
    ap (λ o. option_map_or is_at_work o false) (sym (ap option_copied c.in-None.is) ∙ c.board.ensures ∙ state-board H c.args.self.now c.args.board.now state)
    ∙ busy-row H c.args.board.now (state-two H c.args.self.now state)
