use Rattle.desk_types.proofs.Common.{◌∙◌, ap, option_and_then, Some, sym}
use Rattle.desk_laws.proofs.Common.{BoardRow}
use Rattle.feeder_state.proofs.{AcceptedChanges.state-board, RestoredWork.product-row}
use Rattle.std.specs.Option.{option_copied}
use Rattle.feeder_state.proofs.desk.StateDeskFacts.product_of.Goals as goal

pub returns-in_err-row : goal.returns-in_err-row
returns-in_err-row c = λ H state.
    c.from_residual.ensures ∙ ap (option_and_then (λ (r : BoardRow). Some r.product)) (sym (ap option_copied c.in_err-row.was) ∙ c.board.ensures ∙ state-board H c.args.self.now c.args.board.now state) ∙ product-row H c.args.board.now

pub returns : goal.returns
returns c = λ H state.
    ap (option_and_then (λ (r : BoardRow). Some r.product)) (sym (ap option_copied c.in_ok-row.was) ∙ c.board.ensures ∙ state-board H c.args.self.now c.args.board.now state) ∙ product-row H c.args.board.now
