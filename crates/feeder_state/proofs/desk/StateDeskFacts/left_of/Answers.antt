use Rattle.desk_types.proofs.Common.{◌∙◌, ap, option_map_or, sym}
use Rattle.desk_laws.proofs.Common.{ReelRow}
use Rattle.feeder_state.proofs.AcceptedChanges.{state-left}
use Rattle.std.specs.Option.{option_copied}
use Rattle.feeder_state.proofs.desk.StateDeskFacts.left_of.Goals as goal

pub returns-in-Some : goal.returns-in-Some
returns-in-Some c = λ H state.
    ap (λ o. option_map_or (λ (r : ReelRow). r.remaining) o 0) (sym (ap option_copied c.in-Some.is) ∙ c.reel.ensures) ∙ state-left H c.args.self.now c.args.reel.now state

pub returns-in-None : goal.returns-in-None
returns-in-None c = λ H state.
    ap (λ o. option_map_or (λ (r : ReelRow). r.remaining) o 0) (sym (ap option_copied c.in-None.is) ∙ c.reel.ensures) ∙ state-left H c.args.self.now c.args.reel.now state
