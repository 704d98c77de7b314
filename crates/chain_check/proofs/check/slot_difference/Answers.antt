use Rattle.std.proofs.Common.{refl, sym, ◌∙◌}
use Rattle.desk_types.specs.History.{basis}
use Rattle.desk_types.specs.Pieces.{live_on}
use Rattle.feeder_state.proofs.AcceptedChanges.{state-two}
use Rattle.chain_check.proofs.SameSlots.{either-list}
use Rattle.chain_check.proofs.check.slot_difference.Goals as goal

pub returns-in-Some-clause-differs : goal.returns-in-Some-clause-differs
returns-in-Some-clause-differs c = λ H H' of_old of_new same.
    let m = c.in-Some.key.0 in
    let s = c.in-Some.key.1 in
    c.in-Some.ensures.differs (of_old.floor.tapes m s ∙ same ∙ sym (of_new.floor.tapes m s))

pub returns-in-Some-slot_in-clause-differs : goal.returns-in-Some-slot_in-clause-differs
returns-in-Some-slot_in-clause-differs c = λ H H' of_old of_new same.
    let m = c.in-Some-slot_in.key.0 in
    let s = c.in-Some-slot_in.key.1 in
    c.in-Some-slot_in.ensures.differs (of_old.floor.tapes m s ∙ same ∙ sym (of_new.floor.tapes m s))

pub returns-clause-same : goal.returns-clause-same
returns-clause-same c = λ H H' of_old of_new m s.
    let judged = state-two H c.args.old.now of_old in
    let judged' = state-two H' c.args.new.now of_new in
    let rows = c.rows.ensures.same (basis c.args.old.now.rules H) (record { rules = refl; state = of_old }) in
    let rows' = c.rows-2.ensures.same (basis c.args.new.now.rules H') (record { rules = refl; state = of_new }) in
    let was = sym (of_old.floor.tapes m s) in
    either-list (live_on H m s) (live_on H' m s)
    (λ some. was ∙ c.in_default.ensures.same H judged rows of_old.floor.tapes m s some ∙ of_new.floor.tapes m s)
    (λ some. was ∙ c.in_default-slot_in.ensures.same H' judged' rows' of_new.floor.tapes m s some ∙ of_new.floor.tapes m s)
