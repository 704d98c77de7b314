use Rattle.desk_types.proofs.Common.{◌≡◌, arith, ints, pos, rules, subst}
use Rattle.line_tables.proofs.Common.{accepted_in, IsLeast, state}
use Rattle.line_replay.{proofs.ReadOfCommitted.reads_as, proofs.StopsOfRows.stops_first, specs.Listed.StopsAt}
use Rattle.line_replay.proofs.taking.least_is_one.Goals as goal

pub returns-in-Some-clause-err : goal.returns-in-Some-clause-err
returns-in-Some-clause-err g c clean rules greatest =
    let other : c.in-Some.field-0 ≡ pos 1 → ⊥ = λ is. omega (arith, ints, is) in
    reads_as (state g.S.Store c.args.conn.now) (λ db. IsLeast (accepted_in db) c.in_ok-least.least) (λ db. StopsAt rules greatest (accepted_in db) 1)
    (λ db least. stops_first rules greatest (accepted_in db) c.in-Some.field-0 (subst (IsLeast (accepted_in db)) c.in-Some.is least) other) (c.in_ok-least.ensures.least clean)
