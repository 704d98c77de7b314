use Rattle.line_replay.proofs.placements.has_placements.Goals as goal

pub returns-in-Some-clause-found : goal.returns-in-Some-clause-found
returns-in-Some-clause-found g c clean = rw c.in-Some.is (c.has_range.ensures.found clean)

pub returns-in_ok-has_own-in-None-clause-found : goal.returns-in_ok-has_own-in-None-clause-found
returns-in_ok-has_own-in-None-clause-found g c clean =
    let told = c.in_ok-has_own-in-None.ensures.found clean in
    record { was_open = told.was_open; are = λ schema. (told.are schema, λ count was. tt) }
