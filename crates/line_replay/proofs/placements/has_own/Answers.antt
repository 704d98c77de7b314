use Rattle.line_replay.proofs.placements.has_own.Goals as goal

pub returns-clause-found : goal.returns-clause-found
returns-clause-found g c clean =
    let told = c.in_ok-found.ensures.found clean in
    record { was_open = told.was_open; are = λ schema. (told.are schema).0 }
