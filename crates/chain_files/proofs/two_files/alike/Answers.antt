use Rattle.chain_files.proofs.two_files.alike.Goals as goal

pub returns-clause-failed : goal.returns-clause-failed
returns-clause-failed g c four =
    let told = c.tell_found-status.ensures.failed four in
    (told.0, (c.compare_files-found.result, told.1, c.compare_files-found.ensures.found, told.2))
