use Rattle.chain_files.proofs.chain.add.Goals as goal

pub returns-then-not-is_wanted-clause-err : goal.returns-then-not-is_wanted-clause-err
returns-then-not-is_wanted-clause-err c files H is says =
    c.begun_otherwise.ensures c.args.older.wanted files H says.mark (c.is_wanted.ensures.no c.if-not-is_wanted.true)

pub returns-clause-err : goal.returns-clause-err
returns-clause-err c files H is says = c.in-Err.ensures.err c.args.older.wanted files H is says
