use Rattle.line_tables.proofs.Common.{state}
use Rattle.line_schema.proofs.ReadOfCommitted.{version_fault}
use Rattle.line_schema.proofs.opening.read_greatest.Goals as goal

pub returns-in-Some-clause-err : goal.returns-in-Some-clause-err
returns-in-Some-clause-err g c clean =
    version_fault c.args.rules (state g.S.Store c.args.conn.now) c.in-Some.version c.in_ok-found.found c.greatest_of.result c.in-Some.is c.greatest_of.ensures.err (c.in_ok-found.ensures.read clean)
