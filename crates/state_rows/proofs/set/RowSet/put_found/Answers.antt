use Rattle.state_rows.{proofs.RowLists.found-put, specs.contracts.set.RowSet.the_view}
use Rattle.state_rows.proofs.set.RowSet.put_found.Goals as goal

pub returns : goal.returns
returns c = found-put (the_view c.self.inside) c.args.self.now c.self.view_is c.insert.new.self.entries c.args.reel c.args.pieces c.in_ok-insert.ensures.updates.0
