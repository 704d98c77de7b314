use Rattle.state_rows.{proofs.RowLists.alternate-put, specs.contracts.set.RowSet.the_view}
use Rattle.state_rows.proofs.set.RowSet.put_alternate.Goals as goal

pub returns : goal.returns
returns c = alternate-put (the_view c.self.inside) c.args.self.now c.self.view_is c.add.new.self c.args.part c.args.alternate c.in_ok-add.ensures.has
