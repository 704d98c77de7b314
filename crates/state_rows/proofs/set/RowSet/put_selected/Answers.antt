use Rattle.state_rows.{proofs.RowLists.selected-put, specs.contracts.set.RowSet.the_view}
use Rattle.state_rows.proofs.set.RowSet.put_selected.Goals as goal

pub returns : goal.returns
returns c = selected-put (the_view c.self.inside) c.args.self.now c.self.view_is c.insert.new.self.entries c.args.machine c.args.product c.in_ok-insert.ensures.updates.0
