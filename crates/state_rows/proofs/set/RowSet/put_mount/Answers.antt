use Rattle.state_rows.{proofs.RowLists.mount-put, specs.contracts.set.RowSet.the_view}
use Rattle.state_rows.proofs.set.RowSet.put_mount.Goals as goal

pub returns : goal.returns
returns c = mount-put (the_view c.self.inside) c.args.self.now c.self.view_is c.put.new.self c.args.row.now c.in_ok-put.ensures
