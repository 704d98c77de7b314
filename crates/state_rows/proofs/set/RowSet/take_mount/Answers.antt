use Rattle.state_rows.{proofs.RowLists.mount-taken, specs.contracts.set.RowSet.the_view}
use Rattle.state_rows.proofs.set.RowSet.take_mount.Goals as goal

pub returns : goal.returns
returns c = mount-taken (the_view c.self.inside) c.args.self.now c.self.view_is c.take.new.self c.args.reel.now c.take.ensures
