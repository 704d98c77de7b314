use Rattle.state_rows.{proofs.RowLists.part-put, specs.contracts.set.RowSet.the_view}
use Rattle.state_rows.proofs.set.RowSet.put_part.Goals as goal

pub returns : goal.returns
returns c = part-put (the_view c.self.inside) c.args.self.now c.self.view_is c.add.new.self c.args.part c.in_ok-add.ensures.has
