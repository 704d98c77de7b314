use Rattle.state_rows.{proofs.RowLists.sheet_row-taken, specs.contracts.set.RowSet.the_view}
use Rattle.state_rows.proofs.set.RowSet.take_sheet_row.Goals as goal

pub returns : goal.returns
returns c = sheet_row-taken (the_view c.self.inside) c.args.self.now c.self.view_is c.remove.new.self.entries c.args.product c.args.machine c.args.place c.remove.ensures.updates.0
