use Rattle.state_rows.{proofs.RowLists.board-put, specs.contracts.set.RowSet.the_view}
use Rattle.state_rows.proofs.set.RowSet.put_board.Goals as goal

pub returns : goal.returns
returns c = board-put (the_view c.self.inside) c.args.self.now c.self.view_is c.insert.new.self.entries c.args.row.now c.in_ok-insert.ensures.updates.0
