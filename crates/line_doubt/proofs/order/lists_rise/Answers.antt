use Rattle.line_doubt.proofs.Ordering.{book-rises, placements-rise}
use Rattle.line_doubt.proofs.order.lists_rise.Goals as goal

pub returns-clause-book : goal.returns-clause-book
returns-clause-book c = book-rises

pub returns-clause-placements : goal.returns-clause-placements
returns-clause-placements c = placements-rise
