use Rattle.line_book.proofs.Going.{only-setup}
use Rattle.line_book.proofs.WaysOut.{decision-closes, handled-closes, way-out}
use Rattle.line_book.proofs.law.each_red_has_a_way_out.Goals as goal

pub returns-clause-some : goal.returns-clause-some
returns-clause-some c = way-out

pub returns-clause-handled : goal.returns-clause-handled
returns-clause-handled c = handled-closes

pub returns-clause-decided : goal.returns-clause-decided
returns-clause-decided c = decision-closes

pub returns-clause-closed : goal.returns-clause-closed
returns-clause-closed c = only-setup
