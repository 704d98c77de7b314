use Rattle.desk_types.proofs.Common.{◌≡◌, rules}
use Rattle.line_tables.proofs.Common.{no_schema, state}
use Rattle.line_tables.proofs.{Leaves.Ends, Leaves.ends}
use Rattle.line_book_store.proofs.{Openings.empty_made, making.make_with_book.Given.Over}
use Rattle.line_book_store.proofs.{making.make_with_book.Goals.After-conn-2-1}
use Rattle.line_book_store.specs.Book.{HoldsEmpty, LeavesEmpty}
use Rattle.line_book_store.proofs.making.make_with_book.Goals as goal

ends_of : (g : Over) (c : After-conn-2-1 g) → let old = state g.S.Store c.args.conn.now in Ends g.S.Store c.args.conn.now c.conn-2-1.given.0 c.commit.result (λ db. old.now.schema ≡ no_schema → HoldsEmpty c.args.greatest db) (LeavesEmpty c.args.greatest old)
ends_of g c =
    ends g.S.Store c.args.conn.now c.transaction-tx.result.conn.now c.make_both.new.tx.conn.now c.commit.new.self.0 c.conn-2-1.given.0 c.commit.result _ _ c.transaction-tx.ensures.begun (search rules)
    (λ clean. empty_made g.S.Store c.args.conn.now c.make_both.new.tx.conn.now _ (rw c.transaction-tx.ensures.begun at (c.in_ok-make_both.ensures.made clean))) c.make_both.ensures.within.survives c.commit.ensures.ok c.commit.ensures.survives (search rules)

pub returns-clause-made : goal.returns-clause-made
returns-clause-made g c = (ends_of g c).done

pub returns-clause-crash : goal.returns-clause-crash
returns-clause-crash g c = (ends_of g c).crash

pub returns-clause-alone : goal.returns-clause-alone
returns-clause-alone g c = (ends_of g c).alone
