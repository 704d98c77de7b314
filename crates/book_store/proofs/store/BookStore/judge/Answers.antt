use Rattle.book_store.proofs.Loading.{lists_judged}
use Rattle.book_store.proofs.store.BookStore.judge.Goals as goal

pub returns-clause-verdict : goal.returns-clause-verdict
returns-clause-verdict g c L was clean own = c.judge.ensures.verdict L.kept was.both.stands clean own

pub returns-clause-stands : goal.returns-clause-stands
returns-clause-stands g c = lists_judged g.S.Store g.D.Desk.Stands c.args.self.now c.judge.new.self
    c.judge.ensures.keeps
