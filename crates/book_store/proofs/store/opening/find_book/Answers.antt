use Rattle.desk_types.proofs.Common.{◌∙◌, ◌≡◌, ap, false, IfOk-weaker, inl, inr, IsTrue, Ok, sym, true}
use Rattle.line_book_store.specs.Names.{has_book}
use Rattle.line_schema.proofs.StandsAfter.{disowned}
use Rattle.line_schema.specs.Stands.{state_of}
use Rattle.book_store.proofs.Finding.{alone_there, begun_by, err_always, err_weaker, finds_by, ok_always}
use Rattle.book_store.proofs.Finding.{shelf_there, wrong_later}
use Rattle.book_store.proofs.InTurn.{store_same}
use Rattle.book_store.proofs.{Opening.only_read, Places.has_none}
use Rattle.book_store.proofs.store.opening.find_book.Goals as goal

pub returns-in-Err-clause-fault : goal.returns-in-Err-clause-fault
returns-in-Err-clause-fault g c L stands = inl (λ is_open. sym (c.has_book.ensures.committed L stands is_open)
    ∙ c.in-Err.is)

pub returns-in-Err-clause-refused : goal.returns-in-Err-clause-refused
returns-in-Err-clause-refused g c _ = store_same g.S.Store g.D.Desk.Stands c.args.store.now

pub returns-in-Err-clause-kept : goal.returns-in-Err-clause-kept
returns-in-Err-clause-kept g c L stands = disowned g.S.Store g.D.Desk.Stands c.args.store.now L stands

pub returns-then-has-clause-named : goal.returns-then-has-clause-named
returns-then-has-clause-named g c L stands = ok_always c.restore.result _
    (λ is_open. (true, sym (c.has_book.ensures.committed L stands is_open) ∙ c.in-Ok.is ∙ ap Ok c.if-has.true))

pub returns-then-has-clause-lists : goal.returns-then-has-clause-lists
returns-then-has-clause-lists g c L stands =
    let old = state_of g.S.Store c.args.store.now in
    let named : IsTrue old.is_open → has_book old.committed.schema.tables ≡ Ok true = λ is_open. sym
    (c.has_book.ensures.committed L stands is_open) ∙ c.in-Ok.is ∙ ap Ok c.if-has.true in
    IfOk-weaker c.restore.result _ _ (λ r is place. finds_by g.S.Store g.D.Desk.Stands c.args.store.now
    c.restore.new.store L r c.restore.ensures.reads stands is (λ clean own. shelf_there old.committed place
    (named (is.all clean).was_open))) (c.restore.ensures.ok L stands)

pub returns-then-has-clause-fault : goal.returns-then-has-clause-fault
returns-then-has-clause-fault g c L stands = wrong_later c.restore.result _ _ _ (c.restore.ensures.err L stands)

pub returns-then-has-clause-refused : goal.returns-then-has-clause-refused
returns-then-has-clause-refused g c = err_always c.restore.result _ (λ _ _. c.restore.ensures.reads)

pub returns-then-has-clause-kept : goal.returns-then-has-clause-kept
returns-then-has-clause-kept g c L stands = disowned g.S.Store g.D.Desk.Stands c.restore.new.store L
    (c.restore.ensures.reads.stands L stands)

pub returns-clause-named : goal.returns-clause-named
returns-clause-named g c L stands = ok_always c.begin_book.result _
    (λ is_open. (false, sym (c.has_book.ensures.committed L stands is_open) ∙ c.in-Ok.is ∙ ap Ok c.if-has.false))

pub returns-clause-lists : goal.returns-clause-lists
returns-clause-lists g c L stands =
    let old = state_of g.S.Store c.args.store.now in
    let named : IsTrue old.is_open → has_book old.committed.schema.tables ≡ Ok false = λ is_open. sym
    (c.has_book.ensures.committed L stands is_open) ∙ c.in-Ok.is ∙ ap Ok c.if-has.false in
    begun_by g.S.Store g.D.Desk.Stands c.args.store.now c.begin_book.new.store L c.begin_book.result
    c.begin_book.ensures.was_open (c.begin_book.ensures.lists L stands)
    (λ is_open place. alone_there old.committed place (named is_open))

pub returns-clause-fault : goal.returns-clause-fault
returns-clause-fault g c L stands = err_weaker c.begin_book.result _ _ (λ f is. inr (λ _. inl is))
    c.begin_book.ensures.err

pub returns-clause-refused : goal.returns-clause-refused
returns-clause-refused g c = err_weaker c.begin_book.result _ _ (λ f is other. absurd (other is))
    c.begin_book.ensures.err

pub returns-then-has-clause-crash : goal.returns-then-has-clause-crash
returns-then-has-clause-crash g c L stands place is_open =
    let old = state_of g.S.Store c.args.store.now in
    let named : has_book old.committed.schema.tables ≡ Ok true = sym (c.has_book.ensures.committed L stands is_open)
    ∙ c.in-Ok.is ∙ ap Ok c.if-has.true in
    only_read L old _ c.restore.result c.restore.ensures.reads.reads.survives (has_none old.committed named)

pub returns-clause-crash : goal.returns-clause-crash
returns-clause-crash g c L stands place is_open =
    let old = state_of g.S.Store c.args.store.now in
    let named : has_book old.committed.schema.tables ≡ Ok false = sym (c.has_book.ensures.committed L stands is_open)
    ∙ c.in-Ok.is ∙ ap Ok c.if-has.false in
    c.begin_book.ensures.crash L stands (alone_there old.committed place named)
