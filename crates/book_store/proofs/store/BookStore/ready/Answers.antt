use Rattle.desk_types.proofs.Common.{arith}
use Rattle.line_tables.proofs.Common.{HasCleanDisk, survives_then}
use Rattle.line_schema.specs.Stands.{state_of}
use Rattle.book_store.proofs.Loading.{lists_stay}
use Rattle.book_store.specs.Lists.{book_state}
use Rattle.book_store.proofs.store.BookStore.ready.Goals as goal

pub returns-clause-stands : goal.returns-clause-stands
returns-clause-stands g c L was clean own =
    let mid = c.make_guard.new.self in
    let early : HasCleanDisk (book_state g.S.Store mid) = omega
    (arith, c.ready.ensures.makes_desk.survives.clean, clean) in
    lists_stay g.S.Store g.D.Desk.Stands mid c.ready.new.self c.ready.ensures.makes_desk c.ready.ensures.others L
    (c.make_guard.ensures.stands L was early own) clean own

pub returns-clause-survives : goal.returns-clause-survives
returns-clause-survives g c =
    survives_then (book_state g.S.Store c.args.self.now) (book_state g.S.Store c.make_guard.new.self)
    (state_of g.S.Store c.ready.new.self) (λ _. ⊥) (λ _. ⊥) (λ _. ⊥) (λ clean trees none. none)
    (λ clean trees none. none) c.make_guard.ensures.survives c.ready.ensures.makes_desk.survives
