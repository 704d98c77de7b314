use Rattle.desk_types.proofs.Common.{◌||◌, ◌≡◌, ◌≤◌, ap, arith, inl, inr, is_some, length, nat_tests, None}
use Rattle.desk_types.proofs.Common.{or_right, rules, Some, true}
use Rattle.desk_answers.specs.Commands.{earlier_answer, is_full}
use Rattle.line_schema.proofs.{ListsAfter.leaves_newly, Others.file_then, StandsAfter.stands_still}
use Rattle.line_schema.proofs.store.LineStore.answer.Goals as goal

pub returns-clause-crash : goal.returns-clause-crash
returns-clause-crash g c L stands clean own trees left =
    let early = c.answer_new.ensures.file.clean clean in
    let none : earlier_answer L.history c.args.stamped.now ≡ None = search rules in
    leaves_newly L c.args.stamped.now _ _ _ trees none
    (λ before. elim (c.earlier.ensures.survives.crash early trees before) [ inl at_entry ↦ at_entry | inr none ↦ absurd none ])
    (c.answer_new.ensures.crash L (c.earlier.ensures.stands L stands) clean own trees left)

pub returns-clause-file : goal.returns-clause-file
returns-clause-file g c = file_then _ _ _ c.earlier.ensures.survives c.earlier.ensures.others c.answer_new.ensures.file

pub returns-in-Some-clause-ok : goal.returns-in-Some-clause-ok
returns-in-Some-clause-ok g c L stands clean own =
    let s = c.args.stamped.now in
    let there : earlier_answer L.history s ≡ Some c.in-Some.answer = search rules in
    stands_still g.S.Store g.D.Desk.Stands c.earlier.new.self L s (ap (λ o. is_some o || is_full L.greatest L.history) there) (c.earlier.ensures.stands L stands)

pub returns-then-self-clause-ok : goal.returns-then-self-clause-ok
returns-then-self-clause-ok g c L stands clean own =
    let s = c.args.stamped.now in
    let mid = c.earlier.ensures.stands L stands in
    let none : c.earlier.new.self.greatest ≤ c.earlier.new.self.count = search rules in
    let less : L.greatest ≤ length L.history = omega (arith, none, mid.count, mid.greatest) in
    let full : is_full L.greatest L.history ≡ true = grind (arith, nat_tests) in
    stands_still g.S.Store g.D.Desk.Stands c.earlier.new.self L s (or_right (is_some (earlier_answer L.history s)) (is_full L.greatest L.history) full) mid
