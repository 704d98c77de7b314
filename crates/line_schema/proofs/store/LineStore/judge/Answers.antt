use Rattle.desk_types.proofs.Common.{◌≡◌, ◌≤◌, arith, length, nat_tests, None, rules, Some, true}
use Rattle.desk_answers.specs.Commands.{earlier_answer, is_full}
use Rattle.line_schema.proofs.Verdicts.{keeps_of, keeps_then, verdict_earlier, verdict_full, verdict_new}
use Rattle.line_schema.proofs.store.LineStore.judge.Goals as goal

pub returns-in_err-answer-clause-keeps : goal.returns-in_err-answer-clause-keeps
returns-in_err-answer-clause-keeps g c = keeps_of g.S.Store g.D.Desk.Stands c.args.self.now c.earlier.new.self (c.requires.stands.0, c.earlier.ensures.stands c.requires.stands.0 c.requires.stands.1) (λ L stands clean own. c.earlier.ensures.stands L stands) c.earlier.ensures.survives c.earlier.ensures.others

pub returns-in-Some-clause-keeps : goal.returns-in-Some-clause-keeps
returns-in-Some-clause-keeps g c = keeps_of g.S.Store g.D.Desk.Stands c.args.self.now c.earlier.new.self (c.requires.stands.0, c.earlier.ensures.stands c.requires.stands.0 c.requires.stands.1) (λ L stands clean own. c.earlier.ensures.stands L stands) c.earlier.ensures.survives c.earlier.ensures.others

pub returns-then-self-clause-keeps : goal.returns-then-self-clause-keeps
returns-then-self-clause-keeps g c = keeps_of g.S.Store g.D.Desk.Stands c.args.self.now c.earlier.new.self (c.requires.stands.0, c.earlier.ensures.stands c.requires.stands.0 c.requires.stands.1) (λ L stands clean own. c.earlier.ensures.stands L stands) c.earlier.ensures.survives c.earlier.ensures.others

pub returns-in_err-ready-clause-keeps : goal.returns-in_err-ready-clause-keeps
returns-in_err-ready-clause-keeps g c =
    keeps_then g.S.Store g.D.Desk.Stands c.args.self.now c.earlier.new.self c.ready.new.self
    (keeps_of g.S.Store g.D.Desk.Stands c.args.self.now c.earlier.new.self (c.requires.stands.0, c.earlier.ensures.stands c.requires.stands.0 c.requires.stands.1) (λ L stands clean own. c.earlier.ensures.stands L stands) c.earlier.ensures.survives c.earlier.ensures.others)
    (keeps_of g.S.Store g.D.Desk.Stands c.earlier.new.self c.ready.new.self c.ready.ensures.makes_desk.kept c.ready.ensures.makes_desk.stands c.ready.ensures.makes_desk.survives c.ready.ensures.others)

pub returns-clause-keeps : goal.returns-clause-keeps
returns-clause-keeps g c =
    keeps_then g.S.Store g.D.Desk.Stands c.args.self.now c.earlier.new.self c.ready.new.self
    (keeps_of g.S.Store g.D.Desk.Stands c.args.self.now c.earlier.new.self (c.requires.stands.0, c.earlier.ensures.stands c.requires.stands.0 c.requires.stands.1) (λ L stands clean own. c.earlier.ensures.stands L stands) c.earlier.ensures.survives c.earlier.ensures.others)
    (keeps_of g.S.Store g.D.Desk.Stands c.earlier.new.self c.ready.new.self c.ready.ensures.makes_desk.kept c.ready.ensures.makes_desk.stands c.ready.ensures.makes_desk.survives c.ready.ensures.others)

pub returns-in-Some-clause-verdict : goal.returns-in-Some-clause-verdict
returns-in-Some-clause-verdict g c L stands clean own =
    let there : earlier_answer L.history c.args.stamped.now ≡ Some c.in-Some.answer = search rules in
    verdict_earlier L c.args.stamped.now c.in-Some.answer there

pub returns-then-self-clause-verdict : goal.returns-then-self-clause-verdict
returns-then-self-clause-verdict g c L stands clean own =
    let mid = c.earlier.ensures.stands L stands in
    let nothing : earlier_answer L.history c.args.stamped.now ≡ None = search rules in
    let none : c.earlier.new.self.greatest ≤ c.earlier.new.self.count = search rules in
    let less : L.greatest ≤ length L.history = omega (arith, none, mid.count, mid.greatest) in
    let full : is_full L.greatest L.history ≡ true = grind (arith, nat_tests) in
    verdict_full L c.args.stamped.now nothing full
