use Rattle.desk_types.proofs.Common.{◌<◌, arith, IsChange, rules, sym, true≢false}
use Rattle.desk_laws.proofs.Common.{Two}
use Rattle.line_schema.proofs.ListsAfter.{accepted_leaves}
use Rattle.line_schema.proofs.StandsAfter.{accepted_as, accepted_to, answered_as, disowned, first_as}
use Rattle.line_schema.proofs.StandsAfter.{stands_either}
use Rattle.line_schema.specs.Stands.{HasRows}
use Rattle.line_schema.proofs.store.LineStore.answer_at_hand.Goals as goal

pub returns-in-Ok-clause-kept : goal.returns-in-Ok-clause-kept
returns-in-Ok-clause-kept g c =
    let stands = disowned g.S.Store g.D.Desk.Stands _ c.requires.stands.0 c.requires.stands.1 in
    stands_either g.S.Store g.D.Desk.Stands c.commit_change.result c.commit_change.new.self _ _ ((c.commit_change.ensures.commits _ stands).ok (λ clean own. absurd (true≢false (sym own)))) (c.commit_change.ensures.answers _ stands).err

pub returns-in-Ok-clause-answers : goal.returns-in-Ok-clause-answers
returns-in-Ok-clause-answers g c L stands =
    let s = c.args.stamped.now in
    let is : IsChange Two L.history s c.in-Ok.change = search rules in
    let told = c.commit_change.ensures.answers L stands in
    record {
      answer = answered_as L.history s c.in-Ok.change c.commit_change.result is told.answer;
      err = told.err;
      rows = λ was. accepted_to (HasRows g.D.KeepsRows.kept_rows c.commit_change.new.self) c.commit_change.result L.history s c.in-Ok.change is (told.rows was);
      rows_stay = told.rows_stay;
    }

pub returns-in-Ok-clause-ok : goal.returns-in-Ok-clause-ok
returns-in-Ok-clause-ok g c L stands first =
    let s = c.args.stamped.now in
    let is : IsChange Two L.history s c.in-Ok.change = search rules in
    accepted_as g.S.Store g.D.Desk.Stands c.commit_change.result c.commit_change.new.self L s c.in-Ok.change is
    ((c.commit_change.ensures.commits L stands).ok (λ clean own. first_as L s c.in-Ok.change is (first clean own)))

pub returns-in-Ok-clause-crash : goal.returns-in-Ok-clause-crash
returns-in-Ok-clause-crash g c L stands clean own trees left =
    let is : IsChange Two L.history c.args.stamped.now c.in-Ok.change = search rules in
    let room : c.args.self.now.count < c.args.self.now.greatest = search rules in
    let done = c.commit_change.ensures.commits L stands in
    accepted_leaves L c.args.stamped.now c.in-Ok.change c.commit_change.result _ _ trees is (omega (arith, stands.count, stands.greatest, room)) (c.commit_change.ensures.answers L stands).answer (done.alone clean own) ((done.survives own).crash clean trees left) left
