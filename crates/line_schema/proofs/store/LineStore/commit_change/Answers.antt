use Rattle.desk_types.proofs.Common.{⊤, ◌+◌, ◌∙◌, ◌≡◌, accept, ap, arith, basis, err_from_is_err_and}
use Rattle.desk_types.proofs.Common.{IsMinute, refl, rules, sym}
use Rattle.desk_laws.proofs.Common.{Two}
use Rattle.line_tables.proofs.Common.{command_edits, HasCleanDisk, state}
use Rattle.line_schema.proofs.{DeskRows.lead_of, DeskRows.rows_settled, Others.file_edited}
use Rattle.line_schema.proofs.{Others.survives_still, StandsAfter.fails, StandsAfter.judged_for}
use Rattle.line_schema.proofs.{StandsAfter.left_on, StandsAfter.not_committed, StandsAfter.stands_on}
use Rattle.line_schema.proofs.{StandsAfter.survives_on, StandsAfter.works_for}
use Rattle.line_schema.specs.Stands.{WorksFor}
use Rattle.line_tables.proofs.{Keeps.keeps_same, Leaves.others_kept}
use Rattle.std.proofs.lemmas.Option.{same_Some}
use Rattle.line_schema.proofs.store.LineStore.commit_change.Goals as goal

pub returns-in_err-text-clause-answers : goal.returns-in_err-text-clause-answers
returns-in_err-text-clause-answers g c L stands =
    let told = err_from_is_err_and c.from_residual.result c.from_residual.ensures.1 in
    fails g.S.Store g.D.Desk.Stands g.D.KeepsRows.kept_rows c.args.self.now _ c.in-Some.working c.in-Some.working.lists L _ _ _ _ told.1 c.in-Some.is c.in-Some.is (λ H listed. listed) refl refl stands.mode (survives_still {P = λ _. ⊤} _) (λ _. keeps_same _) stands

pub returns-in_err-reserve-clause-answers : goal.returns-in_err-reserve-clause-answers
returns-in_err-reserve-clause-answers g c L stands =
    let told = err_from_is_err_and c.from_residual-in_err-reserve.result c.from_residual-in_err-reserve.ensures.1 in
    fails g.S.Store g.D.Desk.Stands g.D.KeepsRows.kept_rows c.args.self.now _ _ c.reserve.new.self L _ _ _ _ told.1 c.in-Some-working.is refl c.reserve.ensures.same refl refl stands.mode (survives_still {P = λ _. ⊤} _) (λ _. keeps_same _) stands

pub returns-in_err-append-clause-answers : goal.returns-in_err-append-clause-answers
returns-in_err-append-clause-answers g c L stands =
    let told = err_from_is_err_and c.from_residual-in_err-append.result c.from_residual-in_err-append.ensures.1 in
    fails g.S.Store g.D.Desk.Stands g.D.KeepsRows.kept_rows c.args.self.now _ _ c.reserve.new.self L _ _ _ _ told.1 c.in-Some-working.is refl c.reserve.ensures.same refl refl (c.append.ensures.inside.mode stands.mode) c.append.ensures.crash c.in_err-append.ensures.neither stands

pub returns-in_err-append-clause-commits : goal.returns-in_err-append-clause-commits
returns-in_err-append-clause-commits g c L stands =
    let old = c.args.self.now in
    let change = c.args.change in
    let is = judged_for g.D.Desk.Stands old.working L.history change c.requires.judged stands.working in
    let by = works_for g.D.Desk.Stands old.working c.in-Some.working L.history c.in-Some.is stands.working in
    let next = ap (λ n. n + 1) stands.count in
    let after = c.in_ok-text.ensures.edits L.greatest (basis Two L.history) by.stands is next in
    let fresh = c.in_ok-text.ensures.new L.greatest (basis Two L.history) by.stands next in
    let told = err_from_is_err_and c.from_residual-in_err-append.result c.from_residual-in_err-append.ensures.1 in
    not_committed g.S.Store g.D.Desk.Stands old _ L _ change.stamped _ told.1 (λ own. survives_on (state g.S.Store old.conn) _ _ _ after fresh (λ clean. stands.tables clean own) (state g.S.Store c.append.new.conn) (rw c.as_slice.ensures at c.append.ensures.crash))

pub returns-in_err-append-clause-file : goal.returns-in_err-append-clause-file
returns-in_err-append-clause-file g c = file_edited _ _ _ c.append.result c.append.ensures.crash (λ clean. others_kept _ _ _ c.append.result (c.append.ensures.done clean)) c.append.ensures.stays_open c.append.ensures.neither

pub settle-requires : goal.settle-requires
settle-requires g c =
    let L = c.requires.stands.0 in
    let stands = c.requires.stands.1 in
    let works = works_for g.D.Desk.Stands c.args.self.now.working _ L.history c.in-Some-working.is stands.working in
    let same = same_Some _ _ (sym c.in-Some.is ∙ c.in-Some-working.is) in
    record {
      ready = record {
        room = (basis Two L.history, works.stands, omega (arith, stands.count, stands.greatest, stands.bound, c.requires.room));
        judged = rw c.in-Some-working.is at c.requires.judged;
        lead = rw (sym c.as_slice-2.ensures) at (rw same at c.in_ok-text.ensures.lead);
      };
    }

pub returns-clause-answers : goal.returns-clause-answers
returns-clause-answers g c L stands =
    let old = c.args.self.now in
    let change = c.args.change in
    let is = judged_for g.D.Desk.Stands old.working L.history change c.requires.judged stands.working in
    let by = works_for g.D.Desk.Stands old.working c.in-Some.working L.history c.in-Some.is stands.working in
    let next = ap (λ n. n + 1) stands.count in
    let after = c.in_ok-text.ensures.edits L.greatest (basis Two L.history) by.stands is next in
    let edits = c.in_ok-text.field-0.edits in
    record {
      answer = search rules;
      err = tt;
      rows = rows_settled g.D.KeepsRows.kept_rows edits old.working _ _ L.history (accept L.history change.stamped) c.in-Some-working.is (rw c.as_slice-2.ensures at c.settle.ensures.rows) (lead_of L.greatest L.history (accept L.history change.stamped) c.in_ok-text.field-0.row edits after);
      rows_stay = λ was. tt;
    }

pub returns-clause-commits : goal.returns-clause-commits
returns-clause-commits g c L stands =
    let old = c.args.self.now in
    let change = c.args.change in
    let is = judged_for g.D.Desk.Stands old.working L.history change c.requires.judged stands.working in
    let by = works_for g.D.Desk.Stands old.working c.in-Some.working L.history c.in-Some.is stands.working in
    let next = ap (λ n. n + 1) stands.count in
    let after = c.in_ok-text.ensures.edits L.greatest (basis Two L.history) by.stands is next in
    let fresh = c.in_ok-text.ensures.new L.greatest (basis Two L.history) by.stands next in
    let minute : IsMinute change.minute = search rules in
    let held = works_for g.D.Desk.Stands old.working _ L.history c.in-Some-working.is stands.working in
    let works : WorksFor g.D.Desk.Stands c.settle.new.working (accept L.history change.stamped) =
    c.settle.ensures.works L.history (record { stands = held.stands; listed = c.reserve.ensures.same L.history held.listed }) next in
    record {
      ok = stands_on g.S.Store g.D.Desk.Stands old _ L change (command_edits c.in_ok-text.field-0.row c.in_ok-text.field-0.edits) stands c.requires.room is c.ranges_hold.ensures minute refl refl (search rules) works after fresh
          c.append.ensures.crash (λ clean. (rw c.as_slice.ensures at (c.in_ok-append.ensures.done clean)).tables) (λ clean. (c.in_ok-append.ensures.stays_open clean).0);
      survives = λ own. survives_on (state g.S.Store old.conn) _ _ _ after fresh (λ clean. stands.tables clean own) (state g.S.Store c.append.new.conn) (rw c.as_slice.ensures at c.append.ensures.crash);
      alone = λ clean own trees left.
          let early : HasCleanDisk (state g.S.Store old.conn) = omega (arith, c.append.ensures.crash.clean, clean) in
          left_on (state g.S.Store old.conn) _ _ _ after fresh (λ now. stands.tables now own) early trees (rw c.as_slice.ensures at (c.in_ok-append.ensures.alone clean trees left));
    }

pub returns-clause-file : goal.returns-clause-file
returns-clause-file g c = file_edited _ _ _ c.append.result c.append.ensures.crash (λ clean. others_kept _ _ _ c.append.result (c.append.ensures.done clean)) c.append.ensures.stays_open c.append.ensures.neither
