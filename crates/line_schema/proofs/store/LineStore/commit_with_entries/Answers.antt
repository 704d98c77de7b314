use Rattle.desk_types.proofs.Common.{⊤, ◌+◌, ◌∙◌, ◌≡◌, accept, ap, arith, basis, err_from_is_err_and}
use Rattle.desk_types.proofs.Common.{IsMinute, refl, rules, sym}
use Rattle.desk_answers.specs.declared.answer.Answer.TheVariants.{Unavailable}
use Rattle.desk_laws.proofs.Common.{Two}
use Rattle.line_tables.proofs.Common.{command_edits}
use Rattle.line_schema.proofs.{DeskRows.lead_of, DeskRows.rows_settled}
use Rattle.line_schema.proofs.NotedTogether.{accepted_kept, book_kept, both_noted, failed_kept, neither_noted}
use Rattle.line_schema.proofs.NotedTogether.{survives_together}
use Rattle.line_schema.proofs.{Others.survives_still, StandsAfter.fails, StandsAfter.judged_for}
use Rattle.line_schema.proofs.{StandsAfter.works_for}
use Rattle.line_schema.specs.Stands.{WorksFor}
use Rattle.line_tables.proofs.{Keeps.keeps_same}
use Rattle.std.proofs.lemmas.Option.{same_Some}
use Rattle.line_schema.proofs.store.LineStore.commit_with_entries.Goals as goal

pub returns-in_err-text-clause-answers : goal.returns-in_err-text-clause-answers
returns-in_err-text-clause-answers g c L stands =
    let told = err_from_is_err_and c.from_residual.result c.from_residual.ensures.1 in
    fails g.S.Store g.D.Desk.Stands g.D.KeepsRows.kept_rows c.args.self.now _ c.in-Some.working c.in-Some.working.lists L _ _ _ _ told.1 c.in-Some.is c.in-Some.is (λ H listed. listed) refl refl stands.mode (survives_still {P = λ _. ⊤} _) (λ _. keeps_same _) stands

pub returns-in_err-text-clause-commits : goal.returns-in_err-text-clause-commits
returns-in_err-text-clause-commits g c L before was on =
    let told = err_from_is_err_and c.from_residual.result c.from_residual.ensures.1 in
    let all = fails g.S.Store g.D.Desk.Stands g.D.KeepsRows.kept_rows c.args.self.now _ c.in-Some.working c.in-Some.working.lists L _ Unavailable L.history _ told.1 c.in-Some.is c.in-Some.is (λ H listed. listed) refl refl was.stands.mode (survives_still {P = λ _. ⊤} _) (λ _. keeps_same _) was.stands in
    neither_noted g.S.Store g.D.Desk.Stands c.args.self.now _ L c.args.change.stamped c.args.entries.now before _ _ told.1 all.err was.book (λ own. survives_still _)

pub returns-in_err-reserve-clause-answers : goal.returns-in_err-reserve-clause-answers
returns-in_err-reserve-clause-answers g c L stands =
    let told = err_from_is_err_and c.from_residual-in_err-reserve.result c.from_residual-in_err-reserve.ensures.1 in
    fails g.S.Store g.D.Desk.Stands g.D.KeepsRows.kept_rows c.args.self.now _ _ c.reserve.new.self L _ _ _ _ told.1 c.in-Some-working.is refl c.reserve.ensures.same refl refl stands.mode (survives_still {P = λ _. ⊤} _) (λ _. keeps_same _) stands

pub returns-in_err-reserve-clause-commits : goal.returns-in_err-reserve-clause-commits
returns-in_err-reserve-clause-commits g c L before was on =
    let told = err_from_is_err_and c.from_residual-in_err-reserve.result c.from_residual-in_err-reserve.ensures.1 in
    let all = fails g.S.Store g.D.Desk.Stands g.D.KeepsRows.kept_rows c.args.self.now _ _ c.reserve.new.self L _ Unavailable L.history _ told.1 c.in-Some-working.is refl c.reserve.ensures.same refl refl was.stands.mode (survives_still {P = λ _. ⊤} _) (λ _. keeps_same _) was.stands in
    neither_noted g.S.Store g.D.Desk.Stands c.args.self.now _ L c.args.change.stamped c.args.entries.now before _ _ told.1 all.err was.book (λ own. survives_still _)

pub returns-in_err-append_with_entries-clause-answers : goal.returns-in_err-append_with_entries-clause-answers
returns-in_err-append_with_entries-clause-answers g c L stands =
    let told = err_from_is_err_and c.from_residual-in_err-append_with_entries.result c.from_residual-in_err-append_with_entries.ensures.1 in
    fails g.S.Store g.D.Desk.Stands g.D.KeepsRows.kept_rows c.args.self.now _ _ c.reserve.new.self L _ _ _ _ told.1 c.in-Some-working.is refl c.reserve.ensures.same refl refl (c.append_with_entries.ensures.inside.mode stands.mode) c.append_with_entries.ensures.crash c.in_err-append_with_entries.ensures.neither stands

pub returns-in_err-append_with_entries-clause-commits : goal.returns-in_err-append_with_entries-clause-commits
returns-in_err-append_with_entries-clause-commits g c L before was on =
    let old = c.args.self.now in
    let stands = was.stands in
    let change = c.args.change in
    let by = works_for g.D.Desk.Stands old.working c.in-Some.working L.history c.in-Some.is stands.working in
    let is = judged_for g.D.Desk.Stands old.working L.history change c.requires.ready.judged stands.working in
    let following = ap (λ n. n + 1) stands.count in
    let after = c.in_ok-text.ensures.edits L.greatest (basis Two L.history) by.stands is following in
    let fresh = c.in_ok-text.ensures.new L.greatest (basis Two L.history) by.stands following in
    let told = err_from_is_err_and c.from_residual-in_err-append_with_entries.result c.from_residual-in_err-append_with_entries.ensures.1 in
    let all = fails g.S.Store g.D.Desk.Stands g.D.KeepsRows.kept_rows old _ _ c.reserve.new.self L _ Unavailable L.history _ told.1 c.in-Some-working.is refl c.reserve.ensures.same refl refl (c.append_with_entries.ensures.inside.mode stands.mode) c.append_with_entries.ensures.crash c.in_err-append_with_entries.ensures.neither stands in
    let new = record old { conn = c.append_with_entries.new.conn } in
    neither_noted g.S.Store g.D.Desk.Stands old _ L change.stamped c.args.entries.now before _ _ told.1 all.err
    (book_kept g.S.Store g.D.Desk.Stands old new L change.stamped c.args.entries.now before c.append_with_entries.ensures.crash c.in_err-append_with_entries.ensures.neither was.book)
    (survives_together g.S.Store g.D.Desk.Stands old new L change.stamped c.args.entries.now before _ was on after fresh (rw c.as_slice.ensures at c.append_with_entries.ensures.crash))

pub settle-requires : goal.settle-requires
settle-requires g c =
    let L = c.requires.stands.0 in
    let stands = c.requires.stands.1 in
    let works = works_for g.D.Desk.Stands c.args.self.now.working _ L.history c.in-Some-working.is stands.working in
    let same = same_Some _ _ (sym c.in-Some.is ∙ c.in-Some-working.is) in
    record {
      ready = record {
        room = (basis Two L.history, works.stands, omega (arith, stands.count, stands.greatest, stands.bound, c.requires.ready.room));
        judged = rw c.in-Some-working.is at c.requires.ready.judged;
        lead = rw (sym c.as_slice-2.ensures) at (rw same at c.in_ok-text.ensures.lead);
      };
    }

pub returns-clause-answers : goal.returns-clause-answers
returns-clause-answers g c L stands =
    let old = c.args.self.now in
    let change = c.args.change in
    let is = judged_for g.D.Desk.Stands old.working L.history change c.requires.ready.judged stands.working in
    let by = works_for g.D.Desk.Stands old.working c.in-Some.working L.history c.in-Some.is stands.working in
    let next = ap (λ n. n + 1) stands.count in
    let after = c.in_ok-text.ensures.edits L.greatest (basis Two L.history) by.stands is next in
    let edits = c.in_ok-text.field-0.edits in
    record {
      answer = search rules;
      err = tt;
      rows = rows_settled g.D.KeepsRows.kept_rows edits old.working _ _ L.history (accept L.history change.stamped) c.in-Some-working.is (rw c.as_slice-2.ensures at c.settle.ensures.rows) (lead_of L.greatest L.history (accept L.history change.stamped) c.in_ok-text.field-0.row edits after);
      rows_stay = λ was. tt;
    }

pub returns-clause-commits : goal.returns-clause-commits
returns-clause-commits g c L before was on =
    let old = c.args.self.now in
    let stands = was.stands in
    let change = c.args.change in
    let is = judged_for g.D.Desk.Stands old.working L.history change c.requires.ready.judged stands.working in
    let by = works_for g.D.Desk.Stands old.working c.in-Some.working L.history c.in-Some.is stands.working in
    let following = ap (λ n. n + 1) stands.count in
    let after = c.in_ok-text.ensures.edits L.greatest (basis Two L.history) by.stands is following in
    let fresh = c.in_ok-text.ensures.new L.greatest (basis Two L.history) by.stands following in
    let minute : IsMinute change.minute = search rules in
    let held = works_for g.D.Desk.Stands old.working _ L.history c.in-Some-working.is stands.working in
    let works : WorksFor g.D.Desk.Stands c.settle.new.working (accept L.history change.stamped) =
    c.settle.ensures.works L.history (record { stands = held.stands; listed = c.reserve.ensures.same L.history held.listed }) following in
    both_noted g.S.Store g.D.Desk.Stands old _ L change.stamped c.args.entries.now before (command_edits c.in_ok-text.field-0.row c.in_ok-text.field-0.edits) was on after fresh
    (rw c.as_slice.ensures at c.append_with_entries.ensures.crash) change refl c.requires.ready.room is c.ranges_hold.ensures minute refl refl (c.append_with_entries.ensures.inside.mode stands.mode) works
    (λ clean. rw c.as_slice.ensures at (c.in_ok-append_with_entries.ensures.done clean)) c.in_ok-append_with_entries.ensures.stays_open (λ clean trees may. rw c.as_slice.ensures at (c.in_ok-append_with_entries.ensures.alone clean trees may)) _

pub returns-in_err-text-clause-kept : goal.returns-in_err-text-clause-kept
returns-in_err-text-clause-kept g c = c.requires.stands

pub returns-in_err-reserve-clause-kept : goal.returns-in_err-reserve-clause-kept
returns-in_err-reserve-clause-kept g c =
    let L = c.requires.stands.0 in
    let stands = c.requires.stands.1 in
    let told = err_from_is_err_and c.from_residual-in_err-reserve.result c.from_residual-in_err-reserve.ensures.1 in
    let all = fails g.S.Store g.D.Desk.Stands g.D.KeepsRows.kept_rows c.args.self.now _ _ c.reserve.new.self L _ Unavailable L.history _ told.1 c.in-Some-working.is refl c.reserve.ensures.same refl refl stands.mode (survives_still {P = λ _. ⊤} _) (λ _. keeps_same _) stands in
    failed_kept g.S.Store g.D.Desk.Stands _ L _ _ told.1 all.err

pub returns-in_err-append_with_entries-clause-kept : goal.returns-in_err-append_with_entries-clause-kept
returns-in_err-append_with_entries-clause-kept g c =
    let L = c.requires.stands.0 in
    let stands = c.requires.stands.1 in
    let told = err_from_is_err_and c.from_residual-in_err-append_with_entries.result c.from_residual-in_err-append_with_entries.ensures.1 in
    let all = fails g.S.Store g.D.Desk.Stands g.D.KeepsRows.kept_rows c.args.self.now _ _ c.reserve.new.self L _ Unavailable L.history _ told.1 c.in-Some-working.is refl c.reserve.ensures.same refl refl (c.append_with_entries.ensures.inside.mode stands.mode) c.append_with_entries.ensures.crash c.in_err-append_with_entries.ensures.neither stands in
    failed_kept g.S.Store g.D.Desk.Stands _ L _ _ told.1 all.err

pub returns-clause-kept : goal.returns-clause-kept
returns-clause-kept g c =
    let old = c.args.self.now in
    let L = c.requires.stands.0 in
    let stands = c.requires.stands.1 in
    let change = c.args.change in
    let is = judged_for g.D.Desk.Stands old.working L.history change c.requires.ready.judged stands.working in
    let following = ap (λ n. n + 1) stands.count in
    let minute : IsMinute change.minute = search rules in
    let held = works_for g.D.Desk.Stands old.working _ L.history c.in-Some-working.is stands.working in
    let works : WorksFor g.D.Desk.Stands c.settle.new.working (accept L.history change.stamped) =
    c.settle.ensures.works L.history (record { stands = held.stands; listed = c.reserve.ensures.same L.history held.listed }) following in
    accepted_kept g.S.Store g.D.Desk.Stands old _ L change stands c.requires.ready.room is c.ranges_hold.ensures minute refl refl (c.append_with_entries.ensures.inside.mode stands.mode) works c.append_with_entries.ensures.crash
