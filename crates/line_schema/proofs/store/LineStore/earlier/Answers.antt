use Rattle.desk_types.proofs.Common.{[], ◌∙◌, ◌∷◌, ◌≡◌, ap, arith, filter, None, refl, Some, subst, sym}
use Rattle.line_tables.proofs.Common.{accepted_in, has_uid, HasCleanDisk, Reads, row_of, state}
use Rattle.line_schema.proofs.{Lookup.looked_up, Lookup.none_stood, Lookup.one_stood, Others.let_be_reads}
use Rattle.line_schema.proofs.{StandsAfter.read_on}
use Rattle.line_tables.specs.Rows.{columns_of}
use Rattle.line_schema.proofs.store.LineStore.earlier.Goals as goal

pub returns-in_ok-answer_under-in-Some-clause-answer : goal.returns-in_ok-answer_under-in-Some-clause-answer
returns-in_ok-answer_under-in-Some-clause-answer g c L stands clean own =
    let old = state g.S.Store c.args.self.now.conn in
    let s = c.args.stamped.now in
    let early : HasCleanDisk old = omega (arith, c.find.ensures.reads.survives.clean, clean) in
    let found : Reads old (λ db. filter (has_uid s.uid) (accepted_in db) ≡ columns_of c.in-Some.row ∷ []) =
    subst (λ o. Reads old (λ db. filter (has_uid s.uid) (accepted_in db) ≡ row_of o)) c.in-Some.is (subst (λ u. Reads old (λ db. filter (has_uid u) (accepted_in db) ≡ row_of c.in_ok-row.field-0)) c.as_str.ensures (c.in_ok-row.ensures.found clean)) in
    let stood = one_stood _ L.history s (columns_of c.in-Some.row) stands.judged (looked_up old L.greatest L.history s (Some c.in-Some.row) (stands.tables early own) found) in
    ap Some (c.in_ok-answer_under-in-Some.ensures stood.before stood.entry stood.in_range stood.uid stood.is) ∙ sym stood.answer

pub returns-in-None-clause-answer : goal.returns-in-None-clause-answer
returns-in-None-clause-answer g c L stands clean own =
    let old = state g.S.Store c.args.self.now.conn in
    let s = c.args.stamped.now in
    let early : HasCleanDisk old = omega (arith, c.find.ensures.reads.survives.clean, clean) in
    let found : Reads old (λ db. filter (has_uid s.uid) (accepted_in db) ≡ []) =
    subst (λ o. Reads old (λ db. filter (has_uid s.uid) (accepted_in db) ≡ row_of o)) c.in-None.is (subst (λ u. Reads old (λ db. filter (has_uid u) (accepted_in db) ≡ row_of c.in_ok-row.field-0)) c.as_str.ensures (c.in_ok-row.ensures.found clean)) in
    sym (none_stood L.history s (looked_up old L.greatest L.history s None (stands.tables early own) found))

pub returns-in_ok-answer_under-in-Some-clause-others : goal.returns-in_ok-answer_under-in-Some-clause-others
returns-in_ok-answer_under-in-Some-clause-others g c = let_be_reads g.S.Store _ _ c.find.ensures.reads

pub returns-in-None-clause-others : goal.returns-in-None-clause-others
returns-in-None-clause-others g c = let_be_reads g.S.Store _ _ c.find.ensures.reads

pub returns-in_err-row-clause-stands : goal.returns-in_err-row-clause-stands
returns-in_err-row-clause-stands g c = read_on g.S.Store g.D.Desk.Stands c.args.self.now _ refl refl refl c.find.ensures.reads.mode c.find.ensures.reads.survives c.find.ensures.reads.kept

pub returns-in_err-answer_under-in-Some-clause-stands : goal.returns-in_err-answer_under-in-Some-clause-stands
returns-in_err-answer_under-in-Some-clause-stands g c = read_on g.S.Store g.D.Desk.Stands c.args.self.now _ refl refl refl c.find.ensures.reads.mode c.find.ensures.reads.survives c.find.ensures.reads.kept

pub returns-in_ok-answer_under-in-Some-clause-stands : goal.returns-in_ok-answer_under-in-Some-clause-stands
returns-in_ok-answer_under-in-Some-clause-stands g c = read_on g.S.Store g.D.Desk.Stands c.args.self.now _ refl refl refl c.find.ensures.reads.mode c.find.ensures.reads.survives c.find.ensures.reads.kept

pub returns-in-None-clause-stands : goal.returns-in-None-clause-stands
returns-in-None-clause-stands g c = read_on g.S.Store g.D.Desk.Stands c.args.self.now _ refl refl refl c.find.ensures.reads.mode c.find.ensures.reads.survives c.find.ensures.reads.kept

pub returns-in_err-row-clause-others : goal.returns-in_err-row-clause-others
returns-in_err-row-clause-others g c = let_be_reads g.S.Store _ _ c.find.ensures.reads

pub returns-in_err-answer_under-in-Some-clause-others : goal.returns-in_err-answer_under-in-Some-clause-others
returns-in_err-answer_under-in-Some-clause-others g c = let_be_reads g.S.Store _ _ c.find.ensures.reads
