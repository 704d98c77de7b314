use Rattle.desk_types.proofs.Common.{[], ◌∷◌, ◌≡◌, arith, filter, IsStamped, refl, rules, subst, sym}
use Rattle.desk_laws.proofs.Common.{Two}
use Rattle.line_replay.specs.Judging.{IsMessageOf}
use Rattle.line_schema.proofs.{Numbered.none_at, Numbered.one_at, StandsAfter.reads_on}
use Rattle.line_tables.proofs.Common.{accepted_in, has_number, HasCleanDisk, only, Reads, state}
use Rattle.line_schema.proofs.store.LineStore.command_at.Goals as goal

pub returns-in_err-row-clause-reads : goal.returns-in_err-row-clause-reads
returns-in_err-row-clause-reads g c = reads_on g.S.Store g.D.Desk.Stands c.args.self.now _ refl refl refl c.row_at.ensures.reads

pub returns-in-None-clause-reads : goal.returns-in-None-clause-reads
returns-in-None-clause-reads g c = reads_on g.S.Store g.D.Desk.Stands c.args.self.now _ refl refl refl c.row_at.ensures.reads

pub returns-in_err-stamped-clause-reads : goal.returns-in_err-stamped-clause-reads
returns-in_err-stamped-clause-reads g c = reads_on g.S.Store g.D.Desk.Stands c.args.self.now _ refl refl refl c.row_at.ensures.reads

pub returns-in-Some-2-clause-reads : goal.returns-in-Some-2-clause-reads
returns-in-Some-2-clause-reads g c = reads_on g.S.Store g.D.Desk.Stands c.args.self.now _ refl refl refl c.row_at.ensures.reads

pub returns-clause-reads : goal.returns-clause-reads
returns-clause-reads g c = reads_on g.S.Store g.D.Desk.Stands c.args.self.now _ refl refl refl c.row_at.ensures.reads

pub returns-in-None-clause-found : goal.returns-in-None-clause-found
returns-in-None-clause-found g c L stands clean own =
    let old = state g.S.Store c.args.self.now.conn in
    let n = c.args.number in
    let early : HasCleanDisk old = omega (arith, c.row_at.ensures.reads.survives.clean, clean) in
    let found : Reads old (λ db. filter (has_number n) (accepted_in db) ≡ []) =
    subst (λ o. Reads old (λ db. filter (has_number n) (accepted_in db) ≡ only o)) c.in-None.is (c.in_ok-row.ensures.found clean) in
    sym (none_at old L.greatest n L.history (stands.tables early own) found)

pub returns-in-Some-2-clause-found : goal.returns-in-Some-2-clause-found
returns-in-Some-2-clause-found g c L stands clean own =
    let old = state g.S.Store c.args.self.now.conn in
    let n = c.args.number in
    let early : HasCleanDisk old = omega (arith, c.row_at.ensures.reads.survives.clean, clean) in
    let found : Reads old (λ db. filter (has_number n) (accepted_in db) ≡ c.in-Some.row ∷ []) =
    subst (λ o. Reads old (λ db. filter (has_number n) (accepted_in db) ≡ only o)) c.in-Some.is (c.in_ok-row.ensures.found clean) in
    let of : IsMessageOf c.in-Some.row c.in-Some-2.stamped = search rules in
    sym (one_at old L.greatest n L.history (stands.tables early own) Two c.in-Some.row c.in-Some-2.stamped stands.judged c.ranges_hold.ensures of found)
