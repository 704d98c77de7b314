use Rattle.desk_types.proofs.Common.{arith, IsTrue, refl, subst, sym}
use Rattle.line_tables.proofs.Common.{HasCleanDisk, Holds, state}
use Rattle.line_replay.specs.Rows.{ledger_tables}
use Rattle.line_schema.proofs.{Others.file_read, StandsAfter.read_on, StandsAfter.remade, StandsAfter.stays}
use Rattle.line_schema.proofs.store.LineStore.remake.Goals as goal

pub returns-in-Some-clause-kept : goal.returns-in-Some-clause-kept
returns-in-Some-clause-kept g c =
    let old = c.requires.stands in
    let list = c.in-Some.ensures.list in (
      _,
      remade g.S.Store g.D.Desk.Stands c.args.self.now _ list.0 refl (sym list.1.counted) (record { stands = list.1.stands; listed = list.2 }) (c.rebuild.ensures.reads.mode old.1.mode) list.1.judged c.rebuild.ensures.reads.survives old.0 old.1 (omega (arith, list.1.within, old.1.greatest)),
    )

pub returns-in-Some-clause-stands : goal.returns-in-Some-clause-stands
returns-in-Some-clause-stands g c L s clean own =
    let old = state g.S.Store c.args.self.now.conn in
    let early : HasCleanDisk (state g.S.Store c.rebuild.new.conn) → HasCleanDisk old = λ now. omega (arith, c.rebuild.ensures.reads.survives.clean, now) in
    let held = subst (λ n. IsTrue old.is_open → Holds old.committed (ledger_tables n L.history)) (sym s.greatest) (s.tables (early clean) own) in
    let same = c.in-Some.ensures.same L.history s.judged held clean in
    stays g.S.Store g.D.Desk.Stands c.args.self.now _ L refl same.1 (record { stands = same.0; listed = same.2 }) (c.rebuild.ensures.reads.mode s.mode) c.rebuild.ensures.reads.survives c.rebuild.ensures.reads.kept s

pub returns-in-Some-clause-file : goal.returns-in-Some-clause-file
returns-in-Some-clause-file g c = file_read g.S.Store _ _ c.rebuild.ensures.reads

pub returns-in-None-clause-file : goal.returns-in-None-clause-file
returns-in-None-clause-file g c = file_read g.S.Store _ _ c.rebuild.ensures.reads

pub returns-in-None-clause-kept : goal.returns-in-None-clause-kept
returns-in-None-clause-kept g c =
    let reads = c.rebuild.ensures.reads in
    (c.requires.stands.0, read_on g.S.Store g.D.Desk.Stands c.args.self.now _ refl refl refl reads.mode reads.survives reads.kept c.requires.stands.0 c.requires.stands.1)

pub returns-in-None-clause-stands : goal.returns-in-None-clause-stands
returns-in-None-clause-stands g c L stands clean own = let reads = c.rebuild.ensures.reads in read_on g.S.Store g.D.Desk.Stands c.args.self.now _ refl refl refl reads.mode reads.survives reads.kept L stands

pub returns-in-Some-clause-rows : goal.returns-in-Some-clause-rows
returns-in-Some-clause-rows g c L s clean own was =
    let old = state g.S.Store c.args.self.now.conn in
    let early : HasCleanDisk (state g.S.Store c.rebuild.new.conn) → HasCleanDisk old = λ now. omega (arith, c.rebuild.ensures.reads.survives.clean, now) in
    let held = subst (λ n. IsTrue old.is_open → Holds old.committed (ledger_tables n L.history)) (sym s.greatest) (s.tables (early clean) own) in
    (c.in-Some.ensures.same L.history s.judged held clean).3
