use Rattle.desk_types.proofs.Common.{inl, IsTrue, refl, rules, subst, sym}
use Rattle.desk_laws.proofs.Common.{Two}
use Rattle.line_tables.proofs.Common.{Database, Holds, is_ours, state}
use Rattle.desk_laws.proofs.JudgedLists.{consistent}
use Rattle.line_replay.specs.Rows.{ledger_tables}
use Rattle.line_schema.{proofs.ReadOfCommitted.opened_holds, proofs.ReadOfCommitted.opened_lawful}
use Rattle.line_schema.{proofs.StandsAfter.still_open, specs.Stands.Kept}
use Rattle.line_tables.proofs.Ours.{ours_is}
use Rattle.line_schema.proofs.store.LineStore.open.Goals as goal

pub returns-in-Ok-clause-opened : goal.returns-in-Ok-clause-opened
returns-in-Ok-clause-opened g c =
    let old = state g.S.Store c.args.conn in
    let F = g.D.Desk.Stands in
    let all = c.in-Ok.ensures.ok in
    let o = all.1 in
    let auto : IsTrue c.is_autocommit.result = search rules in
    let holds = opened_holds F _ old Two c.in-Ok.field-0 all.0 o c.in-Ok.ensures.named (c.is_autocommit.ensures.settled auto) in
    let L : Kept = record { greatest = c.in-Ok.field-0.greatest; history = all.0; own = is_ours old.committed.schema } in (
      L,
      record {
        own = refl;
        stands = record {
          greatest = refl;
          bound = o.bound;
          count = o.count;
          within = o.within;
          judged = o.judged;
          consistent = consistent Two all.0 o.judged;
          working = o.working;
          mode = search rules;
          stays_open = λ clean. still_open _ c.read_tables.ensures.reads.survives (λ was. inl (o.apart clean).was_open) clean;
          lawful = λ clean own. opened_lawful F _ old c.in-Ok.field-0 all.0 o clean own;
          tables = λ clean own is_open. subst (λ (db : Database). Holds db (ledger_tables L.greatest L.history)) (sym ((c.read_tables.ensures.reads.kept clean).committed is_open)) ((holds clean).are (let ours = ours_is old.committed.schema own in record { rules = Two; layout = ours.0; same = ours.1 }));
        };
        tables = holds;
        rows = all.2;
        loaded = refl;
        named = c.in-Ok.ensures.named;
        reads = c.read_tables.ensures.reads;
      },
    )
