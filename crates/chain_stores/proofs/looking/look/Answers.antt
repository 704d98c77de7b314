use Rattle.std.proofs.Common.{◌≡◌, ◌∙◌, IsTrue, Option, Some, sym, ap, subst, arith}
use Rattle.std.specs.Prelude.{IfSome}
use Rattle.sqlite.specs.Effect.{Database}
use Rattle.sqlite.specs.State.{HasCleanDisk}
use Rattle.sqlite.specs.Held.{Held, state}
use Rattle.desk_types.specs.declared.rules.Rules.TheVariants.{Two}
use Rattle.line_tables.specs.Rows.{Holds}
use Rattle.line_replay.specs.Rows.{ledger_tables}
use Rattle.line_schema.specs.Traces.{working_of}
use Rattle.chain_stores.specs.Begin.{IsBegunWith}
use Rattle.chain_stores.proofs.looking.look.Goals as goal

of-some : {X : Type 0} (P : X → Type 0) (o : Option X) (x : X) → o ≡ Some x → IfSome o P → P x
of-some P o x is all = subst (λ (o : Option _). IfSome o P) is all

pub returns-in-Some-first_desk-clause-says : goal.returns-in-Some-first_desk-clause-says
returns-in-Some-first_desk-clause-says g c L stands own clean =
    let store = c.asked_of-pieces.new.store in
    let first = c.into_parts-conn.result.0 in
    let conn = c.begin_of.new.conn in
    let parts = c.into_parts-conn.ensures in
    let conn_is : first ≡ store.conn = ap (λ p. p.0) parts in
    let clean2 : HasCleanDisk (state g.S.Store conn) = omega (arith, c.first_desk.ensures.reads.survives.clean, clean) in
    let clean1 : HasCleanDisk (state g.S.Store first) = omega (arith, c.begin_of.ensures.reads.survives.clean, clean2) in
    let clean0 : HasCleanDisk (state g.S.Store store.conn) = subst (λ (k : Held g.row.S.Denot). HasCleanDisk (state g.S.Store k)) conn_is clean1 in
    let after = c.asked_of-pieces.ensures.reads.stands L stands in
    let tables : IsTrue (state g.S.Store first).is_open → Holds (state g.S.Store first).committed (ledger_tables L.greatest L.history) =
    subst (λ (k : Held g.row.S.Denot). IsTrue (state g.S.Store k).is_open → Holds (state g.S.Store k).committed (ledger_tables L.greatest L.history)) (sym conn_is) (after.tables clean0 own) in
    let kept = c.begin_of.ensures.reads.kept clean2 in
    let works = of-some _ (working_of store) c.in-Some.field-0 (sym (ap (λ p. p.1) parts) ∙ c.in-Some.is) after.working in
    let begun = c.in-Some-first_desk.ensures.first in
    let told = c.in-Ok-begin_of.ensures.begin Two L.greatest L.history (record { judged = stands.judged; tables = tables }) (c.count-commands.ensures L stands) clean2 in
    record {
      first = begun.first;
      prefix = begun.prefix L.greatest L.history (record {
        judged = stands.judged;
        tables = λ is_open. subst (λ (db : Database). Holds db (ledger_tables L.greatest L.history)) (sym (kept.committed is_open)) (tables (kept.was_open is_open));
      }) clean;
      begun_with = sym begun.counted;
      is_begin = subst (IsBegunWith L.history) (sym begun.counted) told.1;
      mark = told.0;
      begun = begun.stands;
      count = c.count-commands.ensures L stands;
      whole = works.stands;
      pieces = c.in-Ok.ensures.pieces L stands clean0 own;
    }
