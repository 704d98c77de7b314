use Rattle.std.proofs.Common.{◌∙◌, ℕ, List, string_bytes, subst, sym, arith}
use Rattle.std.specs.Option.{option_map}
use Rattle.sqlite.specs.Effect.{Database}
use Rattle.sqlite.specs.State.{HasCleanDisk}
use Rattle.sqlite.specs.Held.{state}
use Rattle.line_tables.specs.Rows.{Holds}
use Rattle.line_replay.specs.Rows.{ledger_tables}
use Rattle.chain_stores.specs.Begin.{IsMarkIn}
use Rattle.chain_stores.specs.First.{HoldsHistory}
use Rattle.chain_stores.proofs.FirstMessage.{first-marked}
use Rattle.chain_stores.proofs.begin.begin_of.Goals as goal

pub returns-clause-begin : goal.returns-clause-begin
returns-clause-begin g c rules greatest G holds count clean =
    let mark = option_map string_bytes c.in_ok-mark.mark in
    let read : HasCleanDisk (state g.S.Store c.message_at.new.conn) =
    omega (arith, c.begun_with.ensures.reads.survives.clean, clean) in
    let first =
    first-marked rules (HasCleanDisk (state g.S.Store c.message_at.new.conn)) (state g.S.Store c.args.conn.now)
    greatest G c.in_ok-first.first mark holds read c.in_ok-first.ensures.message
    (subst (λ (uid : List ℕ). IsMarkIn uid mark) c.as_str-uid.ensures c.in_ok-mark.ensures) in
    let kept = c.message_at.ensures.reads.kept read in
    let e = first.1 in
    let after : HoldsHistory rules (state g.S.Store c.message_at.new.conn) greatest G = record {
      judged = holds.judged;
      tables = λ is_open. subst (λ (db : Database). Holds db (ledger_tables greatest G))
          (sym (kept.committed is_open)) (holds.tables (kept.was_open is_open));
    } in
    (first.0, c.in_ok-commands.ensures.begun rules greatest G e.0 after count clean e.1 (e.2 ∙ sym c.as_str-uid.ensures))
