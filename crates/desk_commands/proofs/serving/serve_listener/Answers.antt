use Rattle.desk_types.proofs.Common.{[], ◌++◌, ◌+◌, ◌∙◌, ◌∷◌, ◌≡◌, ap, Appends, Appends-trans, arith}
use Rattle.desk_types.proofs.Common.{inner_of, length, length-append, List, list_any, None, refl, rules}
use Rattle.desk_types.proofs.Common.{subst, sym}
use Rattle.desk_answers.specs.Sent.{SendsFront}
use Rattle.desk_commands.proofs.ClientsSeen.{all_no_port, client_no_port, line_no_port, sees_all, sees_more}
use Rattle.desk_commands.proofs.ClientsSeen.{sees_one_more}
use Rattle.desk_commands.proofs.ConnectionLines.{lines_more}
use Rattle.desk_commands.proofs.ListsAfter.{ends_more, faulty_more, Serves, serves_more}
use Rattle.desk_commands.specs.Clients.{ends_of, events_in, Exchange, no_client, no_line, served_all}
use Rattle.desk_commands.specs.Clients.Event.{none_came}
use Rattle.desk_commands.specs.Connections.{connection_line, is_faulty, lines_from}
use Rattle.std.specs.Prelude.{flat_map}
use Rattle.desk_commands.proofs.serving.serve_listener.Goals as goal

pub returns-in_default-clause-told : goal.returns-in_default-clause-told
returns-in_default-clause-told g c =
    let inv = c.loop-k.invariant in
    let is : c.serve_next.result ≡ None = search rules in
    let (same, seen) = c.serve_next.ensures.none is in
    let count = inv.count in
    let below = c.loop-k-test.true in (
      record { exchanges = inv.exchanges; stop = no_client },
      (omega (arith, count, below), refl, inv.lines, inv.failures),
      (sees_more g.C.Clients.Saw c.args.clients.now c.loop-k.clients c.serve_next.new.clients (flat_map events_in inv.exchanges) (none_came ∷ []) inv.seen seen, client_no_port),
      subst (Serves g.H.Handler.rule g.H.Handler.Stands g.H.Handler.Trusts c.args.handler.now inv.exchanges) (sym same) inv.served,
    )

pub returns-clause-told : goal.returns-clause-told
returns-clause-told g c =
    let inv = c.loop-k.invariant in
    let count = inv.count in
    let last = c.loop-k.auto.k-end in
    let past = c.loop-k-test.false in
    let faulty = inv.faulty in (
      record { exchanges = inv.exchanges; stop = served_all },
      (omega (arith, count, last, past), search rules, inv.lines, inv.failures),
      (sees_all g.C.Clients.Saw c.args.clients.now c.loop-k.clients (flat_map events_in inv.exchanges) inv.seen, all_no_port),
      inv.served,
    )

pub returns-in-Err-clause-told : goal.returns-in-Err-clause-told
returns-in-Err-clause-told g c =
    let inv = c.loop-k.invariant in
    let (e, ended, seen, served) = c.in-Some.ensures.served in
    let exchanges : List Exchange = inv.exchanges ++ e ∷ [] in
    let ends = ends_more inv.exchanges e c.in-Some.ended ended in
    let contents = g.W.Write.contents in
    let mid = contents (inner_of c.loop-k.output) in
    let out₂ = contents (inner_of c.tell.new.output) in
    let count = inv.count in
    let long = ap length ends ∙ length-append (ends_of inv.exchanges) (c.in-Some.ended ∷ []) in
    let below = c.loop-k-test.true in
    let failed = c.in-Err.ensures.failed in
    let before = inv.failures in
    let number : c.from.result + 1 ≡ length (ends_of inv.exchanges) + 1 = omega (arith, c.from.ensures, count) in
    let line : SendsFront mid out₂ (connection_line (length (ends_of inv.exchanges) + 1) c.in-Some.ended) = subst (λ n. SendsFront mid out₂ (connection_line n c.in-Some.ended)) number c.in-Err.ensures.front in (
      record { exchanges = exchanges; stop = no_line },
      (omega (arith, count, long, below), refl, omega (arith, failed, before), ends_of inv.exchanges, c.in-Some.ended, mid, ends, inv.lines, line),
      (sees_all g.C.Clients.Saw c.args.clients.now c.serve_next.new.clients (flat_map events_in exchanges) (sees_one_more g.C.Clients.Saw c.args.clients.now c.loop-k.clients c.serve_next.new.clients inv.exchanges e inv.seen seen), line_no_port),
      serves_more g.H.Handler.rule g.H.Handler.Stands g.H.Handler.Trusts c.args.handler.now c.loop-k.handler c.serve_next.new.handler inv.exchanges e
          c.serve_next.ensures.stays.trusts inv.served served,
    )

pub loop-k-preserved : goal.loop-k-preserved
loop-k-preserved g c =
    let inv = c.loop-k.invariant in
    let (e, ended, seen, served) = c.in-Some.ensures.served in
    let ends = ends_more inv.exchanges e c.in-Some.ended ended in
    let contents = g.W.Write.contents in
    let out₀ = contents (inner_of c.args.output.now) in
    let out₁ = contents (inner_of c.loop-k.output) in
    let out₂ = contents (inner_of c.tell.new.output) in
    let count = inv.count in
    let long = ap length ends ∙ length-append (ends_of inv.exchanges) (c.in-Some.ended ∷ []) in
    let number = c.from.ensures in
    let lines = ap (lines_from 1) ends ∙ lines_more 1 (ends_of inv.exchanges) c.in-Some.ended (c.from.result + 1) (omega (arith, number, count)) in record {
      exchanges = inv.exchanges ++ e ∷ [];
      count = omega (arith, count, long);
      lines = subst (Appends out₀ out₂) (sym lines) (Appends-trans out₀ out₁ out₂ (lines_from 1 (ends_of inv.exchanges)) (connection_line (c.from.result + 1) c.in-Some.ended) inv.lines c.in-Ok.ensures.ok);
      failures = c.in-Ok.ensures.kept ∙ inv.failures;
      faulty = faulty_more c.loop-k.faulty c.is_faulty-faulty.result (ends_of inv.exchanges) c.in-Some.ended inv.faulty c.is_faulty-faulty.ensures ∙ sym (ap (list_any is_faulty) ends);
      stays = record { ready = c.serve_next.ensures.stays.ready; trusts = λ trusts. inv.stays.trusts (c.serve_next.ensures.stays.trusts trusts); borrow = c.serve_next.ensures.stays.borrow ∙ inv.stays.borrow };
      seen = sees_one_more g.C.Clients.Saw c.args.clients.now c.loop-k.clients c.serve_next.new.clients inv.exchanges e inv.seen seen;
      served = serves_more g.H.Handler.rule g.H.Handler.Stands g.H.Handler.Trusts c.args.handler.now c.loop-k.handler c.serve_next.new.handler inv.exchanges e
          c.serve_next.ensures.stays.trusts inv.served served;
    }
