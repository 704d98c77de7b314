use Rattle.desk_types.proofs.Common.{◌≡◌, Appends, failures_of, inner_of, length, List, list_any}
use Rattle.desk_commands.proofs.ListsAfter.{Serves}
use Rattle.desk_commands.specs.Clients.{ends_of, events_in, Exchange, Sees}
use Rattle.desk_commands.specs.Connections.{is_faulty, lines_from}
use Rattle.http_stream.specs.Stream.{StaysLent}
use Rattle.std.specs.Prelude.{flat_map}
use Rattle.desk_commands.proofs.serving.serve_listener.Given as goal

abbrev pub invariant-loop-k : goal.invariant-loop-k
invariant-loop-k g l = record {
  exchanges : List Exchange;
  count : length (ends_of exchanges) ≡ l.k;
  lines : Appends (g.W.Write.contents (inner_of l.fn.output)) (g.W.Write.contents (inner_of l.output)) (lines_from 1 (ends_of exchanges));
  failures : failures_of l.output ≡ failures_of l.fn.output;
  faulty : l.faulty ≡ list_any is_faulty (ends_of exchanges);
  stays : StaysLent g.H.Handler.Ready g.H.Handler.Trusts g.H.Handler.held l.fn.handler l.handler;
  seen : Sees g.C.Clients.Saw l.fn.clients l.clients (flat_map events_in exchanges);
  served : Serves g.H.Handler.rule g.H.Handler.Stands g.H.Handler.Trusts l.fn.handler exchanges l.handler;
}
