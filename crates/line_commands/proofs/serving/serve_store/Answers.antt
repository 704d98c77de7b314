use Rattle.desk_types.proofs.Common.{rules, subst}
use Rattle.book_store.specs.declared.store.BookStore.{BookStore}
use Rattle.book_store.specs.Lists.{book_state}
use Rattle.desk_commands.proofs.EndsOfRuns.{serving_follows}
use Rattle.desk_commands.specs.Connections.{AnswersInTurn}
use Rattle.http_stream.specs.Stream.{ForStates}
use Rattle.line_http.specs.Line.{Represents}
use Rattle.line_http.specs.Rule.{line_rule}
use Rattle.line_tables.proofs.Common.{HasCleanDisk}
use Rattle.line_commands.proofs.serving.serve_store.Goals as goal

-- The store that comes back is the lent one.
pub returns : goal.returns
returns g c = record {
  ends = serving_follows c.serve_handler-status.ensures.ends
      (λ es. subst (λ (s : BookStore _ _). ForStates (Represents g.S.Store g.D.Desk.Stands)
      (λ kept. HasCleanDisk (book_state g.S.Store kept)) c.args.store.now s (AnswersInTurn line_rule es))
      (search rules))
      (λ none. none);
}
