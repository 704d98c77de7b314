use Rattle.desk_types.proofs.Common.{refl, rules, subst, sym}
use Rattle.line_tables.proofs.Common.{state}
use Rattle.line_schema.proofs.{StandsAfter.reads_on, TracesOfLists.told-of}
use Rattle.line_traces.proofs.Converse.{told-converse}
use Rattle.line_traces.specs.Pieces.{AreConverse, board_trace, lot_board_names}
use Rattle.line_schema.proofs.store.LineStore.board_rows.Goals as goal

pub returns-clause-trace : goal.returns-clause-trace
returns-clause-trace g c = told-of g.S.Store g.D.Desk.Stands c.args.self.now (state g.S.Store c.board_rows.new.conn) _ (λ H. board_trace H c.args.board.now) c.in_ok-board_rows.field-0 (search rules) c.board_rows.ensures.reads.survives c.in_ok-board_rows.ensures.trace

pub returns-clause-converse : goal.returns-clause-converse
returns-clause-converse g c L stands clean own lot =
    subst (λ pieces. AreConverse c.args.board.now pieces lot (lot_board_names L.history lot)) (sym (returns-clause-trace g c L stands clean own)) (told-converse L.history c.args.board.now lot stands.judged)

pub returns-in_err-board_rows-clause-reads : goal.returns-in_err-board_rows-clause-reads
returns-in_err-board_rows-clause-reads g c = reads_on g.S.Store g.D.Desk.Stands c.args.self.now _ refl refl refl c.board_rows.ensures.reads

pub returns-clause-reads : goal.returns-clause-reads
returns-clause-reads g c = reads_on g.S.Store g.D.Desk.Stands c.args.self.now _ refl refl refl c.board_rows.ensures.reads
