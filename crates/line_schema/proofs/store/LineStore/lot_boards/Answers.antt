use Rattle.desk_types.proofs.Common.{refl, rules, subst, sym}
use Rattle.line_tables.proofs.Common.{state}
use Rattle.line_schema.proofs.{StandsAfter.reads_on, TracesOfLists.told-of}
use Rattle.line_traces.proofs.Converse.{told-converse}
use Rattle.line_traces.specs.Pieces.{AreConverse, board_trace, lot_board_names}
use Rattle.line_schema.proofs.store.LineStore.lot_boards.Goals as goal

pub returns-clause-boards : goal.returns-clause-boards
returns-clause-boards g c = told-of g.S.Store g.D.Desk.Stands c.args.self.now (state g.S.Store c.lot_boards.new.conn) _ (λ H. lot_board_names H c.args.lot.now) c.in_ok-lot_boards.field-0 (search rules) c.lot_boards.ensures.reads.survives c.in_ok-lot_boards.ensures.boards

pub returns-clause-converse : goal.returns-clause-converse
returns-clause-converse g c L stands clean own board =
    subst (λ boards. AreConverse board (board_trace L.history board) c.args.lot.now boards) (sym (returns-clause-boards g c L stands clean own)) (told-converse L.history board c.args.lot.now stands.judged)

pub returns-in_err-lot_boards-clause-reads : goal.returns-in_err-lot_boards-clause-reads
returns-in_err-lot_boards-clause-reads g c = reads_on g.S.Store g.D.Desk.Stands c.args.self.now _ refl refl refl c.lot_boards.ensures.reads

pub returns-clause-reads : goal.returns-clause-reads
returns-clause-reads g c = reads_on g.S.Store g.D.Desk.Stands c.args.self.now _ refl refl refl c.lot_boards.ensures.reads
