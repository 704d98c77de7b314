use Rattle.desk_types.proofs.Common.{◌∙◌, ap, IfOk-weaker, sym}
use Rattle.chain_check.specs.{Rows.pieces_of, declared.question.Subject.Subject}
use Rattle.chain_stores.proofs.AskedPieces.{board-pieces}
use Rattle.chain_stores.proofs.looking.of_subject.Goals as goal

pub returns-in-Board-clause-pieces : goal.returns-in-Board-clause-pieces
returns-in-Board-clause-pieces g c L stands clean own =
    IfOk-weaker c.on_board.result _ _ (λ pieces is. is ∙ board-pieces L.history _ stands.judged ∙ ap (λ (s : Subject). pieces_of s L.history) (sym c.in-Board.is)) (c.on_board.ensures.pieces L stands clean own)
