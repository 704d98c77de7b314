use Rattle.desk_types.proofs.Common.{◌∙◌, sym}
use Rattle.chain_check.proofs.SameTables.{rows-idle, rows-working, started-is}
use Rattle.chain_check.proofs.tables.work_difference.Goals as goal

pub returns-in-Some-clause-differs : goal.returns-in-Some-clause-differs
returns-in-Some-clause-differs c = λ H H' judged judged' is is'. rows-working H c.args.old.now c.in-Some.board judged is c.in-Some.ensures.some

pub returns-in-Some-first_in_work-clause-differs : goal.returns-in-Some-first_in_work-clause-differs
returns-in-Some-first_in_work-clause-differs c = λ H H' judged judged' is is'.
    rows-working H' c.args.new.now c.in-Some-first_in_work.board judged' is' c.in-Some-first_in_work.ensures.some

pub returns-in-Some-first_new_board-clause-differs : goal.returns-in-Some-first_new_board-clause-differs
returns-in-Some-first_new_board-clause-differs c = λ H H' judged judged' is is'.
    let board = c.in-Some-first_new_board.board in
    let only = c.in-Some-first_new_board.ensures.new in
    (sym (started-is H' c.args.new.now board judged' is') ∙ only.0, sym (started-is H c.args.old.now board judged is) ∙ only.1)

pub returns-clause-same : goal.returns-clause-same
returns-clause-same c = λ H H' judged judged' is is'. record {
  old_idle = rows-idle H c.args.old.now judged is c.in_default.ensures.none;
  new_idle = rows-idle H' c.args.new.now judged' is' c.in_default-first_in_work.ensures.none;
  boards_known = λ board started.
      sym (started-is H c.args.old.now board judged is)
      ∙ c.in_default-first_new_board.ensures.known board (started-is H' c.args.new.now board judged' is' ∙ started);
}
