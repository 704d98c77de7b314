use Rattle.line_headline.proofs.NextRun.{next_lists}
use Rattle.line_headline.proofs.next_run_has_both_lists.Goals as goal

pub returns : goal.returns
returns g c L trees K lawful left is =
    next_lists g.S.Store g.D.Desk.Stands c.args.desk.now c.args.opened.now L trees K (c.rows_tell_lists_apart.ensures _)
    lawful left is
