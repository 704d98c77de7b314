use Rattle.desk_types.proofs.Common.{by_name, is_at-by_name, None, same, Some}
use Rattle.state_rows.proofs.MountKeeping.{both-written, step-put, undone}
use Rattle.state_rows.proofs.RowLists.{row-written}
use Rattle.state_rows.proofs.mounts.put_both.Goals as goal

pub returns-in-Ok-clause-put : goal.returns-in-Ok-clause-put
returns-in-Ok-clause-put c =
    row-written by_name same is_at-by_name c.args.by_reel.now.entries c.insert.new.self.entries c.args.row.now.reel (Some c.args.row.now) c.in_ok-insert.ensures.updates.0

pub returns-in-Ok-clause-alike : goal.returns-in-Ok-clause-alike
returns-in-Ok-clause-alike c = λ none.
    both-written c.args.by_since.now.entries c.insert-2.new.self.entries c.args.by_reel.now.entries c.insert.new.self.entries c.args.row.now.since c.args.row.now.reel (Some c.args.row.now)
    c.in-Ok.ensures.updates.0
    (row-written by_name same is_at-by_name c.args.by_reel.now.entries c.insert.new.self.entries c.args.row.now.reel (Some c.args.row.now) c.in_ok-insert.ensures.updates.0)
    (step-put c.args.row.now _ none)

pub returns-in-Err-clause-alike : goal.returns-in-Err-clause-alike
returns-in-Err-clause-alike c = λ none.
    undone c.args.by_since.now.entries c.insert-2.new.self.entries c.args.by_reel.now.entries c.insert.new.self.entries c.remove.new.self.entries c.args.row.now.reel (Some c.args.row.now)
    c.in-Err.ensures.err
    (row-written by_name same is_at-by_name c.args.by_reel.now.entries c.insert.new.self.entries c.args.row.now.reel (Some c.args.row.now) c.in_ok-insert.ensures.updates.0)
    (row-written by_name same is_at-by_name c.insert.new.self.entries c.remove.new.self.entries c.args.row.now.reel None c.remove.ensures.updates.0)
    none
