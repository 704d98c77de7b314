use Rattle.desk_types.proofs.Common.{◌∙◌, by_name, is_at-by_name, None, refl, same, sym}
use Rattle.state_rows.proofs.{MountKeeping.both-written, MountKeeping.step-taken, RowLists.row-written}
use Rattle.state_rows.proofs.mounts.take_both.Goals as goal

pub returns-in-Some-clause-taken : goal.returns-in-Some-clause-taken
returns-in-Some-clause-taken c = row-written by_name same is_at-by_name c.args.by_reel.now.entries c.remove.new.self.entries c.args.reel.now None c.remove.ensures.updates.0

pub returns-in-Some-clause-alike : goal.returns-in-Some-clause-alike
returns-in-Some-clause-alike c =
    both-written c.args.by_since.now.entries c.remove-in-Some.new.self.entries c.args.by_reel.now.entries c.remove.new.self.entries c.in-Some.row.since c.args.reel.now None
    c.remove-in-Some.ensures.updates.0
    (row-written by_name same is_at-by_name c.args.by_reel.now.entries c.remove.new.self.entries c.args.reel.now None c.remove.ensures.updates.0)
    (step-taken c.in-Some.row.since c.in-Some.row _ (sym c.remove.ensures.value ∙ c.in-Some.is) refl)
