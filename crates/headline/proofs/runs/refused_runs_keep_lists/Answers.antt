use Rattle.line_tables.proofs.Common.{LeavesMigrated, One}
use Rattle.desk_file.specs.Refused.{IsFaultFor, IsFaultIn, LeavesMade}
use Rattle.headline.proofs.ProgramRuns.{keeps}
use Rattle.sqlite_wal.specs.Files.{image_at}
use Rattle.headline.proofs.runs.refused_runs_keep_lists.Goals as goal

pub returns-clause-refused : goal.returns-clause-refused
returns-clause-refused g c = λ make fault image.
    keeps c.next_run_goes_on.ensures.held _ g.T.Start make c.args.files.now image (IsFaultFor (image_at g.T.Start) make) (LeavesMade make) _ fault

pub returns-clause-unmigrated : goal.returns-clause-unmigrated
returns-clause-unmigrated g c = λ make fault image.
    keeps c.next_run_goes_on.ensures.held _ g.T.Start make c.args.files.now image (IsFaultIn (image_at g.T.Start) One) LeavesMigrated _ fault
