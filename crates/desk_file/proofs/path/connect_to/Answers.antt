use Rattle.desk_file.proofs.UnreadFiles.{untouched}
use Rattle.desk_file.proofs.path.connect_to.Goals as goal

pub returns-in_default-clause-unread : goal.returns-in_default-clause-unread
returns-in_default-clause-unread g c = untouched g.D.Disk c.args.files
