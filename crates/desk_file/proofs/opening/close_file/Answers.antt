use Rattle.desk_file.proofs.ClosedFiles.{keeps, leaves}
use Rattle.desk_file.proofs.opening.close_file.Goals as goal

pub returns-in-Ok-clause-whole : goal.returns-in-Ok-clause-whole
returns-in-Ok-clause-whole g c = keeps c.args.conn c.in-Ok.files c.schema-obeyed.ensures.live c.in-Ok.ensures.copied

pub returns-in-Err-clause-left : goal.returns-in-Err-clause-left
returns-in-Err-clause-left g c = leaves g.met.D.Disk.seen_may_stay c.args.conn c.in-Err.store c.close.result c.close.ensures c.schema-obeyed.ensures.live c.in-Err.ensures.err.0
