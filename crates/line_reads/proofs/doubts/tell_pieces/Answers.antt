use Rattle.desk_commands.proofs.EndsOfRuns.{print_refused}
use Rattle.line_reads.proofs.doubts.tell_pieces.Goals as goal

pub returns-in-Err : goal.returns-in-Err
returns-in-Err g c = record { ends = print_refused c.unavailable.ensures.status c.unavailable.ensures.told }
