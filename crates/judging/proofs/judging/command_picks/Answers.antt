use Rattle.desk_types.proofs.Common.{err_from_is_err_and}
use Rattle.judging.proofs.judging.command_picks.Goals as goal

pub returns-in_err-check_command-in_default : goal.returns-in_err-check_command-in_default
returns-in_err-check_command-in_default g c = λ H stands.
    let told = err_from_is_err_and c.from_residual.result c.from_residual.ensures.1 in
    rw (told.1, told.2) (c.in_err-check_command-in_default.ensures c.args.rules H stands)
