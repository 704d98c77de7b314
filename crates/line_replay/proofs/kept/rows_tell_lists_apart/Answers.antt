use Rattle.desk_types.proofs.Tabs.{texts_apart}
use Rattle.line_replay.proofs.RowsTellLists.{rows_tell}
use Rattle.line_replay.proofs.kept.rows_tell_lists_apart.Goals as goal

pub returns : goal.returns
returns c rules G H g h same = rows_tell rules texts_apart G H g h same
