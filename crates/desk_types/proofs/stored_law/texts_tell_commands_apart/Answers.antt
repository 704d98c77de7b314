use Rattle.desk_types.proofs.Tabs.{texts_apart}
use Rattle.desk_types.proofs.stored_law.texts_tell_commands_apart.Goals as goal

pub returns : goal.returns
returns c = texts_apart
