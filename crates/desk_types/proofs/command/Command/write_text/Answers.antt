use Rattle.desk_types.proofs.Common.{◌∙◌, sym}
use Rattle.desk_types.proofs.Tabs.{stored_text-fields_text}
use Rattle.desk_types.proofs.command.Command.write_text.Goals as goal

pub returns : goal.returns
returns c = c.new.ensures ∙ c.in_ok-fields_text.ensures ∙ sym (stored_text-fields_text c.args.self.now)
