use Rattle.desk_types.proofs.Common.{◌∙◌}
use Rattle.desk_types.proofs.Words.{word_in-read, word_in-refused}
use Rattle.desk_types.proofs.stored_word.Word.read.Goals as goal

pub returns-clause-read : goal.returns-clause-read
returns-clause-read c = word_in-read c.args.text.now c.copied.result (c.copied.ensures ∙ c.first_named.ensures)

pub returns-clause-refused : goal.returns-clause-refused
returns-clause-refused c = word_in-refused c.args.text.now c.copied.result (c.copied.ensures ∙ c.first_named.ensures)
