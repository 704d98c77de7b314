use Rattle.desk_types.proofs.Common.{◌∙◌}
use Rattle.line_book.proofs.kind.Kind.read.Goals as goal

pub returns : goal.returns
returns c = c.copied.ensures ∙ c.first_named.ensures
