use Rattle.desk_types.proofs.Common.{◌∙◌, ap}
use Rattle.cfx_profile.{proofs.Names.designator_of-read, specs.Forms.designator_of}
use Rattle.imports.proofs.fields.designator_of.Goals as goal

pub returns : goal.returns
returns c = designator_of-read _ _ c.read.ensures ∙ ap designator_of c.as_bytes.ensures.value
