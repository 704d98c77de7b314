use Rattle.desk_types.proofs.Common.{◌∙◌, ap, List, ok_or, Option, ℕ}
use Rattle.cfx_profile.{proofs.Names.id_of-read, specs.Forms.id_of}
use Rattle.desk_feed.proofs.options.id_in.Goals as goal

pub returns : goal.returns
returns c =
    let read = id_of-read _ _ c.read.ensures ∙ ap id_of c.as_bytes.ensures.value in
    c.ok_or.ensures.value ∙ ap (λ (o : Option (List ℕ)). ok_or o c.args.option) read
