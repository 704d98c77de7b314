use Rattle.desk_types.proofs.Common.{◌∙◌, ap, by_pair, is_at, is_at-by_pair, list_any, list_any-same, Name}
use Rattle.desk_types.proofs.Common.{same_pair}
use Rattle.setup_sheets.proofs.alternates.Alternates.has.Goals as goal

pub returns : goal.returns
returns c =
    let pair : Name × Name = (c.args.part.now, c.args.alternate.now) in
    c.contains.ensures
    ∙ list_any-same (is_at (by_pair pair)) (same_pair pair) (is_at-by_pair pair) c.self.inside.pairs.keys
    ∙ ap (list_any (same_pair pair)) c.self.view_is
