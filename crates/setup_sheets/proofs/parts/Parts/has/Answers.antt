use Rattle.desk_types.proofs.Common.{◌∙◌, ap, by_name, is_at, is_at-by_name, list_any, list_any-same, same}
use Rattle.setup_sheets.proofs.parts.Parts.has.Goals as goal

pub returns : goal.returns
returns c =
    let part = c.args.part.now in
    c.contains.ensures
    ∙ list_any-same (is_at (by_name part)) (same part) (is_at-by_name part) c.self.inside.names.keys
    ∙ ap (list_any (same part)) c.self.view_is
