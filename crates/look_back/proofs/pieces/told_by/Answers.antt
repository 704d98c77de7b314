use Rattle.desk_types.proofs.Common.{◌∙◌, ap, option_map, pieces_by, same, sym}
use Rattle.desk_laws.proofs.Common.{CountRow}
use Rattle.std.specs.List.{find}
use Rattle.look_back.proofs.pieces.told_by.Goals as goal

pub returns-in-CountsTaken-clause-value : goal.returns-in-CountsTaken-clause-value
returns-in-CountsTaken-clause-value c =
    c.count_in.ensures.value
    ∙ ap (λ rows. option_map (λ (row : CountRow). row.quantity) (find (λ row. same row.reel c.args.reel.now) rows)) c.as_slice.ensures.value
    ∙ sym (ap (pieces_by c.args.reel.now) c.in-CountsTaken.is)
