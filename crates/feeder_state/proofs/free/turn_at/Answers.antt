use Rattle.desk_types.proofs.Common.{◌∙◌, ap, option_map, sym}
use Rattle.feeder_state.proofs.{FloorTells.absent-view, FloorTells.told-now, RowReels.mounts-row}
use Rattle.feeder_state.proofs.RowReels.{row-at}
use Rattle.judging.{proofs.FreeReels.untold-free, specs.Turns.turn_of}
use Rattle.std.specs.Option.{option_copied}
use Rattle.feeder_state.proofs.free.turn_at.Goals as goal

pub returns-in_err-row : goal.returns-in_err-row
returns-in_err-row c = λ H told are.
    let name = c.args.name.now in
    let none = row-at H c.args.rows.now told.are name _ (sym (ap option_copied c.in_err-row.was) ∙ c.reel.ensures) in
    c.from_residual.ensures ∙ ap (option_map (turn_of H)) (sym (untold-free H c.args.part.now name told.are.judged (absent-view H name none)))

pub returns : goal.returns
returns c = λ H told are.
    let rows = c.args.rows.now in
    let name = c.args.name.now in
    c.turn_of.ensures H (row-at H rows told.are name _ (sym (ap option_copied c.in_ok-row.was) ∙ c.reel.ensures)) (c.is_mounted.ensures ∙ mounts-row H rows told.are name)
    (told-now H c.args.minute rows told) are
