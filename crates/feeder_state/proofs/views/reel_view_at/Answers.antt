use Rattle.desk_types.proofs.Common.{◌∙◌, ap, Some, sym}
use Rattle.desk_laws.proofs.RowsOfReels.{row-view}
use Rattle.desk_types.specs.Tables.{view_with}
use Rattle.feeder_state.proofs.{FloorTells.absent-view, FloorTells.told-now, RowReels.found-row}
use Rattle.feeder_state.proofs.RowReels.{mounts-row, row-at}
use Rattle.std.specs.Option.{option_copied}
use Rattle.feeder_state.proofs.views.reel_view_at.Goals as goal

pub returns-in_err-row : goal.returns-in_err-row
returns-in_err-row c = λ H told.
    let none = row-at H c.args.rows.now told.are c.args.name.now _ (sym (ap option_copied c.in_err-row.was) ∙ c.reel.ensures) in
    c.from_residual.ensures ∙ sym (absent-view H c.args.name.now none)

pub returns : goal.returns
returns c = λ H told.
    let rows = c.args.rows.now in
    let name = c.args.name.now in
    let row = c.in_ok-row.row.now in
    let of = row-at H rows told.are name _ (sym (ap option_copied c.in_ok-row.was) ∙ c.reel.ensures) in
    ap Some (
    c.of_row.ensures
    ∙ (λ j. view_with row ((c.found_on.ensures ∙ found-row H rows told.are name) j) ((c.life_left-left.ensures H name of (told-now H c.args.minute rows told)) j)
    ((c.is_mounted.ensures ∙ mounts-row H rows told.are name) j)))
    ∙ sym (row-view H name row of)
