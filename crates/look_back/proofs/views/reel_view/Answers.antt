use Rattle.desk_types.proofs.Common.{◌-◌, ◌∙◌, ◌≡◌, ap, arith, option_map, received_of, reverse, Some, sym}
use Rattle.desk_types.proofs.Common.{unwrap_or, view_of}
use Rattle.desk_laws.proofs.Common.{ReelRow}
use Rattle.desk_laws.proofs.RowsOfReels.{row-none, row-told, row-view}
use Rattle.desk_types.specs.Tables.{view_with}
use Rattle.judging.proofs.EmptyHistory.{no-reel}
use Rattle.look_back.proofs.ReelViews.{found-is}
use Rattle.look_back.proofs.views.reel_view.Goals as goal

pub returns-in_err-minute : goal.returns-in_err-minute
returns-in_err-minute c = c.from_residual.ensures ∙ sym (no-reel (reverse c.args.entries.now) c.args.name.now (sym c.desk_minute.ensures ∙ c.in_err-minute.was))

pub returns-in_err-row : goal.returns-in_err-row
returns-in_err-row c =
    let H = reverse c.args.entries.now in
    let name = c.args.name.now in
    c.from_residual-in_err-row.ensures ∙ sym (ap (option_map (view_of H name)) (row-none H name (sym c.reel_row.ensures ∙ c.in_err-row.was)))

pub overflow_sub-found : goal.overflow_sub-found
overflow_sub-found c =
    let H = reverse c.args.entries.now in
    let name = c.args.name.now in
    let row = c.in_ok-row.row in
    let of = row-told H name (Some row) c.requires.judged (sym c.in_ok-row.was ∙ c.reel_row.ensures) in
    let received : row.received ≡ received_of H name = ap (λ (r : ReelRow). r.received) of.row_is in
    let told = (found-is H name c.in_ok-told.told row.received (sym c.receipt.ensures ∙ c.in_ok-told.was) received).0 in
    omega (arith, told, c.get.ensures.value)

pub returns : goal.returns
returns c =
    let H = reverse c.args.entries.now in
    let name = c.args.name.now in
    let row = c.in_ok-row.row in
    let of = row-told H name (Some row) c.requires.judged (sym c.in_ok-row.was ∙ c.reel_row.ensures) in
    let received : row.received ≡ received_of H name = ap (λ (r : ReelRow). r.received) of.row_is in
    let minute = ap (λ m. unwrap_or m 0) (sym c.desk_minute.ensures ∙ c.in_ok-minute.was) in
    let told = (found-is H name c.in_ok-told.told row.received (sym c.receipt.ensures ∙ c.in_ok-told.was) received).1 in
    let found = ap (λ n. row.received - n) c.get.ensures.value ∙ told in
    ap Some (c.of_row.ensures ∙ (λ j. view_with row (found j) (c.life_left.ensures H name of minute j) (c.is_mounted-mounted.ensures j)))
    ∙ sym (row-view H name row of)
