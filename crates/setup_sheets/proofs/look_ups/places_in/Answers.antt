use Rattle.desk_types.proofs.Common.{◌+◌, ◌-◌, ◌∙◌, ◌≡◌, ap, arith, cond, get_or, name-written}
use Rattle.desk_types.proofs.Common.{option_and_then, option_or, row_in, same, sym, take}
use Rattle.desk_laws.proofs.Common.{SheetRow}
use Rattle.setup_sheets.{proofs.SheetLookUps.row-placed, specs.LookUps.row_at}
use Rattle.std.specs.List.{slice_get}
use Rattle.setup_sheets.proofs.look_ups.places_in.Goals as goal

pub loop-i-preserved : goal.loop-i-preserved
loop-i-preserved c = λ s.
    let rows = c.args.rows.now in
    let n = c.loop-i.i in
    let row = c.index-rows-i.result in
    let up : (n - 1) + 1 ≡ n = omega (arith, c.loop-i-test.true) in
    let old = row_at rows c.loop-i.places s in
    row-placed rows (n - 1) row s (row_at rows c.insert.new.self s) old (omega (arith, c.loop-i-test.true, c.loop-i.auto.i)) c.index-rows-i.is
    (name-written _ _ (get_or rows (n - 1) row).slot _ (option_and_then (slice_get rows)) c.in_ok-insert.ensures.updates.0 s
    ∙ ap (λ (r : SheetRow). cond (same r.slot s) (slice_get rows (n - 1)) old) (sym c.index-rows-i.is))
    ∙ ap (λ k. option_or (row_in (take k rows) s) old) up
    ∙ c.loop-i.invariant s
