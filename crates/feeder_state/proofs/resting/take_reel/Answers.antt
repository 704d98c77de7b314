use Rattle.desk_types.proofs.Common.{◌∙◌, ap, cond, false, option_copied, same, sym}
use Rattle.feeder_state.proofs.AtRest.{own-only, own-part, without-row}
use Rattle.feeder_state.specs.Resting.{part_at, rests_at}
use Rattle.feeder_state.proofs.resting.take_reel.Goals as goal

pub returns-in-Some : goal.returns-in-Some
returns-in-Some c = λ r has.
    let rows = c.args.rows.now in
    let reel = c.args.reel.now in
    let row = c.in-Some.row.now in
    c.take_name.ensures (part_at rows r) r
    ∙ ap (λ b. cond b false (rests_at rows c.args.resting.now r))
    (own-only (same row.part (part_at rows r)) (same reel r) (own-part rows reel r row (sym (ap option_copied c.in-Some.is) ∙ c.reel.ensures)))

pub returns-in_default : goal.returns-in_default
returns-in_default c = λ r has.
    let rows = c.args.rows.now in
    ap (λ b. cond b false (rests_at rows c.args.resting.now r)) (sym (without-row rows c.args.reel.now r (sym (ap option_copied c.in_default.is) ∙ c.reel.ensures) has))
