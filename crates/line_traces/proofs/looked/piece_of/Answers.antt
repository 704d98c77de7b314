use Rattle.desk_types.proofs.Common.{◌∙◌, ◌≡◌, ap, ap₂, basis, rules, Some, subst, sym}
use Rattle.desk_laws.proofs.Common.{Two}
use Rattle.line_tables.proofs.Common.{Has, rows_in}
use Rattle.line_traces.{proofs.LookedRows.piece_with, proofs.LookedRows.row-tells, specs.Pieces.piece_at}
use Rattle.state_rows.specs.Lists.{Key, key_of, minute_of}
use Rattle.line_tables.specs.Line as line
use Rattle.line_traces.proofs.looked.piece_of.Goals as goal

pub returns : goal.returns
returns g c db H both here =
    let row = c.in_ok-placed.placed in
    let reel = c.in-Some.reel in
    let effective = c.in-Some-minute.effective in
    let number : row.number ≡ c.args.key.number = search rules in
    let place : row.place ≡ c.args.key.place = search rules in
    let its : (row.number, row.place) ≡ key_of c.args.key = ap₂ (λ m n. (m, n)) number place in
    subst (λ (key : Key). piece_at H key ≡ Some (piece_with row reel effective)) its (
    row-tells db H both.held row (subst (Has (rows_in line.placement db)) c.in_ok-placed.ensures.ok here) reel (c.in-Some.ensures (basis Two H) both.working.stands) effective
    (c.in-Some-minute.ensures.listed H both.working.listed ∙ ap (minute_of H) (sym number)))
