use Rattle.desk_types.proofs.Common.{◌∙◌, ◌≡◌, ap, by_name, cond, get, name-written, None, option_or}
use Rattle.desk_types.proofs.Common.{reel_row, rules, same, Some, sym}
use Rattle.state_rows.{proofs.RowsLess.noted, specs.EditsOf.pick_of}
use Rattle.state_rows.proofs.takes.note.Goals as goal

pub returns-in-Some : goal.returns-in-Some
returns-in-Some g c = λ B stands r.
    let reel = c.args.take.now.reel in
    let h = c.get_mut.follows.holds c.lessen.new.row in
    name-written (get by_name c.args.rows.now) _ reel (Some c.lessen.new.row) (λ o. o) ((h.3 (search rules)).0) r
    ∙ noted (get by_name c.args.rows.now) (reel_row B.history) reel (pick_of c.args.take.now) c.in-Some.row.now c.lessen.new.row
    (ap (λ o. option_or o (reel_row B.history reel)) (sym c.in-Some.ensures.value)) c.lessen.ensures r

pub returns-in-Some-reel_row : goal.returns-in-Some-reel_row
returns-in-Some-reel_row g c = λ B stands r.
    let reel = c.args.take.now.reel in
    let none : get by_name c.args.rows.now reel ≡ None = search rules in
    let same_map = c.get_mut.follows.holds-at-none in
    let row = c.lessen-in-Some-reel_row.new.row in
    name-written _ (get by_name c.insert.new.self) reel (Some row) (λ o. o) c.in_ok-insert.ensures.updates.0 r
    ∙ ap (λ m. cond (same reel r) (Some row) (get by_name m r)) same_map
    ∙ noted (get by_name c.args.rows.now) (reel_row B.history) reel (pick_of c.args.take.now) c.in-Some-reel_row.row row
    (ap (λ o. option_or o (reel_row B.history reel)) none ∙ sym (c.reel_row.ensures B stands) ∙ c.in-Some-reel_row.is) c.lessen-in-Some-reel_row.ensures r
