use Rattle.desk_types.proofs.Common.{◌+◌, ◌∙◌, ◌∷◌, ◌≡◌, ap, arith, drop, drop-next, length, length-map, List}
use Rattle.desk_types.proofs.Common.{Name, Some, sym, ℕ}
use Rattle.desk_laws.proofs.Common.{Refusal, SheetRow}
use Rattle.desk_types.specs.declared.front.Front.{Front}
use Rattle.setup_sheets.specs.Verification.{first_fault, front_fault}
use Rattle.setup_sheets.proofs.verification.first_faulty.Goals as goal

first_fault-first : (alternates : List (Name × Name)) (minute : ℕ) (row : SheetRow) (front : Front) (rows : List SheetRow) (fronts : List Front) (refusal : Refusal)
    → front_fault alternates minute row front.reel ≡ Some refusal → first_fault alternates minute (row ∷ rows) (front ∷ fronts) ≡ Some (row.slot, refusal)
first_fault-first alternates minute row front rows fronts refusal is = rw is

pub returns-in-Some : goal.returns-in-Some
returns-in-Some c =
    let rows = c.args.rows.now in
    let fronts = c.args.fronts.now in
    let i = c.loop-i.i in
    let row = c.index-rows-i.result in
    let front = c.index-fronts-i.result in
    let both : length fronts ≡ length rows = sym (length-map fronts (λ (f : Front). f.slot)) ∙ ap length c.requires ∙ length-map rows (λ (r : SheetRow). r.slot) in
    let next_rows = drop-next rows i row (omega arith) c.index-rows-i.is in
    let next_fronts = drop-next fronts i front (omega arith) c.index-fronts-i.is in
    let here = first_fault-first c.args.alternates.now c.args.at row front (drop (i + 1) rows) (drop (i + 1) fronts) c.in-Some.refusal (sym c.front_fault.ensures ∙ c.in-Some.is) in
    sym (c.loop-i.invariant ∙ rw (next_rows, next_fronts) here)
