use Rattle.desk_types.proofs.Common.{◌&&◌, ◌∙◌, ◌≡◌, ap, pointwise, same, same-refl, sym, true}
use Rattle.desk_laws.proofs.Common.{SheetRow}
use Rattle.chain_check.proofs.EqualLists.{lists-refl}
use Rattle.desk_types.proofs.Sameness.{lists-same, sheet_rows-same as row-same}
use Rattle.desk_types.specs.contracts.sheet.SheetRowPartialEq.TheImpl.{ghosts as sheet_row}
use Rattle.std.proofs.lemmas.Bool.{and_from as either-way}
use Rattle.chain_check.proofs.sheets.same_rows.Goals as goal

row-refl : (a : SheetRow) → sheet_row.eq a a ≡ true
row-refl a =
    either-way (same a.slot a.slot) (same a.part a.part && pointwise same a.designators a.designators) (same-refl a.slot)
    (either-way (same a.part a.part) (pointwise same a.designators a.designators) (same-refl a.part) (lists-refl same same-refl a.designators))

pub returns : goal.returns
returns c = (
  λ is. lists-same (λ x y. sheet_row.eq x y) row-same c.args.old.now c.args.new.now (sym c.eq.ensures ∙ is),
  λ is. c.eq.ensures ∙ ap (pointwise (λ x y. sheet_row.eq x y) c.args.old.now) (sym is) ∙ lists-refl (λ x y. sheet_row.eq x y) row-refl c.args.old.now,
)
