-- Lists and rows of a sheet that compare equal by `==` are equal.
use Rattle.desk_types.proofs.Common.{[], ◌&&◌, ◌∙◌, ◌∷◌, ◌≡◌, and_parts, ap, Bool, List, pointwise, refl}
use Rattle.desk_types.proofs.Common.{same, same-true, true}
use Rattle.desk_types.specs.contracts.sheet.SheetRowPartialEq.TheImpl.{ghosts as sheet_row}
use Rattle.desk_types.specs.declared.sheet.SheetRow.{SheetRow}

pub lists-same : {X : Type 0} (eq : X → X → Bool) → ((a b : X) → eq a b ≡ true → a ≡ b) → (xs ys : List X) → pointwise eq xs ys ≡ true → xs ≡ ys
lists-same eq told [] [] e = refl
lists-same eq told [] (y ∷ ys) e = cc
lists-same eq told (x ∷ xs) [] e = cc
lists-same eq told (x ∷ xs) (y ∷ ys) e =
    let t = and_parts (eq x y) (pointwise eq xs ys) e in
    let first : x ≡ y = told x y t.0 in
    let rest : xs ≡ ys = lists-same eq told xs ys t.1 in
    cc

pub sheet_rows-same : (a b : SheetRow) → sheet_row.eq a b ≡ true → a ≡ b
sheet_rows-same a b e =
    let t = and_parts (same a.slot b.slot) (same a.part b.part && pointwise same a.designators b.designators) e in
    let u = and_parts (same a.part b.part) (pointwise same a.designators b.designators) t.1 in
    ap (λ x. record { slot = x; part = a.part; designators = a.designators }) (same-true a.slot b.slot t.0)
    ∙ ap (λ x. record { slot = b.slot; part = x; designators = a.designators }) (same-true a.part b.part u.0)
    ∙ ap (λ x. record { slot = b.slot; part = b.part; designators = x }) (lists-same same same-true a.designators b.designators u.1)
