-- Edits that are pushed one after the other.
use Rattle.desk_types.proofs.Common.{[], ◌++◌, ◌+◌, ◌<◌, ◌∙◌, ◌∷◌, ◌≡◌, ap, append-nil, append_assoc, arith}
use Rattle.desk_types.proofs.Common.{cons_option, filter_map, filter_map-append, flat_map, flat_map-append}
use Rattle.desk_types.proofs.Common.{get_or, History, length, length-take-le, List, map, map-append, Name}
use Rattle.desk_types.proofs.Common.{None, Option, option_to_list, refl, Some, sym, take, take-next, ℕ}
use Rattle.desk_laws.proofs.Common.{CountRow, SheetRow}
use Rattle.desk_types.specs.declared.edit.RowEdit.{RowEdit}
use Rattle.desk_types.specs.declared.edit.RowEdit.TheVariants.{PutSheetRow, TakeMount, TakeSheetRow}
use Rattle.desk_types.specs.declared.view.Mount.{Mount}
use Rattle.state_rows.specs.EditsOf.{count_edits, put_rows, reel_on_slot, taken_rows}

taken-append : (product machine : Name) (n : ℕ) (xs : List SheetRow) (x : SheetRow) → taken_rows product machine n (xs ++ x ∷ []) ≡ taken_rows product machine n xs ++ TakeSheetRow product machine (n + length xs) ∷ []
taken-append product machine n [] x = ap (λ k. TakeSheetRow product machine k ∷ []) (let is : n ≡ n + 0 = omega arith in is)
taken-append product machine n (y ∷ ys) x =
    ap (λ l. TakeSheetRow product machine n ∷ l) (taken-append product machine (n + 1) ys x ∙ ap (λ k. taken_rows product machine (n + 1) ys ++ TakeSheetRow product machine k ∷ []) (let is : n + 1 + length ys ≡ n + length (y ∷ ys) = omega arith in is))

put-append : (product machine : Name) (n : ℕ) (xs : List SheetRow) (x : SheetRow) → put_rows product machine n (xs ++ x ∷ []) ≡ put_rows product machine n xs ++ PutSheetRow product machine (n + length xs) x ∷ []
put-append product machine n [] x = ap (λ k. PutSheetRow product machine k x ∷ []) (let is : n ≡ n + 0 = omega arith in is)
put-append product machine n (y ∷ ys) x =
    ap (λ l. PutSheetRow product machine n y ∷ l) (put-append product machine (n + 1) ys x ∙ ap (λ k. put_rows product machine (n + 1) ys ++ PutSheetRow product machine k x ∷ []) (let is : n + 1 + length ys ≡ n + length (y ∷ ys) = omega arith in is))

pub taken-next : (product machine : Name) (rows : List SheetRow) (i : ℕ) (row : SheetRow) (before edits : List RowEdit) → i < length rows → row ≡ get_or rows i row
    → edits ≡ before ++ taken_rows product machine 1 (take i rows) → edits ++ TakeSheetRow product machine (i + 1) ∷ [] ≡ before ++ taken_rows product machine 1 (take (i + 1) rows)
taken-next product machine rows i row before edits inside is so_far =
    ap (λ l. l ++ TakeSheetRow product machine (i + 1) ∷ []) so_far
    ∙ append_assoc before (taken_rows product machine 1 (take i rows)) (TakeSheetRow product machine (i + 1) ∷ [])
    ∙ ap (λ l. before ++ l) (
    ap (λ k. taken_rows product machine 1 (take i rows) ++ TakeSheetRow product machine k ∷ []) (let len = length-take-le i rows (omega (arith, inside)) in let at : i + 1 ≡ 1 + length (take i rows) = omega (arith, len) in at)
    ∙ sym (taken-append product machine 1 (take i rows) row)
    ∙ ap (taken_rows product machine 1) (sym (take-next rows i row inside is)))

pub put-next : (product machine : Name) (rows : List SheetRow) (i : ℕ) (row : SheetRow) (before edits : List RowEdit) → i < length rows → row ≡ get_or rows i row
    → edits ≡ before ++ put_rows product machine 1 (take i rows) → edits ++ PutSheetRow product machine (i + 1) row ∷ [] ≡ before ++ put_rows product machine 1 (take (i + 1) rows)
put-next product machine rows i row before edits inside is so_far =
    ap (λ l. l ++ PutSheetRow product machine (i + 1) row ∷ []) so_far
    ∙ append_assoc before (put_rows product machine 1 (take i rows)) (PutSheetRow product machine (i + 1) row ∷ [])
    ∙ ap (λ l. before ++ l) (
    ap (λ k. put_rows product machine 1 (take i rows) ++ PutSheetRow product machine k row ∷ []) (let len = length-take-le i rows (omega (arith, inside)) in let at : i + 1 ≡ 1 + length (take i rows) = omega (arith, len) in at)
    ∙ sym (put-append product machine 1 (take i rows) row)
    ∙ ap (put_rows product machine 1) (sym (take-next rows i row inside is)))

pub mount-next : (slot : Name) (mounts : List Mount) (i : ℕ) (mount : Mount) (before edits : List RowEdit) → i < length mounts → mount ≡ get_or mounts i mount
    → edits ≡ before ++ map (λ r. TakeMount r) (filter_map (reel_on_slot slot) (take i mounts))
    → edits ++ map (λ r. TakeMount r) (option_to_list (reel_on_slot slot mount)) ≡ before ++ map (λ r. TakeMount r) (filter_map (reel_on_slot slot) (take (i + 1) mounts))
mount-next slot mounts i mount before edits inside is so_far =
    ap (λ l. l ++ map (λ r. TakeMount r) (option_to_list (reel_on_slot slot mount))) so_far
    ∙ append_assoc before (map (λ r. TakeMount r) (filter_map (reel_on_slot slot) (take i mounts))) _
    ∙ ap (λ l. before ++ l) (
    sym (map-append (λ r. TakeMount r) (filter_map (reel_on_slot slot) (take i mounts)) (option_to_list (reel_on_slot slot mount)))
    ∙ ap (map (λ r. TakeMount r)) (
    ap (λ l. filter_map (reel_on_slot slot) (take i mounts) ++ l) (one (reel_on_slot slot mount))
    ∙ sym (filter_map-append (reel_on_slot slot) (take i mounts) (mount ∷ []))
    ∙ ap (filter_map (reel_on_slot slot)) (sym (take-next mounts i mount inside is))))
  where
    one : (o : Option Name) → option_to_list o ≡ cons_option o []
    one None = refl
    one (Some x) = refl

pub count-next : (H : History) (rows : List CountRow) (i : ℕ) (row : CountRow) (edits : List RowEdit) → i < length rows → row ≡ get_or rows i row
    → edits ≡ flat_map (count_edits H) (take i rows) → edits ++ count_edits H row ≡ flat_map (count_edits H) (take (i + 1) rows)
count-next H rows i row edits inside is so_far =
    ap (λ l. l ++ count_edits H row) so_far
    ∙ ap (λ l. flat_map (count_edits H) (take i rows) ++ l) (sym (append-nil (count_edits H row)))
    ∙ sym (flat_map-append (count_edits H) (take i rows) (row ∷ []))
    ∙ ap (flat_map (count_edits H)) (sym (take-next rows i row inside is))
