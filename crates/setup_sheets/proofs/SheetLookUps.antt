-- The indexes of a sheet are built from its last row to its first.
use Rattle.desk_types.proofs.Common.{[], ◌++◌, ◌+◌, ◌<◌, ◌||◌, ◌∙◌, ◌∷◌, ◌≡◌, ap, Bool, cond, false, get_or}
use Rattle.desk_types.proofs.Common.{length, List, list_any, list_any-append, Name, None, Option, option_map}
use Rattle.desk_types.proofs.Common.{option_or, refl, row_in, same, same-sym, slot_in, Some, sym, take}
use Rattle.desk_types.proofs.Common.{take-next, true, ℕ}
use Rattle.desk_laws.proofs.Common.{SheetRow}
use Rattle.std.{proofs.lemmas.Option.slice_get_read, specs.List.find, specs.List.slice_get}

-- ---- rows by slot

pub row_in-last : (rows : List SheetRow) (row : SheetRow) (s : Name) (o : Option SheetRow)
    → option_or (row_in rows s) (cond (same row.slot s) (Some row) o) ≡ option_or (row_in (rows ++ row ∷ []) s) o
row_in-last [] row s o = by (same row.slot s)
  where
    by : (b : Bool) → cond b (Some row) o ≡ option_or (cond b (Some row) None) o
    by true = refl
    by false = refl
row_in-last (r ∷ rows) row s o = by (same r.slot s) (row_in-last rows row s o)
  where
    last : Option SheetRow
    last = cond (same row.slot s) (Some row) o

    by : (b : Bool) → option_or (row_in rows s) last ≡ option_or (row_in (rows ++ row ∷ []) s) o
        → option_or (cond b (Some r) (row_in rows s)) last ≡ option_or (cond b (Some r) (row_in (rows ++ row ∷ []) s)) o
    by true is = refl
    by false is = is

pub row-placed : (rows : List SheetRow) (i : ℕ) (row : SheetRow) (s : Name) (found was : Option SheetRow) → i < length rows → row ≡ get_or rows i row
    → found ≡ cond (same row.slot s) (slice_get rows i) was → option_or (row_in (take i rows) s) found ≡ option_or (row_in (take (i + 1) rows) s) was
row-placed rows i row s found was inside is after =
    ap (option_or (row_in (take i rows) s)) (after ∙ ap (λ o. cond (same row.slot s) o was) (slice_get_read rows (length rows) i row refl inside is))
    ∙ row_in-last (take i rows) row s was
    ∙ ap (λ some. option_or (row_in some s) was) (sym (take-next rows i row inside is))

-- ---- slots by designator

put-slot : {X : Type 0} (a b : Bool) (v o : X) → cond b v (cond a v o) ≡ cond (a || (b || false)) v o
put-slot true true v o = refl
put-slot true false v o = refl
put-slot false true v o = refl
put-slot false false v o = refl

pub slot-push : (old : Option Name) (names : List Name) (x d slot : Name) (found was : Option Name) → old ≡ cond (list_any (same d) names) (Some slot) was
    → found ≡ cond (same x d) (Some slot) old → found ≡ cond (list_any (same d) (names ++ x ∷ [])) (Some slot) was
slot-push old names x d slot found was before after =
    after
    ∙ ap (λ b. cond b (Some slot) old) (same-sym x d)
    ∙ ap (λ o. cond (same d x) (Some slot) o) before
    ∙ put-slot (list_any (same d) names) (same d x) (Some slot) was
    ∙ ap (λ b. cond b (Some slot) was) (sym (list_any-append (same d) names (x ∷ [])))

pub slot_in-last : (rows : List SheetRow) (row : SheetRow) (d : Name) (o : Option Name)
    → option_or (slot_in rows d) (cond (list_any (same d) row.designators) (Some row.slot) o) ≡ option_or (slot_in (rows ++ row ∷ []) d) o
slot_in-last [] row d o = by (list_any (same d) row.designators)
  where
    by : (b : Bool) → cond b (Some row.slot) o ≡ option_or (option_map (λ (r : SheetRow). r.slot) (cond b (Some row) None)) o
    by true = refl
    by false = refl
slot_in-last (r ∷ rows) row d o = by (list_any (same d) r.designators) (slot_in-last rows row d o)
  where
    last : Option Name
    last = cond (list_any (same d) row.designators) (Some row.slot) o

    of : Bool → List SheetRow → Option Name → Option Name
    of b rest later = option_or (option_map (λ (x : SheetRow). x.slot) (cond b (Some r) (find (λ x. list_any (same d) x.designators) rest))) later

    by : (b : Bool) → option_or (slot_in rows d) last ≡ option_or (slot_in (rows ++ row ∷ []) d) o → of b rows last ≡ of b (rows ++ row ∷ []) o
    by true is = refl
    by false is = is
