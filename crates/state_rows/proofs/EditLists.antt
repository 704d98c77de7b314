-- What lists of edits make of tables.
use Rattle.desk_types.proofs.Common.{[], ◌&&◌, ◌++◌, ◌+◌, ◌<◌, ◌==◌, ◌||◌, ◌∙◌, ◌∷◌, ◌≡◌, ap, arith, at_place}
use Rattle.desk_types.proofs.Common.{Bool, eqb-true, false, get_or, if◌then◌else◌, is_some, length, List, map}
use Rattle.desk_types.proofs.Common.{Name, None, Option, option_map, option_or, refl, same, Some, sym, Tables}
use Rattle.desk_types.proofs.Common.{take, take-next, true, with_edit, with_edits, ℕ}
use Rattle.desk_laws.proofs.Common.{SheetRow}
use Rattle.desk_laws.proofs.Mounts.{has}
use Rattle.desk_types.specs.{declared.edit.RowEdit.RowEdit, declared.edit.RowEdit.TheVariants.PutMount}
use Rattle.desk_types.specs.{declared.edit.RowEdit.TheVariants.TakeMount, declared.row.MountRow.MountRow}
use Rattle.state_rows.proofs.PlacementRows.{at_place-before}
use Rattle.state_rows.specs.{EditsOf.put_rows, EditsOf.taken_rows, Kept.unnumbered, Kept.without_number}

pub same-tables : (a b : Tables) → ((p : Name) → a.parts p ≡ b.parts p) → ((p q : Name) → a.alternates p q ≡ b.alternates p q)
    → ((p m : Name) (k : ℕ) → a.sheets p m k ≡ b.sheets p m k) → ((m : Name) → a.selected m ≡ b.selected m) → ((r : Name) → a.reels r ≡ b.reels r)
    → ((r : Name) → a.mounts r ≡ b.mounts r) → ((b' : Name) → a.boards b' ≡ b.boards b') → ((n k : ℕ) → a.placements n k ≡ b.placements n k) → ((r : Name) → a.found r ≡ b.found r) → a ≡ b
same-tables a b parts alternates sheets selected reels mounts boards placements found = λ j. record {
  parts = λ p. parts p j;
  alternates = λ p q. alternates p q j;
  sheets = λ p m k. sheets p m k j;
  selected = λ m. selected m j;
  reels = λ r. reels r j;
  mounts = λ r. mounts r j;
  boards = λ b'. boards b' j;
  placements = λ n k. placements n k j;
  found = λ r. found r j;
}

pub with_edits-append : (xs ys : List RowEdit) (t : Tables) → with_edits (xs ++ ys) t ≡ with_edits ys (with_edits xs t)
with_edits-append [] ys t = refl
with_edits-append (x ∷ xs) ys t = with_edits-append xs ys (with_edit x t)

-- ---- tables without numbers

twice : (row : Option MountRow) → option_map without_number row ≡ option_map without_number (option_map without_number row)
twice None = refl
twice (Some row) = refl

edit-unnumbered : (x : RowEdit) (t : Tables) → unnumbered (with_edit x t) ≡ unnumbered (with_edit x (unnumbered t))
edit-unnumbered (TakeMount reel) t = ap (λ (f : Name → Option MountRow). record (unnumbered t) { mounts = f }) (λ j r. by (same reel r) (t.mounts r) j)
  where
    by : (b : Bool) (o : Option MountRow) → option_map without_number (if b then None else o) ≡ option_map without_number (if b then None else option_map without_number o)
    by true o = refl
    by false o = twice o
edit-unnumbered (PutMount row) t = ap (λ (f : Name → Option MountRow). record (unnumbered t) { mounts = f }) (λ j r. by (same row.reel r) (t.mounts r) j)
  where
    by : (b : Bool) (o : Option MountRow) → option_map without_number (if b then Some row else o) ≡ option_map without_number (if b then Some row else option_map without_number o)
    by true o = refl
    by false o = twice o
edit-unnumbered x t = ap (λ (f : Name → Option MountRow). record (unnumbered (with_edit x t)) { mounts = f }) (λ j r. twice (t.mounts r) j)

pub edits-unnumbered : (xs : List RowEdit) (s t : Tables) → unnumbered s ≡ unnumbered t → unnumbered (with_edits xs s) ≡ unnumbered (with_edits xs t)
edits-unnumbered [] s t is = is
edits-unnumbered (x ∷ xs) s t is =
    edits-unnumbered xs (with_edit x s) (with_edit x t) (edit-unnumbered x s ∙ ap (λ u. unnumbered (with_edit x u)) is ∙ sym (edit-unnumbered x t))

-- ---- slots

abbrev without_mounts : List Name → Tables → Tables
without_mounts reels t = record t { mounts = λ r. if has reels r then None else t.mounts r }

pub mounts-taken : (reels : List Name) (t : Tables) → ((a b : Name) → same a b ≡ same b a) → with_edits (map (λ reel. TakeMount reel) reels) t ≡ without_mounts reels t
mounts-taken [] t flip = refl
mounts-taken (x ∷ xs) t flip =
    mounts-taken xs (with_edit (TakeMount x) t) flip
    ∙ ap (λ (f : Name → Option MountRow). record t { mounts = f }) (λ j r. both r j)
  where
    or-if : (a b : Bool) (o : Option MountRow) → (if b then None else (if a then None else o)) ≡ (if (a || b) then None else o)
    or-if true true o = refl
    or-if true false o = refl
    or-if false b o = refl

    both : (r : Name) → (if has xs r then None else (if same x r then None else t.mounts r)) ≡ (if (same r x || has xs r) then None else t.mounts r)
    both r = or-if (same x r) (has xs r) (t.mounts r) ∙ ap (λ b. if (b || has xs r) then None else t.mounts r) (flip x r)

-- ---- sheets

module _ (product machine : Name) where
  abbrev is_sheet : Name → Name → Bool
  is_sheet p m = same product p && same machine m

  pub rows-put : (rows : List SheetRow) (n : ℕ) (t : Tables)
      → with_edits (put_rows product machine n rows) t ≡ record t { sheets = λ p m k. if is_sheet p m then option_or (at_place n rows k) (t.sheets p m k) else t.sheets p m k }
  rows-put [] n t = ap (λ (f : Name → Name → ℕ → Option SheetRow). record t { sheets = f }) (λ j p m k. none (is_sheet p m) (t.sheets p m k) j)
    where
      none : (b : Bool) (o : Option SheetRow) → o ≡ (if b then o else o)
      none true o = refl
      none false o = refl
  rows-put (row ∷ rows) n t =
      rows-put rows (n + 1) _
      ∙ ap (λ (f : Name → Name → ℕ → Option SheetRow). record t { sheets = f }) (λ j p m k. one (is_sheet p m) (n == k) (at_place (n + 1) rows k) (t.sheets p m k) (past k) j)
    where
      past : (k : ℕ) → (n == k) ≡ true → at_place (n + 1) rows k ≡ None
      past k here = at_place-before rows (n + 1) k (let is = eqb-true n k here in omega (arith, is))

      one : (b c : Bool) (rest o : Option SheetRow) → (c ≡ true → rest ≡ None)
          → (if b then option_or rest (if (b && c) then Some row else o) else (if (b && c) then Some row else o)) ≡ (if b then option_or (if c then Some row else rest) o else o)
      one true true rest o none = ap (λ r. option_or r (Some row)) (none refl)
      one true false rest o none = refl
      one false c rest o none = refl

  pub rows-taken : (rows : List SheetRow) (n : ℕ) (t : Tables)
      → with_edits (taken_rows product machine n rows) t ≡ record t { sheets = λ p m k. if (is_sheet p m && is_some (at_place n rows k)) then None else t.sheets p m k }
  rows-taken [] n t = ap (λ (f : Name → Name → ℕ → Option SheetRow). record t { sheets = f }) (λ j p m k. none (is_sheet p m) (t.sheets p m k) j)
    where
      none : (b : Bool) (o : Option SheetRow) → o ≡ (if (b && false) then None else o)
      none true o = refl
      none false o = refl
  rows-taken (row ∷ rows) n t =
      rows-taken rows (n + 1) _
      ∙ ap (λ (f : Name → Name → ℕ → Option SheetRow). record t { sheets = f }) (λ j p m k. one (is_sheet p m) (n == k) (at_place (n + 1) rows k) (t.sheets p m k) j)
    where
      one : (b c : Bool) (rest o : Option SheetRow)
          → (if (b && is_some rest) then None else (if (b && c) then None else o)) ≡ (if (b && is_some (if c then Some row else rest)) then None else o)
      one true true None o = refl
      one true true (Some r) o = refl
      one true false rest o = refl
      one false c rest o = refl

pub edits-next : (edits : List RowEdit) (i : ℕ) (edit : RowEdit) (t : Tables) → i < length edits → edit ≡ get_or edits i edit
    → with_edits (take (i + 1) edits) t ≡ with_edit edit (with_edits (take i edits) t)
edits-next edits i edit t inside is = ap (λ xs. with_edits xs t) (take-next edits i edit inside is) ∙ with_edits-append (take i edits) (edit ∷ []) t
