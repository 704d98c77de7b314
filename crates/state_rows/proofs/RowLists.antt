-- Rows that are written into lists by keys, and the tables that the lists are.
use Rattle.desk_types.proofs.Common.{[], ◌&&◌, ◌+◌, ◌<◌, ◌==◌, ◌||◌, ◌∙◌, ◌≡◌, ap, arith, Bool, by_name}
use Rattle.desk_types.proofs.Common.{by_pair, cond, eqb-true, Equal, false, found_of, found_row, get_or}
use Rattle.desk_types.proofs.Common.{Greater, is_at, is_at-by_name, is_at-by_pair, is_eq, IsStrictlySortedBy}
use Rattle.desk_types.proofs.Common.{keys_of, length, Less, List, list_any-same, ltb-true, Name, nat_cmp}
use Rattle.desk_types.proofs.Common.{nat_lt, None, Option, Ordering, placement_row, refl, same, same_pair}
use Rattle.desk_types.proofs.Common.{Some, subst, sym, Tables, take, takes_of, true, with_edit, with_edits, ℕ}
use Rattle.desk_laws.proofs.Common.{BoardRow, ReelRow, SheetRow}
use Rattle.desk_types.proofs.Keys.{is_eq-ordering_then}
use Rattle.desk_types.specs.declared.edit.RowEdit.{RowEdit}
use Rattle.desk_types.specs.declared.edit.RowEdit.TheVariants.{PutAlternate, PutBoard, PutFound, PutMount}
use Rattle.desk_types.specs.declared.edit.RowEdit.TheVariants.{PutPart, PutPlacement, PutReel, PutSelected}
use Rattle.desk_types.specs.declared.edit.RowEdit.TheVariants.{PutSheetRow, TakeMount, TakeSheetRow}
use Rattle.desk_types.specs.declared.row.MountRow.{MountRow}
use Rattle.desk_types.specs.declared.row.PlacementRow.{PlacementRow}
use Rattle.setup_sheets.specs.Alternates.{is_pair_among}
use Rattle.setup_sheets.specs.Names.{is_among}
use Rattle.state_rows.proofs.EditLists.{edits-next}
use Rattle.state_rows.specs.Kept.{but_placements, by_piece, by_sheet_place, by_since, has_key, KeptRows}
use Rattle.state_rows.specs.Kept.{Lists, ListsKeys, row_at, tables_in}

-- ---- keys

is_at-number : (m n : ℕ) → is_eq (nat_cmp m n) ≡ (m == n)
is_at-number m n = by (nat_lt m n) (m == n) refl refl
  where
    by : (l e : Bool) → nat_lt m n ≡ l → (m == n) ≡ e → is_eq (cond l Less (cond e Equal Greater)) ≡ e
    by true true less is = let a = ltb-true m n less in let b = eqb-true m n is in absurd (omega (arith, a, b))
    by true false less is = refl
    by false true less is = refl
    by false false less is = refl

pub is_at-by_sheet_place : (k q : Name × Name × ℕ) → is_at (by_sheet_place k) q ≡ (same k.0 q.0 && same k.1 q.1 && (k.2 == q.2))
is_at-by_sheet_place k q =
    is_eq-ordering_then (by_pair (k.0, k.1) (q.0, q.1)) (nat_cmp k.2 q.2)
    ∙ ap (λ b. b && is_eq (nat_cmp k.2 q.2)) (is_at-by_pair (k.0, k.1) (q.0, q.1))
    ∙ ap (λ b. same_pair (k.0, k.1) (q.0, q.1) && b) (is_at-number k.2 q.2)

pub is_at-by_piece : (k q : ℕ × ℕ) → is_at (by_piece k) q ≡ (k.0 == q.0 && (k.1 == q.1))
is_at-by_piece k q =
    is_eq-ordering_then (nat_cmp k.0 q.0) (nat_cmp k.1 q.1)
    ∙ ap (λ b. b && is_eq (nat_cmp k.1 q.1)) (is_at-number k.0 q.0)
    ∙ ap (λ b. (k.0 == q.0) && b) (is_at-number k.1 q.1)

pub is_at-by_since : (k q : ℕ × Name) → is_at (by_since k) q ≡ (k.0 == q.0 && same k.1 q.1)
is_at-by_since k q =
    is_eq-ordering_then (nat_cmp k.0 q.0) (by_name k.1 q.1)
    ∙ ap (λ b. b && is_eq (by_name k.1 q.1)) (is_at-number k.0 q.0)
    ∙ ap (λ b. (k.0 == q.0) && b) (is_at-by_name k.1 q.1)

-- ---- one row written

module _ {K : Type 0} (cmp : K → K → Ordering) (is : K → K → Bool) (agree : (k q : K) → is_at (cmp k) q ≡ is k q) where
  pub row-written : {X : Type 0} (old new : List (K × X)) (k : K) (w : Option X)
      → ((q : K) → row_at cmp new q ≡ cond (is_at (cmp k) q) w (row_at cmp old q)) → (q : K) → row_at cmp new q ≡ cond (is k q) w (row_at cmp old q)
  row-written old new k w after q = after q ∙ ap (λ b. cond b w (row_at cmp old q)) (agree k q)

pub key-among : (ks : List Name) (p : Name) → has_key by_name ks p ≡ is_among ks p
key-among ks p = list_any-same (is_at (by_name p)) (same p) (is_at-by_name p) ks

pub pair-among : (ks : List (Name × Name)) (p q : Name) → has_key by_pair ks (p, q) ≡ is_pair_among ks p q
pair-among ks p q = list_any-same (is_at (by_pair (p, q))) (same_pair (p, q)) (is_at-by_pair (p, q)) ks

-- ---- lists of tables

pub lists : {K X : Type 0} (cmp : K → K → Ordering) (given kept : List (K × X)) (table : K → Option X) → given ≡ kept → IsStrictlySortedBy cmp (keys_of kept)
    → ((k : K) → row_at cmp kept k ≡ table k) → Lists cmp given table
lists cmp given kept table is up found = subst (λ es. Lists cmp es table) (sym is) (record { ascending = up; rows = found })

pub lists-keys : {K : Type 0} (cmp : K → K → Ordering) (given kept : List K) (table : K → Bool) → given ≡ kept → IsStrictlySortedBy cmp kept
    → ((k : K) → has_key cmp kept k ≡ table k) → ListsKeys cmp given table
lists-keys cmp given kept table is up found = subst (λ ks. ListsKeys cmp ks table) (sym is) (record { ascending = up; rows = found })

-- ---- edits, from the old entries s to the new list

module _ (s now : KeptRows) (is : s ≡ now) where
  -- The map by keys after an edit.
  abbrev Writes : {K X : Type 0} → (K → K → Ordering) → List (K × X) → List (K × X) → K → Option X → Type 0
  Writes {K} cmp old new k w = (q : K) → row_at cmp new q ≡ cond (is_at (cmp k) q) w (row_at cmp old q)

  pub part-put : (new : List Name) (part : Name) → ((p : Name) → is_among new p ≡ (same part p || is_among s.parts p)) → tables_in (record s { parts = new }) ≡ with_edit (PutPart part) (tables_in now)
  part-put new part adds =
      ap (λ (f : Name → Bool). record (tables_in s) { parts = f }) (λ j p. (key-among new p ∙ adds p ∙ ap (λ b. same part p || b) (sym (key-among s.parts p))) j)
      ∙ ap (λ t. with_edit (PutPart part) (tables_in t)) is

  pub alternate-put : (new : List (Name × Name)) (part alternate : Name) → ((p q : Name) → is_pair_among new p q ≡ (same_pair (part, alternate) (p, q) || is_pair_among s.alternates p q))
      → tables_in (record s { alternates = new }) ≡ with_edit (PutAlternate part alternate) (tables_in now)
  alternate-put new part alternate adds =
      ap (λ (f : Name → Name → Bool). record (tables_in s) { alternates = f })
      (λ j p q. (pair-among new p q ∙ adds p q ∙ ap (λ b. same_pair (part, alternate) (p, q) || b) (sym (pair-among s.alternates p q))) j)
      ∙ ap (λ t. with_edit (PutAlternate part alternate) (tables_in t)) is

  sheet-written : (new : List ((Name × Name × ℕ) × SheetRow)) (k : Name × Name × ℕ) (w : Option SheetRow) → Writes by_sheet_place s.sheets new k w
      → tables_in (record s { sheets = new }) ≡ record (tables_in s) { sheets = λ p m n. cond (same k.0 p && same k.1 m && (k.2 == n)) w ((tables_in s).sheets p m n) }
  sheet-written new k w writes =
      ap (λ (f : Name → Name → ℕ → Option SheetRow). record (tables_in s) { sheets = f })
      (λ j p m n. row-written by_sheet_place (λ a b. same a.0 b.0 && same a.1 b.1 && (a.2 == b.2)) is_at-by_sheet_place s.sheets new k w writes (p, m, n) j)

  pub sheet_row-put : (new : List ((Name × Name × ℕ) × SheetRow)) (product machine : Name) (place : ℕ) (row : SheetRow)
      → Writes by_sheet_place s.sheets new (product, machine, place) (Some row)
      → tables_in (record s { sheets = new }) ≡ with_edit (PutSheetRow product machine place row) (tables_in now)
  sheet_row-put new product machine place row writes =
      sheet-written new (product, machine, place) (Some row) writes ∙ ap (λ t. with_edit (PutSheetRow product machine place row) (tables_in t)) is

  pub sheet_row-taken : (new : List ((Name × Name × ℕ) × SheetRow)) (product machine : Name) (place : ℕ)
      → Writes by_sheet_place s.sheets new (product, machine, place) None
      → tables_in (record s { sheets = new }) ≡ with_edit (TakeSheetRow product machine place) (tables_in now)
  sheet_row-taken new product machine place writes =
      sheet-written new (product, machine, place) None writes ∙ ap (λ t. with_edit (TakeSheetRow product machine place) (tables_in t)) is

  pub selected-put : (new : List (Name × Name)) (machine product : Name) → Writes by_name s.selected new machine (Some product)
      → tables_in (record s { selected = new }) ≡ with_edit (PutSelected machine product) (tables_in now)
  selected-put new machine product writes =
      ap (λ (f : Name → Option Name). record (tables_in s) { selected = f }) (λ j m. row-written by_name same is_at-by_name s.selected new machine (Some product) writes m j)
      ∙ ap (λ t. with_edit (PutSelected machine product) (tables_in t)) is

  pub reel-put : (new : List (Name × ReelRow)) (row : ReelRow) → Writes by_name s.reels new row.reel (Some row)
      → tables_in (record s { reels = new }) ≡ with_edit (PutReel row) (tables_in now)
  reel-put new row writes =
      ap (λ (f : Name → Option ReelRow). record (tables_in s) { reels = f }) (λ j r. row-written by_name same is_at-by_name s.reels new row.reel (Some row) writes r j)
      ∙ ap (λ t. with_edit (PutReel row) (tables_in t)) is

  pub mount-put : (new : List (Name × MountRow)) (row : MountRow) → ((r : Name) → row_at by_name new r ≡ cond (same row.reel r) (Some row) (row_at by_name s.mounts r))
      → tables_in (record s { mounts = new }) ≡ with_edit (PutMount row) (tables_in now)
  mount-put new row writes =
      ap (λ (f : Name → Option MountRow). record (tables_in s) { mounts = f }) (λ j r. writes r j) ∙ ap (λ t. with_edit (PutMount row) (tables_in t)) is

  pub mount-taken : (new : List (Name × MountRow)) (reel : Name) → ((r : Name) → row_at by_name new r ≡ cond (same reel r) None (row_at by_name s.mounts r))
      → tables_in (record s { mounts = new }) ≡ with_edit (TakeMount reel) (tables_in now)
  mount-taken new reel writes =
      ap (λ (f : Name → Option MountRow). record (tables_in s) { mounts = f }) (λ j r. writes r j) ∙ ap (λ t. with_edit (TakeMount reel) (tables_in t)) is

  pub board-put : (new : List (Name × BoardRow)) (row : BoardRow) → Writes by_name s.boards new row.board (Some row)
      → tables_in (record s { boards = new }) ≡ with_edit (PutBoard row) (tables_in now)
  board-put new row writes =
      ap (λ (f : Name → Option BoardRow). record (tables_in s) { boards = f }) (λ j b. row-written by_name same is_at-by_name s.boards new row.board (Some row) writes b j)
      ∙ ap (λ t. with_edit (PutBoard row) (tables_in t)) is

  pub placement-put : (new : List ((ℕ × ℕ) × PlacementRow)) (row : PlacementRow) → Writes by_piece s.placements new (row.number, row.place) (Some row)
      → tables_in (record s { placements = new }) ≡ with_edit (PutPlacement row) (tables_in now)
  placement-put new row writes =
      ap (λ (f : ℕ → ℕ → Option PlacementRow). record (tables_in s) { placements = f })
      (λ j n k. row-written by_piece (λ a b. a.0 == b.0 && (a.1 == b.1)) is_at-by_piece s.placements new (row.number, row.place) (Some row) writes (n, k) j)
      ∙ ap (λ t. with_edit (PutPlacement row) (tables_in t)) is

  pub found-put : (new : List (Name × ℕ)) (reel : Name) (pieces : ℕ) → Writes by_name s.found new reel (Some pieces)
      → tables_in (record s { found = new }) ≡ with_edit (PutFound reel pieces) (tables_in now)
  found-put new reel pieces writes =
      ap (λ (f : Name → Option ℕ). record (tables_in s) { found = f }) (λ j r. row-written by_name same is_at-by_name s.found new reel (Some pieces) writes r j)
      ∙ ap (λ t. with_edit (PutFound reel pieces) (tables_in t)) is

-- ---- edits except those of placements

but-step : (e : RowEdit) (t kept : Tables) → but_placements (with_edit e (but_placements t kept)) kept ≡ but_placements (with_edit e t) kept
but-step (PutPlacement row) t kept = refl
but-step (TakeSheetRow product machine place) t kept = refl
but-step (TakeMount reel) t kept = refl
but-step (PutPart part) t kept = refl
but-step (PutAlternate part alternate) t kept = refl
but-step (PutSheetRow product machine place row) t kept = refl
but-step (PutSelected machine product) t kept = refl
but-step (PutReel row) t kept = refl
but-step (PutMount row) t kept = refl
but-step (PutBoard row) t kept = refl
but-step (PutFound reel pieces) t kept = refl

pub but-next : (edits : List RowEdit) (i : ℕ) (edit : RowEdit) (t so_far now : Tables) → i < length edits → edit ≡ get_or edits i edit
    → so_far ≡ but_placements (with_edits (take i edits) t) t → now ≡ but_placements (with_edit edit so_far) so_far
    → now ≡ but_placements (with_edits (take (i + 1) edits) t) t
but-next edits i edit t so_far now inside is so next =
    next
    ∙ ap (λ x. but_placements (with_edit edit x) x) so
    ∙ but-step edit (with_edits (take i edits) t) t
    ∙ ap (λ x. but_placements x t) (sym (edits-next edits i edit t inside is))

pub no-placements : (n k : ℕ) → placement_row [] n k ≡ None
unfolding takes_of
no-placements n k = refl

pub none-found : (r : Name) → found_row [] r ≡ None
unfolding found_of
none-found r = refl
