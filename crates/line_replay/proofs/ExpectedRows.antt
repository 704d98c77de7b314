-- The expected rows of a history with one more entry.
use Rattle.desk_types.proofs.Common.{[], ◌&&◌, ◌++◌, ◌+◌, ◌<◌, ◌==◌, ◌↔◌, ◌∙◌, ◌∷◌, ◌≡◌, ◌⊎◌, AllByRecursion}
use Rattle.desk_types.proofs.Common.{ap, ap₂, arith, Bool, cons_option, eq-eqb, eqb-true, false}
use Rattle.desk_types.proofs.Common.{filter_map-append, get_or, History, if◌then◌else◌, inl, inr, length}
use Rattle.desk_types.proofs.Common.{List, map, Name, None, Option, option_map, option_to_list, placement_row}
use Rattle.desk_types.proofs.Common.{refl, Some, subst, sym, Tables, take, take-next, takes_of, true}
use Rattle.desk_types.proofs.Common.{with_edit, with_edits, ℕ}
use Rattle.line_tables.proofs.Common.{Database, has_piece, IsOurs, KeepsCommit, placement_columns, RowEdit}
use Rattle.line_tables.proofs.Common.{rows_in, State}
use Rattle.desk_types.specs.Edits.{AreNew, IsNew}
use Rattle.desk_types.specs.Tables.{tables_of as state_of}
use Rattle.desk_types.specs.declared.command.Entry.{Entry}
use Rattle.desk_types.specs.declared.edit.RowEdit.TheVariants.{PutAlternate, PutBoard, PutFound, PutMount}
use Rattle.desk_types.specs.declared.edit.RowEdit.TheVariants.{PutPart, PutPlacement, PutReel, PutSelected}
use Rattle.desk_types.specs.declared.edit.RowEdit.TheVariants.{PutSheetRow, TakeMount, TakeSheetRow}
use Rattle.desk_types.specs.declared.row.MountRow.{MountRow}
use Rattle.desk_types.specs.declared.row.PlacementRow.{PlacementRow}
use Rattle.line_replay.proofs.ReadOfCommitted.{reads_back}
use Rattle.line_replay.specs.Alone.{AreAlone, IsNamed, IsNew as IsNewPiece, Listed}
use Rattle.line_replay.specs.Audit.{AreByPiece, ArePlaced, piece_of, Pieces}
use Rattle.line_replay.specs.Expected.{Adds, AreExpected, AreKept, ArePlacedToo, Expected, HoldsAsRead}
use Rattle.line_replay.specs.Expected.{LooksUp, placement_by, placements_by}
use Rattle.line_replay.specs.Judging.{Lead}
use Rattle.line_replay.specs.Placed.{HasBefore, HasMoreBefore}
use Rattle.line_replay.specs.declared.auditing.Placed.{Placed}
use Rattle.state_rows.specs.Kept.{but_placements, KeptRows, tables_in, unnumbered, without_number}
use Rattle.line_tables.specs.Line as line

-- ---- the rows of the other tables

one_edit : (x : RowEdit) (t n : Tables) → with_edit x (but_placements t n) ≡ but_placements (with_edit x t) (with_edit x (but_placements t n))
one_edit (TakeSheetRow product machine place) t n = refl
one_edit (TakeMount reel) t n = refl
one_edit (PutPart part) t n = refl
one_edit (PutAlternate part alternate) t n = refl
one_edit (PutSheetRow product machine place row) t n = refl
one_edit (PutSelected machine product) t n = refl
one_edit (PutReel row) t n = refl
one_edit (PutMount row) t n = refl
one_edit (PutBoard row) t n = refl
one_edit (PutPlacement row) t n = refl
one_edit (PutFound reel pieces) t n = refl

but-edits : (xs : List RowEdit) (t n m : Tables) → but_placements (with_edits xs (but_placements t m)) n ≡ but_placements (with_edits xs t) n
but-edits [] t n m = refl
but-edits (x ∷ xs) t n m =
    ap (λ (u : Tables). but_placements (with_edits xs u) n) (one_edit x t m) ∙ but-edits xs (with_edit x t) n (with_edit x (but_placements t m))

-- ---- the placements

-- The placements of edits, in the order of the edits and before others.
abbrev placed_onto : List RowEdit → Pieces → Pieces
placed_onto [] es = es
placed_onto (x ∷ xs) es = placed_onto xs (map piece_of (option_to_list (placement_by x)) ++ es)

abbrev pieces_in : Tables → ℕ × ℕ → Option PlacementRow
pieces_in t key = t.placements key.0 key.1

named_or : (row : PlacementRow) (n k : ℕ) → (row.number == n && (row.place == k)) ≡ true → ◌≡◌ {A = ℕ × ℕ} (n, k) (row.number, row.place)
named_or row n k is = let p = two _ _ is in ap₂ (λ (a b : ℕ). (a, b)) (sym (eqb-true row.number n p.0)) (sym (eqb-true row.place k p.1))
  where
    two : (a b : Bool) → (a && b) ≡ true → (a ≡ true) × (b ≡ true)
    two true b h = (refl, h)
    two false b h = absurd cc

module _ (row : PlacementRow) (t : Tables) (new : t.placements row.number row.place ≡ None) where
  other : (key : ℕ × ℕ) (r : PlacementRow) → pieces_in t key ≡ Some r → (row.number, row.place) ≡ key → ⊥
  other key r is same = let both = sym new ∙ ap (pieces_in t) same ∙ is in cc

  others_new : (es : Pieces) → AllByRecursion (λ e. pieces_in t e.0 ≡ Some e.1) es → IsNewPiece (row.number, row.place) es
  others_new [] h = tt
  others_new (e ∷ es) h = (other e.0 e.1 h.0, others_new es h.1)

  kept_one : (key : ℕ × ℕ) (r : PlacementRow) → pieces_in t key ≡ Some r → pieces_in (with_edit (PutPlacement row) t) key ≡ Some r
  kept_one key r is = by (row.number == key.0 && (row.place == key.1)) refl
    where
      by : (b : Bool) → (row.number == key.0 && (row.place == key.1)) ≡ b → (if b then Some row else t.placements key.0 key.1) ≡ Some r
      by true same = absurd (other key r is (sym (named_or row key.0 key.1 same)))
      by false same = is

  kept_all : (es : Pieces) → AllByRecursion (λ e. pieces_in t e.0 ≡ Some e.1) es → AllByRecursion (λ e. pieces_in (with_edit (PutPlacement row) t) e.0 ≡ Some e.1) es
  kept_all [] h = tt
  kept_all (e ∷ es) h = (kept_one e.0 e.1 h.0, kept_all es h.1)

  put_one : pieces_in (with_edit (PutPlacement row) t) (row.number, row.place) ≡ Some row
  put_one = ap₂ (λ a b. if a && b then Some row else t.placements row.number row.place) (eq-eqb row.number row.number refl) (eq-eqb row.place row.place refl)

  pub listed_more : (es : Pieces) → Listed es (pieces_in t) → Listed (piece_of row ∷ es) (pieces_in (with_edit (PutPlacement row) t))
  listed_more es l = record {
    each = (put_one, kept_all es l.each);
    all = λ key r. by key r (row.number == key.0 && (row.place == key.1)) refl;
    distinct = (others_new es l.each, l.distinct);
  }
    where
      by : (key : ℕ × ℕ) (r : PlacementRow) (b : Bool) → (row.number == key.0 && (row.place == key.1)) ≡ b → (if b then Some row else t.placements key.0 key.1) ≡ Some r → (key ≡ (row.number, row.place)) ⊎ IsNamed key es
      by key r true is h = inl (named_or row key.0 key.1 is)
      by key r false is h = inr (l.all key r h)

listed_one : (x : RowEdit) (t : Tables) (es : Pieces) → IsNew x t → Listed es (pieces_in t) → Listed (map piece_of (option_to_list (placement_by x)) ++ es) (pieces_in (with_edit x t))
listed_one (TakeSheetRow product machine place) t es new l = l
listed_one (TakeMount reel) t es new l = l
listed_one (PutPart part) t es new l = l
listed_one (PutAlternate part alternate) t es new l = l
listed_one (PutSheetRow product machine place row) t es new l = l
listed_one (PutSelected machine product) t es new l = l
listed_one (PutReel row) t es new l = l
listed_one (PutMount row) t es new l = l
listed_one (PutBoard row) t es new l = l
listed_one (PutFound reel pieces) t es new l = l
listed_one (PutPlacement row) t es new l = listed_more row t new es l

listed_onto : (xs : List RowEdit) (t : Tables) (es : Pieces) → AreNew xs t → Listed es (pieces_in t) → Listed (placed_onto xs es) (pieces_in (with_edits xs t))
listed_onto [] t es new l = l
listed_onto (x ∷ xs) t es new l = listed_onto xs (with_edit x t) (map piece_of (option_to_list (placement_by x)) ++ es) new.1 (listed_one x t es new.0 l)

onto_length : (xs : List RowEdit) (es : Pieces) → length (placed_onto xs es) ≡ length es + length (placements_by xs)
onto_length [] es = omega arith
onto_length (x ∷ xs) es = onto_length xs (map piece_of (option_to_list (placement_by x)) ++ es) ∙ by (placement_by x)
  where
    by : (o : Option PlacementRow) → length (map piece_of (option_to_list o) ++ es) + length (placements_by xs) ≡ length es + length (cons_option o (placements_by xs))
    by None = refl
    by (Some row) = omega arith

onto_all : (P : (ℕ × ℕ) × PlacementRow → Type 0) (xs : List RowEdit) (es : Pieces) → AllByRecursion P (placed_onto xs es) ↔ (AllByRecursion P es × AllByRecursion P (map piece_of (placements_by xs)))
onto_all P [] es = (λ h. (h, tt), λ h. h.0)
onto_all P (x ∷ xs) es = by (placement_by x) (onto_all P xs (map piece_of (option_to_list (placement_by x)) ++ es))
  where
    by : {Q : Type 0} (o : Option PlacementRow) → Q ↔ (AllByRecursion P (map piece_of (option_to_list o) ++ es) × AllByRecursion P (map piece_of (placements_by xs)))
        → Q ↔ (AllByRecursion P es × AllByRecursion P (map piece_of (cons_option o (placements_by xs))))
    by None more = more
    by (Some row) more = (λ h. let p = more.0 h in (p.0.1, (p.0.0, p.1)), λ h. more.1 ((h.1.0, h.0), h.1.1))

named_pieces : (rows : List PlacementRow) → AreByPiece (map piece_of rows)
named_pieces [] = tt
named_pieces (row ∷ rows) = (refl, named_pieces rows)

placed_onto_all : (db : Database) (before : Placed) (after : Bool) (end : Option ℕ) (xs : List RowEdit) (es : Pieces) → ArePlacedToo db before after end (placements_by xs) → ArePlaced db before.all es → ArePlaced db after (placed_onto xs es)
placed_onto_all db before after end xs es too was = record {
  here = λ is. let h = too.here is in (onto_all _ xs es).1 (was.here h.0, h.1.here refl);
  missing = λ not alone. let both = (onto_all _ xs es).0 alone in by not both (too.missing not);
}
  where
    by : after ≡ false → AreAlone has_piece (λ _ row. placement_columns row) (rows_in line.placement db) es × AreAlone has_piece (λ _ row. placement_columns row) (rows_in line.placement db) (map piece_of (placements_by xs))
        → (before.all ≡ false) ⊎ ArePlaced db false (map piece_of (placements_by xs)) → ⊥
    by not both (inl b) = was.missing b both.0
    by not both (inr p) = p.missing refl both.1

-- ---- the result

pub too_false : (db : Database) (before : Placed) (rows : List PlacementRow) → before.all ≡ false → ArePlacedToo db before false None rows
too_false db before rows not = record { here = λ is. absurd cc; missing = λ _. inl not; more = λ count was. tt }

pub too_none : (db : Database) (before : Placed) (rows : List PlacementRow) → before.all ≡ true → length rows ≡ 0 → ArePlacedToo db before true before.end rows
too_none db before [] was none = record { here = λ is. (was, record { here = λ _. tt; missing = λ h. absurd cc }); missing = λ h. absurd cc; more = λ count has. subst (λ n. HasBefore before.end n db) (omega arith) has }
too_none db before (row ∷ rows) was none = absurd (omega (arith, none))

pub too_found : (db : Database) (before : Placed) (b : Bool) (end : Option ℕ) (rows : List PlacementRow) → before.all ≡ true → ArePlaced db b (map piece_of rows) × HasMoreBefore before.end end (length rows) db → ArePlacedToo db before b end rows
too_found db before b end rows was placed = record {
  here = λ is. (was, subst (λ c. ArePlaced db c (map piece_of rows)) is placed.0);
  missing = λ not. inr (subst (λ c. ArePlaced db c (map piece_of rows)) not placed.0);
  more = placed.1;
}

tells_first : (old mid : State) (P : Database → Type 0) → KeepsCommit old mid → HoldsAsRead mid P → IsOurs old.committed.schema → P old.committed
tells_first old mid P kept (inl all) schema = all old.committed
tells_first old mid P kept (inr r) schema = (reads_back old mid P kept r).are schema

tells_back : (old mid : State) (P : Database → Type 0) → KeepsCommit old mid → HoldsAsRead mid P → HoldsAsRead old P
tells_back old mid P kept (inl all) = inl all
tells_back old mid P kept (inr r) = inr (reads_back old mid P kept r)

pub looks_back : (Clean : Type 0) (old mid : State) (edits : List RowEdit) (before after : Placed) → (Clean → KeepsCommit old mid) → LooksUp Clean mid edits before after → LooksUp Clean old edits before after
looks_back Clean old mid edits before after kept a = record { count = a.count; told = λ clean. tells_back old mid _ (kept clean) (a.told clean) }

pub none_placed : (number place : ℕ) → placement_row [] number place ≡ None
unfolding takes_of
none_placed number place = refl

pub no_rows : (t : Tables) → unnumbered t ≡ unnumbered (state_of []) → but_placements t (state_of []) ≡ state_of []
no_rows t is =
    let none = state_of [] in
    ap (λ (f : Name → Option MountRow). record t { mounts = f; placements = none.placements }) (λ j r. by (t.mounts r) (ap (λ (u : Tables). u.mounts r) is) j)
    ∙ ap (λ (u : Tables). record u { mounts = none.mounts; placements = none.placements }) is
  where
    by : (o : Option MountRow) → option_map without_number o ≡ None → o ≡ None
    by None p = refl
    by (Some m) p = cc

pub none_expected : (Clean : Type 0) (db : Database) (read rows : KeptRows) → read ≡ rows → unnumbered (tables_in read) ≡ unnumbered (state_of []) → AreExpected Clean db (record { rows = rows; placed = record { all = true; count = 0; end = Some 0 } }) []
none_expected Clean db read rows same is = record {
  rows = subst (λ (x : KeptRows). AreKept x []) same (no_rows (tables_in read) is);
  pieces = [];
  listed = record { each = tt; all = λ key r is. let none = sym (none_placed key.0 key.1) ∙ is in cc; distinct = tt };
  named = tt;
  counted = refl;
  told = λ clean schema. record { here = λ is. tt; missing = λ is. absurd cc };
  before = λ clean schema. omega arith;
}

pub placements-next : (xs : List RowEdit) (i : ℕ) (x : RowEdit) (rows : List PlacementRow) (o : Option PlacementRow) → i < length xs → x ≡ get_or xs i x → rows ≡ placements_by (take i xs) → placement_by x ≡ o
    → rows ++ option_to_list o ≡ placements_by (take (i + 1) xs)
placements-next xs i x rows o inside is so_far by =
    ap₂ (λ a b. a ++ b) so_far (one o ∙ ap (λ (o : Option PlacementRow). cons_option o []) (sym by)) ∙ sym (filter_map-append placement_by (take i xs) (x ∷ [])) ∙ ap placements_by (sym (take-next xs i x inside is))
  where
    one : (o : Option PlacementRow) → option_to_list o ≡ cons_option o []
    one None = refl
    one (Some row) = refl

pub kept_more : (edits : List RowEdit) (before after : KeptRows) (G H : History) → tables_in after ≡ but_placements (with_edits edits (tables_in before)) (tables_in before) → with_edits edits (state_of G) ≡ state_of H → AreKept before G
    → AreKept after H
kept_more edits before after G H made lead was =
    let none = state_of [] in
    ap (λ (t : Tables). but_placements t none) made ∙ sym (but-edits edits (tables_in before) none none) ∙ ap (λ (t : Tables). but_placements (with_edits edits t) none) was ∙ but-edits edits (state_of G) none none
    ∙ ap (λ (t : Tables). but_placements t none) lead

pub expected_more : (Before After : Type 0) (old mid : State) (edits : List RowEdit) (b0 b1 : Expected) (H : History) (e : Entry) → (After → Before) → (After → KeepsCommit old mid) → AreExpected Before old.committed b0 H
    → Lead edits H e → Adds After mid edits b0 b1 → AreExpected After old.committed b1 (e ∷ H)
expected_more Before After old mid edits b0 b1 H e early kept was lead adds =
    record {
      rows = kept_more edits b0.rows b1.rows H (e ∷ H) adds.rows lead.lead was.rows;
      pieces = placed_onto edits was.pieces;
      listed = subst (λ (t : Tables). Listed (placed_onto edits was.pieces) (pieces_in t)) lead.lead (listed_onto edits (state_of H) was.pieces lead.new was.listed);
      named = (onto_all _ edits was.pieces).1 (was.named, named_pieces (placements_by edits));
      counted = omega (arith, adds.placed.count, was.counted, onto_length edits was.pieces);
      told = λ clean schema. placed_onto_all old.committed b0.placed b1.placed.all b1.placed.end edits was.pieces (tells_first old mid _ (kept clean) (adds.placed.told clean) schema) (was.told (early clean) schema);
      before = λ clean schema. subst (λ n. HasBefore b1.placed.end n old.committed) (sym adds.placed.count) ((tells_first old mid _ (kept clean) (adds.placed.told clean) schema).more b0.placed.count (was.before (early clean) schema));
    }
