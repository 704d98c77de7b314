-- Rows of reels off which pieces come, take by take.
use Rattle.desk_types.proofs.Common.{[], ◌&&◌, ◌++◌, ◌+◌, ◌<◌, ◌==◌, ◌∙◌, ◌∷◌, ◌≡◌, ◌≤◌, accept}
use Rattle.desk_types.proofs.Common.{AllByRecursion, ap, append-nil, append_assoc, AreBalanced, AreTakesFirst}
use Rattle.desk_types.proofs.Common.{arith, Bool, by_name, cond, drop, drop-next, effective_minute, entry_of}
use Rattle.desk_types.proofs.Common.{false, flat_map, get_or, History, if◌then◌else◌, is_at-by_name, is_eq}
use Rattle.desk_types.proofs.Common.{IsChange, IsJudged, IsMinute, IsStamped, IsStrictlySortedBy, keys_of}
use Rattle.desk_types.proofs.Common.{length, length-take-le, Less, List, map, map-append, Name, None, Option}
use Rattle.desk_types.proofs.Common.{option_map, option_map_or, option_or, option_to_list, picks_of}
use Rattle.desk_types.proofs.Common.{placement_row, reel_row, refl, same, same-refl, same-sym, same-true}
use Rattle.desk_types.proofs.Common.{Some, subst, sym, Tables, tables_of, take, take-append-drop, take-next}
use Rattle.desk_types.proofs.Common.{takes_by, true, with_edits, ℕ}
use Rattle.desk_laws.proofs.Common.{judged-by-two, MOST_ENTRIES, Pick, ReelRow, Rules, Stamped, Take, Two}
use Rattle.desk_types.specs.{Edits.AreNew, declared.change.Change.Change, declared.edit.RowEdit.RowEdit}
use Rattle.desk_types.specs.{declared.edit.RowEdit.TheVariants.PutPlacement}
use Rattle.desk_types.specs.{declared.edit.RowEdit.TheVariants.PutReel}
use Rattle.desk_types.specs.{declared.edit.RowEdit.TheVariants.TakeMount, declared.row.MountRow.MountRow}
use Rattle.desk_types.specs.{declared.row.PlacementRow.PlacementRow}
use Rattle.state_rows.proofs.{EditLists.with_edits-append, EditsLead.edits-lead, EditsLead.edits-lead-same}
use Rattle.state_rows.proofs.{GatheredPieces.picked_rows-fits, GatheredPieces.picked_rows-next}
use Rattle.state_rows.proofs.{GatheredPieces.places-put, GatheredPieces.rows-named, NewRows.edits-fit}
use Rattle.state_rows.proofs.{PlacementRows.unplaced-later, SumsInRange.entry-next, SumsInRange.pieces-fit}
use Rattle.state_rows.proofs.{TablesLess.picks-again}
use Rattle.state_rows.specs.{After.placed_row, EditsOf.after_rows, EditsOf.AreEditsOf, EditsOf.AreNamed}
use Rattle.state_rows.specs.{EditsOf.ArePiecesFitting, EditsOf.AreTakeEdits, EditsOf.is_picked}
use Rattle.state_rows.specs.{EditsOf.is_spent, EditsOf.less_by, EditsOf.less_row, EditsOf.LessFits}
use Rattle.state_rows.specs.{EditsOf.pick_of, EditsOf.picked_rows, EditsOf.place_rows, EditsOf.take_spent}
use Rattle.state_rows.specs.{EditsOf.with_reels, EditsOf.without_spent, Kept.row_at, Kept.unnumbered}
use Rattle.std.specs.Map.{values_of}

pub noted : (old rows : Name → Option ReelRow) (k : Name) (p : Pick) (row less : ReelRow) → option_or (old k) (rows k) ≡ Some row → less ≡ less_by p row → (r : Name)
    → cond (same k r) (Some less) (old r) ≡ (if same k r then option_map (less_by p) (option_or (old r) (rows r)) else old r)
noted old rows k p row less is lesser r = by (same k r) refl
  where
    by : (b : Bool) → same k r ≡ b → cond b (Some less) (old r) ≡ (if b then option_map (less_by p) (option_or (old r) (rows r)) else old r)
    by true here = ap Some lesser ∙ sym (ap (λ x. option_map (less_by p) (option_or (old x) (rows x))) (sym (same-true k r here)) ∙ ap (option_map (less_by p)) is)
    by false here = refl

picks-next : (takes : List Take) (i : ℕ) (item : Take) → i < length takes → item ≡ get_or takes i item
    → map pick_of (take (i + 1) takes) ≡ map pick_of (take i takes) ++ pick_of item ∷ []
picks-next takes i item inside is = ap (map pick_of) (take-next takes i item inside is) ∙ map-append pick_of (take i takes) (item ∷ [])

picks-all : (takes : List Take) (i : ℕ) (item : Take) → i < length takes → item ≡ get_or takes i item
    → map pick_of takes ≡ map pick_of (take i takes) ++ pick_of item ∷ map pick_of (drop (i + 1) takes)
picks-all takes i item inside is =
    ap (map pick_of) (sym (take-append-drop i takes) ∙ ap (λ l. take i takes ++ l) (drop-next takes i item inside is)) ∙ map-append pick_of (take i takes) (item ∷ drop (i + 1) takes)

pub next-fits : (H : History) (takes : List Take) (i : ℕ) (item : Take) (so_far : Name → Option ReelRow) → i < length takes → item ≡ get_or takes i item
    → ArePiecesFitting H (map pick_of takes) → ((r : Name) → so_far r ≡ picked_rows (reel_row H) (map pick_of (take i takes)) r)
    → (row : ReelRow) → option_or (so_far item.reel) (reel_row H item.reel) ≡ Some row → LessFits (pick_of item) row
next-fits H takes i item so_far inside is fits gathers row found =
    picked_rows-fits H (map pick_of (take i takes)) (pick_of item) (map pick_of (drop (i + 1) takes)) row
    (subst (ArePiecesFitting H) (picks-all takes i item inside is) fits)
    (sym (ap (λ o. option_or o (reel_row H item.reel)) (gathers item.reel)) ∙ found)

pub gather-next : (H : History) (takes : List Take) (i : ℕ) (item : Take) (so_far now : Name → Option ReelRow) → i < length takes → item ≡ get_or takes i item
    → ((r : Name) → so_far r ≡ picked_rows (reel_row H) (map pick_of (take i takes)) r)
    → ((r : Name) → now r ≡ (if same item.reel r then option_map (less_by (pick_of item)) (option_or (so_far r) (reel_row H r)) else so_far r))
    → (r : Name) → now r ≡ picked_rows (reel_row H) (map pick_of (take (i + 1) takes)) r
gather-next H takes i item so_far now inside is gathers noted r =
    noted r
    ∙ ap (λ o. if same item.reel r then option_map (less_by (pick_of item)) (option_or o (reel_row H r)) else o) (gathers r)
    ∙ sym (picked_rows-next (reel_row H) (map pick_of (take i takes)) (pick_of item) r (rows-named H))
    ∙ ap (λ ps. picked_rows (reel_row H) ps r) (sym (picks-next takes i item inside is))

-- ---- placements

abbrev put_of : Option PlacementRow → List RowEdit
put_of row = option_to_list (option_map (λ (r : PlacementRow). PutPlacement r) row)

places-append : (number n : ℕ) (xs : List Take) (x : Take) → place_rows number n (xs ++ x ∷ []) ≡ place_rows number n xs ++ put_of (placed_row number (n + length xs) x)
places-append number n [] x = append-nil (put_of (placed_row number n x)) ∙ ap (λ k. put_of (placed_row number k x)) (let is : n ≡ n + 0 = omega arith in is)
places-append number n (y ∷ ys) x =
    ap (λ l. put_of (placed_row number n y) ++ l) (places-append number (n + 1) ys x ∙ ap (λ k. place_rows number (n + 1) ys ++ put_of (placed_row number k x)) (let is : n + 1 + length ys ≡ n + length (y ∷ ys) = omega arith in is))
    ∙ sym (append_assoc (put_of (placed_row number n y)) (place_rows number (n + 1) ys) _)

pub place-next : (number : ℕ) (takes : List Take) (i : ℕ) (item : Take) (before edits : List RowEdit) → i < length takes → item ≡ get_or takes i item
    → edits ≡ before ++ place_rows number 1 (take i takes) → edits ++ put_of (placed_row number (i + 1) item) ≡ before ++ place_rows number 1 (take (i + 1) takes)
place-next number takes i item before edits inside is so_far =
    ap (λ l. l ++ put_of (placed_row number (i + 1) item)) so_far
    ∙ append_assoc before (place_rows number 1 (take i takes)) _
    ∙ ap (λ l. before ++ l) (
    ap (λ k. place_rows number 1 (take i takes) ++ put_of (placed_row number k item)) (let len = length-take-le i takes (omega (arith, inside)) in let at : i + 1 ≡ 1 + length (take i takes) = omega (arith, len) in at)
    ∙ sym (places-append number 1 (take i takes) item)
    ∙ ap (place_rows number 1) (sym (take-next takes i item inside is)))

-- ---- rows in a map

alone : (e : Name × ReelRow) (es : List (Name × ReelRow)) → IsStrictlySortedBy by_name (keys_of (e ∷ es)) → row_at by_name es e.0 ≡ None
unfolding IsStrictlySortedBy
alone e es (above, up) = among es above
  where
    among : (xs : List (Name × ReelRow)) → AllByRecursion (λ y. by_name e.0 y ≡ Less) (keys_of xs) → row_at by_name xs e.0 ≡ None
    among [] above = refl
    among (x ∷ xs) (first, above) = ap (λ o. cond (is_eq o) (Some x.1) (row_at by_name xs e.0)) first ∙ among xs above

up-tail : (e : Name × ReelRow) (es : List (Name × ReelRow)) → IsStrictlySortedBy by_name (keys_of (e ∷ es)) → IsStrictlySortedBy by_name (keys_of es)
unfolding IsStrictlySortedBy
up-tail e es (above, up) = up

first-at : (e : Name × ReelRow) (es : List (Name × ReelRow)) (r : Name) → row_at by_name (e ∷ es) r ≡ cond (same e.0 r) (Some e.1) (row_at by_name es r)
first-at e es r = ap (λ b. cond b (Some e.1) (row_at by_name es r)) (is_at-by_name r e.0 ∙ same-sym r e.0)

first-own : (e : Name × ReelRow) (es : List (Name × ReelRow)) → row_at by_name (e ∷ es) e.0 ≡ Some e.1
first-own e es = first-at e es e.0 ∙ ap (λ b. cond b (Some e.1) (row_at by_name es e.0)) (same-refl e.0)

first-named : (e : Name × ReelRow) (es : List (Name × ReelRow)) → AreNamed (row_at by_name (e ∷ es)) → e.1.reel ≡ e.0
first-named e es named = named e.0 e.1 (first-own e es)

rest-at : (e : Name × ReelRow) (es : List (Name × ReelRow)) (r : Name) (row : ReelRow) → IsStrictlySortedBy by_name (keys_of (e ∷ es)) → row_at by_name es r ≡ Some row
    → row_at by_name (e ∷ es) r ≡ Some row
rest-at e es r row up is = by (same e.0 r) refl
  where
    by : (b : Bool) → same e.0 r ≡ b → row_at by_name (e ∷ es) r ≡ Some row
    by true here = let gone = sym (ap (row_at by_name es) (sym (same-true e.0 r here)) ∙ alone e es up) ∙ is in cc
    by false here = first-at e es r ∙ ap (λ b. cond b (Some e.1) (row_at by_name es r)) here ∙ is

rest-named : (e : Name × ReelRow) (es : List (Name × ReelRow)) → IsStrictlySortedBy by_name (keys_of (e ∷ es)) → AreNamed (row_at by_name (e ∷ es)) → AreNamed (row_at by_name es)
rest-named e es up named r row is = named r row (rest-at e es r row up is)

each-row : (P : ReelRow → Type 0) (es : List (Name × ReelRow)) → IsStrictlySortedBy by_name (keys_of es) → ((r : Name) (row : ReelRow) → row_at by_name es r ≡ Some row → P row)
    → AllByRecursion P (values_of es)
each-row P [] up holds = tt
each-row P (e ∷ es) up holds =
    (holds e.0 e.1 (first-own e es), each-row P es (up-tail e es up) (λ r row is. holds r row (rest-at e es r row up is)))

pub rows-put : (es : List (Name × ReelRow)) (t : Tables) → IsStrictlySortedBy by_name (keys_of es) → AreNamed (row_at by_name es)
    → with_edits (map (λ row. PutReel row) (values_of es)) t ≡ with_reels (row_at by_name es) t
rows-put [] t up named = refl
rows-put (e ∷ es) t up named =
    rows-put es (with_edits (PutReel e.1 ∷ []) t) (up-tail e es up) (rest-named e es up named)
    ∙ ap (λ (f : Name → Option ReelRow). record t { reels = f }) (λ j r. (
    ap (λ n. option_or (row_at by_name es r) (if same n r then Some e.1 else t.reels r)) (first-named e es named)
    ∙ by r (same e.0 r) refl
    ∙ sym (ap (λ o. option_or o (t.reels r)) (first-at e es r))) j)
  where
    by : (r : Name) (b : Bool) → same e.0 r ≡ b → option_or (row_at by_name es r) (if b then Some e.1 else t.reels r) ≡ option_or (cond b (Some e.1) (row_at by_name es r)) (t.reels r)
    by r true here = ap (λ o. option_or o (Some e.1)) (ap (row_at by_name es) (sym (same-true e.0 r here)) ∙ alone e es up)
    by r false here = refl

pub spent-taken : (es : List (Name × ReelRow)) (t : Tables) → IsStrictlySortedBy by_name (keys_of es) → AreNamed (row_at by_name es)
    → with_edits (flat_map take_spent (values_of es)) t ≡ without_spent (row_at by_name es) t
spent-taken [] t up named = refl
spent-taken (e ∷ es) t up named =
    with_edits-append (take_spent e.1) (flat_map take_spent (values_of es)) t
    ∙ spent-taken es (with_edits (take_spent e.1) t) (up-tail e es up) (rest-named e es up named)
    ∙ ap (without_spent (row_at by_name es)) (taken (e.1.remaining == 0))
    ∙ ap (λ (f : Name → Option MountRow). record t { mounts = f }) (λ j r. (
    ap (λ n. if is_spent (row_at by_name es r) then None else (if (e.1.remaining == 0) && same n r then None else t.mounts r)) (first-named e es named)
    ∙ by r (same e.0 r) refl (e.1.remaining == 0) refl
    ∙ sym (ap (λ o. if is_spent o then None else t.mounts r) (first-at e es r))) j)
  where
    taken : (b : Bool) → with_edits (if b then TakeMount e.1.reel ∷ [] else []) t ≡ record t { mounts = λ r. if b && same e.1.reel r then None else t.mounts r }
    taken true = refl
    taken false = refl

    by : (r : Name) (b : Bool) → same e.0 r ≡ b → (spent : Bool) → (e.1.remaining == 0) ≡ spent
        → (if is_spent (row_at by_name es r) then None else (if spent && b then None else t.mounts r)) ≡ (if is_spent (cond b (Some e.1) (row_at by_name es r)) then None else t.mounts r)
    by r true here spent is =
        ap (λ o. if is_spent o then None else (if spent && true then None else t.mounts r)) (ap (row_at by_name es) (sym (same-true e.0 r here)) ∙ alone e es up)
        ∙ one spent ∙ sym (ap (λ b. if b then None else t.mounts r) is)
      where
        one : (b : Bool) → (if b && true then None else t.mounts r) ≡ (if b then None else t.mounts r)
        one true = refl
        one false = refl
    by r false here true is = refl
    by r false here false is = refl

-- ---- a command that takes

picked_rows-named : (rows : Name → Option ReelRow) (picks : List Pick) → AreNamed rows → AreNamed (picked_rows rows picks)
picked_rows-named rows picks named r row is = by (is_picked picks r) (rows r) (named r) is
  where
    by : (b : Bool) (o : Option ReelRow) → ((x : ReelRow) → o ≡ Some x → x.reel ≡ r) → (if b then option_map (less_row picks) o else None) ≡ Some row → row.reel ≡ r
    by true None of is = cc
    by true (Some x) of is = sym (ap (λ o. option_map_or (λ (y : ReelRow). y.reel) o []) is) ∙ of x refl
    by false o of is = cc

pub taken-all : (H : History) (number : ℕ) (takes : List Take) (es : List (Name × ReelRow)) (edits : List RowEdit) → IsStrictlySortedBy by_name (keys_of es)
    → ((r : Name) → row_at by_name es r ≡ picked_rows (reel_row H) (map pick_of takes) r)
    → edits ≡ (flat_map take_spent (values_of es) ++ map (λ row. PutReel row) (values_of es)) ++ place_rows number 1 takes
    → AreTakeEdits H number takes edits
taken-all H number takes es edits up gathers all = record {
  rows = values_of es;
  each = each-row (λ row. kept row.reel ≡ Some row) es up (λ r row is. ap kept (named r row is) ∙ sym (gathers r) ∙ is);
  are = all;
  lead = λ t.
      ap (λ xs. with_edits xs t) all
      ∙ with_edits-append (spent ++ put) (place_rows number 1 takes) t
      ∙ ap (with_edits (place_rows number 1 takes)) (
      with_edits-append spent put t
      ∙ ap (with_edits put) (spent-taken es t up named)
      ∙ rows-put es (without_spent (row_at by_name es) t) up named
      ∙ ap (λ (f : Name → Option ReelRow). after_rows f t) same_rows)
      ∙ places-put number takes 1 (after_rows kept t);
}
  where
    kept : Name → Option ReelRow
    kept = picked_rows (reel_row H) (map pick_of takes)

    spent : List RowEdit
    spent = flat_map take_spent (values_of es)

    put : List RowEdit
    put = map (λ row. PutReel row) (values_of es)

    same_rows : row_at by_name es ≡ kept
    same_rows = λ j r. gathers r j

    named : AreNamed (row_at by_name es)
    named = subst AreNamed (sym same_rows) (picked_rows-named (reel_row H) (map pick_of takes) (rows-named H))

-- ---- a change

module _ (rules : Rules) (H : History) (s : Stamped) (change : Change) (is : IsChange rules H s change) where
  minute-is : change.minute ≡ effective_minute H s.minute
  minute-is = ap (λ (c : Change). c.minute) is.value

  takes-are : change.takes ≡ takes_by H (effective_minute H s.minute) s.command
  takes-are = ap (λ (c : Change). c.takes) is.value

  module _ (judged : IsJudged rules H) (range : IsStamped s) (in_range : IsMinute change.minute) where
    next-judged : IsJudged Two (accept H s)
    next-judged = (entry-next rules H s range (subst IsMinute minute-is in_range) is.accepted, judged-by-two rules H judged)

    pub change-fits : length H + 1 ≤ MOST_ENTRIES → ArePiecesFitting H (map pick_of change.takes)
    change-fits few =
        subst (ArePiecesFitting H) (sym (ap (map pick_of) takes-are ∙ picks-again H (effective_minute H s.minute) (picks_of H s.command))) (pieces-fit H (entry_of H s) next-judged few)

    module _ (number : ℕ) (edits : List RowEdit) (are : AreEditsOf H number change.minute change.takes s.command edits) where
      are-edits : AreEditsOf H number (effective_minute H s.minute) (takes_by H (effective_minute H s.minute) s.command) s.command edits
      are-edits =
          subst (λ ts. AreEditsOf H number (effective_minute H s.minute) ts s.command edits) takes-are (
          subst (λ m. AreEditsOf H number m change.takes s.command edits) minute-is are)

      pub rows-lead : number ≡ length H + 1 → with_edits edits (tables_of H) ≡ tables_of (accept H s)
      rows-lead next =
          edits-lead H (entry_of H s) number edits next-judged are-edits next

      pub rows-same : unnumbered (with_edits edits (tables_of H)) ≡ unnumbered (tables_of (accept H s))
      rows-same = edits-lead-same H (entry_of H s) number edits next-judged are-edits

      pub rows-new : number ≡ length H + 1 → AreNew edits (tables_of H)
      rows-new next =
          (edits-fit H (entry_of H s) number (placement_row H) edits next-judged (λ k. unplaced-later H number k (judged-by-two rules H judged) (omega (arith, next))) are-edits).new

      -- Whatever the number, its pieces are new in tables without placements.
      pub rows-fit : AreTakesFirst edits × AreBalanced edits
      rows-fit = let is_fit = edits-fit H (entry_of H s) number (λ n k. None) edits next-judged (λ k. refl) are-edits in (is_fit.takes_first, is_fit.balanced)
