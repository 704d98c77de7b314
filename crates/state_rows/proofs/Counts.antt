-- The tables after a count.
use Rattle.desk_types.proofs.Common.{[], ◌++◌, ◌+◌, ◌-◌, ◌==◌, ◌||◌, ◌∙◌, ◌∷◌, ◌≡◌, ap, arith, Bool}
use Rattle.desk_types.proofs.Common.{columns_of, command_refusal, count_picks, counts_refusal, false, filter}
use Rattle.desk_types.proofs.Common.{find, found_by, found_of, found_row, History, if◌then◌else◌, is_placed}
use Rattle.desk_types.proofs.Common.{IsJudged, left_of, List, list_any, list_any-append, ltb-false, ltb-true}
use Rattle.desk_types.proofs.Common.{Name, nat_lt, ne_eqb, None, Option, option_map, option_map_or, picks_of}
use Rattle.desk_types.proofs.Common.{pieces_off, pieces_picked, receipt_of, reel_row, reel_view, refl, same}
use Rattle.desk_types.proofs.Common.{same-refl, same-true, Some, sym, Tables, tables_of, true, unwrap_or}
use Rattle.desk_types.proofs.Common.{view_of, with_edits, ℕ}
use Rattle.desk_laws.proofs.Common.{Counted, CountRow, CountsTaken, Pick, Receipt, ReelRow, ReelView, Two}
use Rattle.desk_laws.proofs.{Balance.unreceived-empty, InstalledPieces.AreUnplaced}
use Rattle.desk_laws.proofs.{InstalledPieces.unplaced-count, Mounted.left_after, Picks.countable}
use Rattle.desk_laws.proofs.{Picks.counted, Picks.find-passes, Picks.IsCounted, Totals.pieces_picked-split}
use Rattle.desk_types.specs.declared.edit.RowEdit.TheVariants.{PutFound, PutReel}
use Rattle.state_rows.proofs.{EditLists.with_edits-append, ReelRows.found-kept, ReelRows.same-rows}
use Rattle.state_rows.proofs.{TablesLess.none-step, TablesLess.OnlyTakes, TablesLess.unpicked}
use Rattle.state_rows.specs.{After.found_after, After.placed_in, After.reel_after, After.scrapped_in}
use Rattle.state_rows.specs.{After.step_row, EditsOf.count_edits, EditsOf.counted_edits, EditsOf.counted_row}
use Rattle.state_rows.specs.{EditsOf.is_picked}
use Rattle.std.proofs.Common.{flat_map}

abbrev row_of : List CountRow → Name → Option CountRow
row_of rows reel = find (λ (row : CountRow). same row.reel reel) rows

-- ---- edits, row by row

-- A reel's row after one element of a count, if the reel has this view.
abbrev reel_counted : ℕ → Option ReelView → Option ReelRow → Option ReelRow
reel_counted n None before = before
reel_counted n (Some view) before = Some (counted_row n (columns_of view))

abbrev found_counted : ℕ → Option ReelView → Option ℕ → Option ℕ
found_counted n None before = before
found_counted n (Some view) before = if nat_lt view.remaining n then Some (view.found + (n - view.remaining)) else before

-- The tables after a count: of each reel by its row.
abbrev after_counts : History → List CountRow → Tables → Tables
after_counts H rows t = record t {
  reels = λ r. option_map_or (λ (row : CountRow). reel_counted row.quantity (reel_view H row.reel) (t.reels r)) (row_of rows r) (t.reels r);
  found = λ r. option_map_or (λ (row : CountRow). found_counted row.quantity (reel_view H row.reel) (t.found r)) (row_of rows r) (t.found r);
}

view-named : (H : History) (reel : Name) (view : ReelView) → reel_view H reel ≡ Some view → view.reel ≡ reel
view-named H reel view is = by (receipt_of H reel) is
  where
    by : (said : Option Receipt) → option_map (view_of H reel) said ≡ Some view → view.reel ≡ reel
    by None is = cc
    by (Some receipt) is = sym (ap (λ o. option_map_or (λ (x : ReelView). x.reel) o []) is)

row-edited : (H : History) (row : CountRow) (t : Tables)
    → with_edits (count_edits H row) t
    ≡ record t {
      reels = λ r. if same row.reel r then reel_counted row.quantity (reel_view H row.reel) (t.reels r) else t.reels r;
      found = λ r. if same row.reel r then found_counted row.quantity (reel_view H row.reel) (t.found r) else t.found r;
    }
row-edited H row t = by (reel_view H row.reel) (view-named H row.reel)
  where
    n : ℕ
    n = row.quantity

    stays : {X : Type 0} (b : Bool) (x : X) → x ≡ (if b then x else x)
    stays true x = refl
    stays false x = refl

    by : (view : Option ReelView) → ((v : ReelView) → view ≡ Some v → v.reel ≡ row.reel)
        → with_edits (counted_edits n view) t
        ≡ record t {
          reels = λ r. if same row.reel r then reel_counted n view (t.reels r) else t.reels r;
          found = λ r. if same row.reel r then found_counted n view (t.found r) else t.found r;
        }
    by None of = λ j. record t { reels = λ r. stays (same row.reel r) (t.reels r) j; found = λ r. stays (same row.reel r) (t.found r) j }
    by (Some view) of = more (nat_lt view.remaining n)
      where
        named : view.reel ≡ row.reel
        named = of view refl

        more : (b : Bool)
            → with_edits (PutReel (counted_row n (columns_of view)) ∷ (if b then PutFound view.reel (view.found + (n - view.remaining)) ∷ [] else [])) t
            ≡ record t {
              reels = λ r. if same row.reel r then Some (counted_row n (columns_of view)) else t.reels r;
              found = λ r. if same row.reel r then (if b then Some (view.found + (n - view.remaining)) else t.found r) else t.found r;
            }
        more true = λ j. record t {
          reels = λ r. if same (named j) r then Some (counted_row n (columns_of view)) else t.reels r;
          found = λ r. if same (named j) r then Some (view.found + (n - view.remaining)) else t.found r;
        }
        more false =
            λ j. record t { reels = λ r. if same (named j) r then Some (counted_row n (columns_of view)) else t.reels r; found = λ r. stays (same row.reel r) (t.found r) j }

once-counted : (H : History) (seen : List Name) (rows : List CountRow) (reel : Name) → counts_refusal Two H seen rows ≡ None → list_any (same reel) seen ≡ true
    → row_of rows reel ≡ None
once-counted H seen [] reel none before = refl
once-counted H seen (row ∷ rows) reel none before =
    by (same row.reel reel) refl
    (once-counted H (seen ++ row.reel ∷ []) rows reel (countable H seen row rows none).1
    (list_any-append (same reel) seen (row.reel ∷ []) ∙ ap (λ b. b || list_any (same reel) (row.reel ∷ [])) before))
  where
    by : (b : Bool) → same row.reel reel ≡ b → row_of rows reel ≡ None → (if b then Some row else row_of rows reel) ≡ None
    by true here rest = let one = same-true row.reel reel here in let once = (countable H seen row rows none).0.once in cc
    by false here rest = rest

counts-edited : (H : History) (seen : List Name) (rows : List CountRow) (t : Tables) → counts_refusal Two H seen rows ≡ None
    → with_edits (flat_map (count_edits H) rows) t ≡ after_counts H rows t
counts-edited H seen [] t none = refl
counts-edited H seen (row ∷ rows) t none =
    with_edits-append (count_edits H row) (flat_map (count_edits H) rows) t
    ∙ ap (with_edits (flat_map (count_edits H) rows)) (row-edited H row t)
    ∙ counts-edited H (seen ++ row.reel ∷ []) rows _ (countable H seen row rows none).1
    ∙ (λ j. record t {
      reels = λ r. step (λ c x. reel_counted c.quantity (reel_view H c.reel) x) r (t.reels r) (same row.reel r) refl j;
      found = λ r. step (λ c x. found_counted c.quantity (reel_view H c.reel) x) r (t.found r) (same row.reel r) refl j;
    })
  where
    last : (b : Bool) → (b || (same row.reel row.reel || false)) ≡ true
    last true = refl
    last false = ap (λ c. c || false) (same-refl row.reel)

    absent : (r : Name) → same row.reel r ≡ true → row_of rows r ≡ None
    absent r here =
        ap (row_of rows) (sym (same-true row.reel r here))
        ∙ once-counted H (seen ++ row.reel ∷ []) rows row.reel (countable H seen row rows none).1
        (list_any-append (same row.reel) seen (row.reel ∷ []) ∙ last (list_any (same row.reel) seen))

    step : {X : Type 0} (change : CountRow → X → X) (r : Name) (x : X) (b : Bool) → same row.reel r ≡ b
        → option_map_or (λ c. change c (if b then change row x else x)) (row_of rows r) (if b then change row x else x)
        ≡ option_map_or (λ c. change c x) (if b then Some row else row_of rows r) x
    step change r x true here = ap (λ o. option_map_or (λ c. change c (change row x)) o (change row x)) (absent r here)
    step change r x false here = refl

-- ---- their effect

uncounted : (pieces : Name → ℕ) (rows : List CountRow) (reel : Name) → row_of rows reel ≡ None → is_picked (count_picks pieces rows) reel ≡ false
uncounted pieces [] reel none = refl
uncounted pieces (row ∷ rows) reel none = by (same row.reel reel) refl none (uncounted pieces rows reel)
  where
    off : (b : Bool) → same row.reel reel ≡ false
        → is_picked (if b then record { reel = row.reel; quantity = pieces row.reel - row.quantity; purpose = Counted } ∷ [] else []) reel ≡ false
    off true here = ap (λ c. c || false) here
    off false here = refl

    by : (b : Bool) → same row.reel reel ≡ b → (if b then Some row else row_of rows reel) ≡ None → (row_of rows reel ≡ None → is_picked (count_picks pieces rows) reel ≡ false)
        → is_picked (count_picks pieces (row ∷ rows)) reel ≡ false
    by true here none rest = cc
    by false here none rest =
        list_any-append (λ (p : Pick). same p.reel reel) (pieces_off row.reel (pieces row.reel - row.quantity) Counted) (count_picks pieces rows)
        ∙ ap (λ c. c || is_picked (count_picks pieces rows) reel) (off (nat_lt 0 (pieces row.reel - row.quantity)) here)
        ∙ rest none

pub uncounted-left : (H : History) (rows : List CountRow) (reel : Name) → row_of rows reel ≡ None → left_after H (CountsTaken rows) reel ≡ left_of H reel
uncounted-left H rows reel none =
    let nothing = unpicked (count_picks (left_of H) rows) reel (uncounted (left_of H) rows reel none) in
    ap (λ o. unwrap_or (option_map (λ (row : CountRow). row.quantity) o) (left_of H reel - pieces_picked (count_picks (left_of H) rows) reel)) none
    ∙ (let all : left_of H reel - pieces_picked (count_picks (left_of H) rows) reel ≡ left_of H reel = omega (arith, nothing) in all)

nothing-placed : (picks : List Pick) (reel : Name) → AreUnplaced picks → placed_in picks reel ≡ 0
nothing-placed [] reel all = refl
nothing-placed (p ∷ ps) reel (first, all) =
    ap (λ b. pieces_picked (if b then p ∷ filter (λ (x : Pick). is_placed x.purpose) ps else filter (λ (x : Pick). is_placed x.purpose) ps) reel) first ∙ nothing-placed ps reel all

-- The row of a reel after the count.
module _ (H : History) (minute : ℕ) (rows : List CountRow) (judged : IsJudged Two H) (accepted : counts_refusal Two H [] rows ≡ None) (r : Name) where
  abbrev picks : List Pick
  picks = count_picks (left_of H) rows

  by-reel : {X : Type 0} (change : ℕ → Option ReelView → X) (x : X)
      → option_map_or (λ (row : CountRow). change row.quantity (reel_view H row.reel)) (row_of rows r) x ≡ option_map_or (λ (row : CountRow). change row.quantity (reel_view H r)) (row_of rows r) x
  by-reel change x = by (row_of rows r) refl
    where
      by : (row : Option CountRow) → row_of rows r ≡ row
          → option_map_or (λ (c : CountRow). change c.quantity (reel_view H c.reel)) row x ≡ option_map_or (λ (c : CountRow). change c.quantity (reel_view H r)) row x
      by None is = refl
      by (Some row) is = ap (λ k. change row.quantity (reel_view H k)) (same-true row.reel r (find-passes (λ (c : CountRow). same c.reel r) rows row is))

  step-counted : (row : CountRow) (before : ReelRow) → row_of rows r ≡ Some row → before.remaining ≡ left_of H r
      → counted_row row.quantity before ≡ step_row minute picks r (CountsTaken rows) before
  step-counted row before is left =
      same-rows _ _ refl refl refl refl refl
      (ap (λ o. before.received + option_map_or (λ (x : CountRow). x.quantity - before.remaining) o 0) (sym is))
      (omega (arith, unplaced))
      (omega (arith, split, unplaced, said.within, exact, left))
      (ap (λ o. unwrap_or (option_map (λ (x : CountRow). x.quantity) o) (before.remaining - pieces_picked picks r)) (sym is))
      refl refl refl
    where
      said : IsCounted H rows r
      said = counted H [] rows r accepted

      unplaced : placed_in picks r ≡ 0
      unplaced = nothing-placed picks r (unplaced-count (left_of H) rows)

      split : pieces_picked picks r ≡ placed_in picks r + scrapped_in picks r
      split = pieces_picked-split picks r

      exact : row.quantity ≡ left_of H r - pieces_picked picks r + (row.quantity - left_of H r)
      exact =
          ap (λ o. unwrap_or (option_map (λ (x : CountRow). x.quantity) o) (left_of H r - pieces_picked picks r)) (sym is)
          ∙ said.told
          ∙ ap (λ o. left_of H r - pieces_picked picks r + option_map_or (λ (x : CountRow). x.quantity - left_of H r) o 0) is

  reels-counted : option_map_or (λ (row : CountRow). reel_counted row.quantity (reel_view H row.reel) (reel_row H r)) (row_of rows r) (reel_row H r)
      ≡ option_map (step_row minute picks r (CountsTaken rows)) (reel_row H r)
  reels-counted = by-reel (λ n view. reel_counted n view (reel_row H r)) (reel_row H r) ∙ by (row_of rows r) refl (receipt_of H r)
    where
      only : row_of rows r ≡ None → OnlyTakes r (CountsTaken rows)
      only none = record {
        out = refl;
        baked = refl;
        told = ap (option_map (λ (row : CountRow). row.quantity)) none;
        finds = λ left. ap (λ o. option_map_or (λ (row : CountRow). row.quantity - left) o 0) none;
      }

      by : (row : Option CountRow) → row_of rows r ≡ row → (said : Option Receipt)
          → option_map_or (λ (c : CountRow). reel_counted c.quantity (option_map (view_of H r) said) (option_map columns_of (option_map (view_of H r) said))) row (option_map columns_of (option_map (view_of H r) said))
          ≡ option_map (step_row minute picks r (CountsTaken rows)) (option_map columns_of (option_map (view_of H r) said))
      by None is None = refl
      by (Some row) is None = refl
      by None is (Some receipt) = ap Some (none-step minute picks r (CountsTaken rows) (columns_of (view_of H r receipt)) (uncounted (left_of H) rows r is) (only is))
      by (Some row) is (Some receipt) = ap Some (step-counted row (columns_of (view_of H r receipt)) is refl)

  founds-counted : option_map_or (λ (row : CountRow). found_counted row.quantity (reel_view H row.reel) (found_row H r)) (row_of rows r) (found_row H r)
      ≡ found_after (left_of H r) r (CountsTaken rows) (found_row H r)
  founds-counted =
      by-reel (λ n view. found_counted n view (found_row H r)) (found_row H r)
      ∙ by (row_of rows r) refl (receipt_of H r) refl
      ∙ ap (λ n. some_of (n + found_by (left_of H r) r (CountsTaken rows))) (sym (found-kept H r))
    where
      some_of : ℕ → Option ℕ
      some_of n = if n == 0 then None else Some n

      none-more : (n : ℕ) → n ≡ 0 → found_row H r ≡ some_of (found_of H r + n)
      none-more n none = let all : found_of H r ≡ found_of H r + n = omega (arith, none) in ap some_of all

      found : ℕ → Option CountRow → ℕ
      found left o = option_map_or (λ (row : CountRow). row.quantity - left) o 0

      above : (row : CountRow) → row_of rows r ≡ Some row → (b : Bool) → nat_lt (left_of H r) row.quantity ≡ b
          → (if b then Some (found_of H r + (row.quantity - left_of H r)) else found_row H r) ≡ some_of (found_of H r + found (left_of H r) (row_of rows r))
      above row is true more =
          let lt = ltb-true _ _ more in
          sym (ap (λ b. if b then None else Some (found_of H r + (row.quantity - left_of H r))) (ne_eqb (found_of H r + (row.quantity - left_of H r)) 0 (λ none. omega (arith, none, lt))))
          ∙ ap (λ o. some_of (found_of H r + found (left_of H r) o)) (sym is)
      above row is false more = let le = ltb-false _ _ more in none-more _ (ap (found (left_of H r)) is ∙ (let none : row.quantity - left_of H r ≡ 0 = omega (arith, le) in none))

      by : (row : Option CountRow) → row_of rows r ≡ row → (said : Option Receipt) → receipt_of H r ≡ said
          → option_map_or (λ (c : CountRow). found_counted c.quantity (option_map (view_of H r) said) (found_row H r)) row (found_row H r)
          ≡ some_of (found_of H r + found_by (left_of H r) r (CountsTaken rows))
      by None is said got = none-more _ (ap (found (left_of H r)) is)
      by (Some row) is None got = none-more _ ((counted H [] rows r accepted).spent (unreceived-empty H r judged got))
      by (Some row) is (Some receipt) got = above row is (nat_lt (left_of H r) row.quantity) refl

-- The edits of an accepted count lead the reels and the found pieces to those after it. A mounted reel is not counted, so the slots stay.
pub counts-lead : (H : History) (minute : ℕ) (counts : List CountRow) → IsJudged Two H → command_refusal Two H minute (CountsTaken counts) ≡ None
    → with_edits (flat_map (count_edits H) counts) (tables_of H)
    ≡ record (tables_of H) {
      reels = λ r. reel_after minute (picks_of H (CountsTaken counts)) r (CountsTaken counts) (reel_row H r);
      found = λ r. found_after (left_of H r) r (CountsTaken counts) (found_row H r);
    }
unfolding command_refusal
counts-lead H minute counts judged accepted =
    counts-edited H [] counts (tables_of H) accepted
    ∙ (λ j. record (tables_of H) { reels = λ r. reels-counted H minute counts judged accepted r j; found = λ r. founds-counted H minute counts judged accepted r j })
