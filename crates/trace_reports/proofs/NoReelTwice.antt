-- A kit names no reel twice.
use Rattle.desk_types.proofs.Common.{[], ◌++◌, ◌-◌, ◌∙◌, ◌∷◌, ◌≡◌, AllByRecursion, ap, append-nil, arith}
use Rattle.desk_types.proofs.Common.{Bool, by_turn, cond, cons_option, Equal, false, filter, filter_map}
use Rattle.desk_types.proofs.Common.{filter_map-append, free_reels, Greater, History, if◌then◌else◌, in_order}
use Rattle.desk_types.proofs.Common.{insert_key, is_free, is_some, IsDistinct, IsJudged, Less, List}
use Rattle.desk_types.proofs.Common.{list_any-append, map, map-append, match_ordering, Name, nat_lt, None}
use Rattle.desk_types.proofs.Common.{not, Option, option_map, or_parts, Ordering, receipt_by, receipt_of}
use Rattle.desk_types.proofs.Common.{received_by, reel_view, reels_received, refl, same, same-refl, same-sym}
use Rattle.desk_types.proofs.Common.{Some, subst, suc, sym, true, view_of, zero, ℕ}
use Rattle.desk_laws.proofs.Common.{Command, Receipt, ReelReceived, ReelView, SheetRow, Two}
use Rattle.desk_laws.proofs.{Accepted.received-once, Distinct.all-append, Distinct.distinct-filter}
use Rattle.desk_laws.proofs.{Distinct.distinct-join, Judgements.or-none}
use Rattle.setup_sheets.specs.Names.{is_among}
use Rattle.trace_reports.proofs.Prefixes.{enough-next, enough-nil, enough-zero}
use Rattle.trace_reports.specs.{Kit.enough, Kit.kit_rows, Kit.needed_by, Kit.pieces_of_reels, Kit.reel_in}
use Rattle.trace_reports.specs.{Kit.reel_row, Kit.reels_for, Kit.reels_in, Kit.rows_for, Kit.short_row}
use Rattle.trace_reports.specs.{Kit.still_free, declared.kit.KitRow.KitRow}

abbrev name_of : ReelView → Name
name_of r = r.reel

-- ---- received reels

not-received : (H : History) (reel : Name) → receipt_of H reel ≡ None → AllByRecursion (λ y. same reel y ≡ false) (reels_received H)
not-received [] reel none = tt
not-received (e ∷ H) reel none =
    let both = or-none (receipt_by reel e.effective e.stamped.command) (receipt_of H reel) none in
    by e.stamped.command both.0 (not-received H reel both.1)
  where
    other : (b : Bool) (receipt : Receipt) → (if b then Some receipt else None) ≡ None → b ≡ false
    other true receipt none = cc
    other false receipt none = refl

    by : (command : Command) → receipt_by reel e.effective command ≡ None → AllByRecursion (λ y. same reel y ≡ false) (reels_received H)
        → AllByRecursion (λ y. same reel y ≡ false) (cons_option (received_by command) (reels_received H))
    by (ReelReceived x part lot moisture quantity) none rest =
        (same-sym reel x ∙ other (same x reel) (record { part = part; lot = lot; moisture = moisture; quantity = quantity; effective = e.effective }) none, rest)
    by _ none rest = rest

received-distinct : (H : History) → IsJudged Two H → IsDistinct same (reels_received H)
unfolding IsDistinct
received-distinct [] judged = tt
received-distinct (e ∷ H) (next, judged) = by e.stamped.command refl (received-distinct H judged)
  where
    by : (command : Command) → e.stamped.command ≡ command → IsDistinct same (reels_received H) → IsDistinct same (cons_option (received_by command) (reels_received H))
    by (ReelReceived x part lot moisture quantity) is rest =
        let receipt : Receipt = record { part = part; lot = lot; moisture = moisture; quantity = quantity; effective = e.effective } in
        let new = received-once H e x receipt next (ap (receipt_by x e.effective) is ∙ ap (λ b. if b then Some receipt else None) (same-refl x)) in
        (not-received H x new, rest)
    by _ is rest = rest

-- ---- in order

module _ (order : Name → Name → Ordering) where
  all-insert : (P : Name → Type 0) (ks : List Name) (k : Name) → P k → AllByRecursion P ks → AllByRecursion P (insert_key order ks k)
  all-insert P [] k new all = (new, tt)
  all-insert P (x ∷ xs) k new (first, all) = by (order k x) (all-insert P xs k new all)
    where
      by : (o : Ordering) → AllByRecursion P (insert_key order xs k) → AllByRecursion P (match_ordering o (k ∷ x ∷ xs) (x ∷ xs) (x ∷ insert_key order xs k))
      by Less rest = (new, (first, all))
      by Equal rest = (first, all)
      by Greater rest = (first, rest)

  distinct-insert : (ks : List Name) (k : Name) → AllByRecursion (λ y. same k y ≡ false) ks → IsDistinct same ks → IsDistinct same (insert_key order ks k)
  unfolding IsDistinct
  distinct-insert [] k others distinct = (tt, tt)
  distinct-insert (x ∷ xs) k (first, others) (apart, distinct) = by (order k x) (distinct-insert xs k others distinct)
    where
      by : (o : Ordering) → IsDistinct same (insert_key order xs k) → IsDistinct same (match_ordering o (k ∷ x ∷ xs) (x ∷ xs) (x ∷ insert_key order xs k))
      by Less rest = ((first, others), (apart, distinct))
      by Equal rest = (apart, distinct)
      by Greater rest = (all-insert (λ y. same x y ≡ false) xs k (same-sym x k ∙ first) apart, rest)

  all-order : (P : Name → Type 0) (xs : List Name) → AllByRecursion P xs → AllByRecursion P (in_order order xs)
  all-order P [] all = tt
  all-order P (x ∷ xs) (first, all) = all-insert P (in_order order xs) x first (all-order P xs all)

  distinct-order : (xs : List Name) → IsDistinct same xs → IsDistinct same (in_order order xs)
  unfolding IsDistinct
  distinct-order [] distinct = tt
  distinct-order (x ∷ xs) (apart, distinct) = distinct-insert (in_order order xs) x (all-order (λ y. same x y ≡ false) xs apart) (distinct-order xs distinct)

-- ---- free reels

names-told : (H : History) (xs : List Name) → map name_of (filter_map (reel_view H) xs) ≡ filter (λ x. is_some (receipt_of H x)) xs
names-told H [] = refl
names-told H (x ∷ xs) = by (receipt_of H x) (names-told H xs)
  where
    by : (said : Option Receipt) → map name_of (filter_map (reel_view H) xs) ≡ filter (λ y. is_some (receipt_of H y)) xs
        → map name_of (cons_option (option_map (view_of H x) said) (filter_map (reel_view H) xs))
        ≡ cond (is_some said) (x ∷ filter (λ y. is_some (receipt_of H y)) xs) (filter (λ y. is_some (receipt_of H y)) xs)
    by None rest = rest
    by (Some receipt) rest = ap (λ l. x ∷ l) rest

names-pass : (test : Name → Bool) (reels : List ReelView) → map name_of (filter (λ (r : ReelView). test r.reel) reels) ≡ filter test (map name_of reels)
names-pass test [] = refl
names-pass test (r ∷ reels) = by (test r.reel) (names-pass test reels)
  where
    by : (b : Bool) → map name_of (filter (λ (s : ReelView). test s.reel) reels) ≡ filter test (map name_of reels)
        → map name_of (cond b (r ∷ filter (λ (s : ReelView). test s.reel) reels) (filter (λ (s : ReelView). test s.reel) reels))
        ≡ cond b (r.reel ∷ filter test (map name_of reels)) (filter test (map name_of reels))
    by true rest = ap (λ l. r.reel ∷ l) rest
    by false rest = rest

passed : (given names : List Name) → AllByRecursion (λ y. is_among given y ≡ false) (filter (λ y. not (is_among given y)) names)
passed given [] = tt
passed given (x ∷ names) = by (is_among given x) refl (passed given names)
  where
    by : (b : Bool) → is_among given x ≡ b → AllByRecursion (λ y. is_among given y ≡ false) (filter (λ y. not (is_among given y)) names)
        → AllByRecursion (λ y. is_among given y ≡ false) (cond (not b) (x ∷ filter (λ y. not (is_among given y)) names) (filter (λ y. not (is_among given y)) names))
    by true is rest = rest
    by false is rest = (is, rest)

-- The names are distinct, and none was given before.
pub record IsNewTo (given names : List Name) : Type 0 where
  pub once : IsDistinct same names
  pub new : AllByRecursion (λ y. is_among given y ≡ false) names

free-new : (H : History) (given : List Name) (part : Name) → IsJudged Two H → IsNewTo given (map name_of (still_free H given part))
free-new H given part judged =
    let received = distinct-filter same (is_free H part) (reels_received H) (received-distinct H judged) in
    let ordered = in_order (by_turn H) (filter (is_free H part) (reels_received H)) in
    let told = distinct-filter same (λ x. is_some (receipt_of H x)) ordered (distinct-order (by_turn H) (filter (is_free H part) (reels_received H)) received) in
    let free : IsDistinct same (map name_of (free_reels H part)) = subst (IsDistinct same) (sym (names-told H ordered)) told in
    subst (IsNewTo given) (sym (names-pass (λ y. not (is_among given y)) (free_reels H part)))
    (record {
      once = distinct-filter same (λ y. not (is_among given y)) (map name_of (free_reels H part)) free;
      new = passed given (map name_of (free_reels H part));
    })

-- ---- a prefix

enough-prefix : (needed : ℕ) (reels : List ReelView) → (rest : List ReelView) × (enough needed reels ++ rest ≡ reels)
enough-prefix needed [] = ([], append-nil (enough needed []) ∙ enough-nil needed)
enough-prefix zero (r ∷ reels) = (r ∷ reels, ap (λ l. l ++ r ∷ reels) (enough-zero (r ∷ reels)))
enough-prefix (suc n) (r ∷ reels) =
    let more = enough-prefix (suc n - r.remaining) reels in
    (more.0, ap (λ l. l ++ more.0) (enough-next (suc n) r reels (omega arith)) ∙ ap (λ l. r ∷ l) more.1)

all-front : (P : Name → Type 0) (xs ys : List Name) → AllByRecursion P (xs ++ ys) → AllByRecursion P xs
all-front P [] ys all = tt
all-front P (x ∷ xs) ys (first, all) = (first, all-front P xs ys all)

distinct-front : (xs ys : List Name) → IsDistinct same (xs ++ ys) → IsDistinct same xs
unfolding IsDistinct
distinct-front [] ys distinct = tt
distinct-front (x ∷ xs) ys (apart, distinct) = (all-front (λ y. same x y ≡ false) xs ys apart, distinct-front xs ys distinct)

gets-new : (H : History) (boards : ℕ) (given : List Name) (row : SheetRow) → IsJudged Two H → IsNewTo given (map name_of (reels_for H boards given row))
gets-new H boards given row judged =
    let gets = map name_of (reels_for H boards given row) in
    let front = enough-prefix (needed_by boards row) (still_free H given row.part) in
    let all = subst (IsNewTo given) (sym (ap (map name_of) front.1) ∙ map-append name_of (reels_for H boards given row) front.0) (free-new H given row.part judged) in
    record {
      once = distinct-front gets (map name_of front.0) all.once;
      new = all-front (λ y. is_among given y ≡ false) gets (map name_of front.0) all.new;
    }

-- ---- the kit

reels-named : (row : SheetRow) (needed : ℕ) (reels : List ReelView) → reels_in (map (reel_row row needed) reels) ≡ map name_of reels
reels-named row needed [] = refl
reels-named row needed (r ∷ reels) = ap (λ l. r.reel ∷ l) (reels-named row needed reels)

short-named : (b : Bool) (row : SheetRow) (needed missing : ℕ) → reels_in (if b then short_row row needed missing ∷ [] else []) ≡ []
short-named true row needed missing = refl
short-named false row needed missing = refl

reels-append : (xs ys : List KitRow) → reels_in (xs ++ ys) ≡ reels_in xs ++ reels_in ys
reels-append xs ys = filter_map-append (λ (row : KitRow). reel_in row.supply) xs ys

row-names : (row : SheetRow) (needed : ℕ) (reels : List ReelView) (others : List KitRow) → reels_in (rows_for row needed reels ++ others) ≡ map name_of reels ++ reels_in others
row-names row needed reels others =
    let brought : List KitRow = map (reel_row row needed) reels in
    let missing : List KitRow = if nat_lt (pieces_of_reels reels) needed then short_row row needed (needed - pieces_of_reels reels) ∷ [] else [] in
    reels-append (rows_for row needed reels) others
    ∙ ap (λ l. l ++ reels_in others)
    (reels-append brought missing
    ∙ ap (λ l. l ++ reels_in missing) (reels-named row needed reels)
    ∙ ap (λ l. map name_of reels ++ l) (short-named (nat_lt (pieces_of_reels reels) needed) row needed (needed - pieces_of_reels reels))
    ∙ append-nil (map name_of reels))

neither : (given more ys : List Name) → AllByRecursion (λ y. is_among (given ++ more) y ≡ false) ys
    → AllByRecursion (λ y. is_among given y ≡ false) ys × AllByRecursion (λ y. is_among more y ≡ false) ys
neither given more [] all = (tt, tt)
neither given more (y ∷ ys) (first, all) =
    let both = or_parts (is_among given y) (is_among more y) (sym (list_any-append (same y) given more) ∙ first) in
    let rest = neither given more ys all in
    ((both.0, rest.0), (both.1, rest.1))

kit-new : (H : History) (boards : ℕ) (given : List Name) (sheet : List SheetRow) → IsJudged Two H → IsNewTo given (reels_in (kit_rows H boards given sheet))
unfolding kit_rows IsDistinct
kit-new H boards given [] judged = record { once = tt; new = tt }
kit-new H boards given (row ∷ sheet) judged =
    let gets = reels_for H boards given row in
    let here = map name_of gets in
    let others = kit_rows H boards (given ++ here) sheet in
    let first = gets-new H boards given row judged in
    let rest = kit-new H boards (given ++ here) sheet judged in
    let apart = neither given here (reels_in others) rest.new in
    subst (IsNewTo given) (sym (row-names row (needed_by boards row) gets others))
    (record {
      once = distinct-join same same-sym here (reels_in others) first.once rest.once apart.1;
      new = all-append (λ y. is_among given y ≡ false) here (reels_in others) first.new apart.0;
    })

pub kit-once : (H : History) (boards : ℕ) (sheet : List SheetRow) → IsJudged Two H → IsDistinct same (reels_in (kit_rows H boards [] sheet))
kit-once H boards sheet judged = (kit-new H boards [] sheet judged).once
