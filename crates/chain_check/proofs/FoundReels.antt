-- What the rows name is what is asked of each placed piece.
use Rattle.desk_types.proofs.Common.{[], ◌&&◌, ◌++◌, ◌||◌, ◌↔◌, ◌∙◌, ◌∷◌, ◌≡◌, AllByRecursion, ap, Bool}
use Rattle.desk_types.proofs.Common.{append_assoc, cons_option, Contains, false, filter, flat_map, History}
use Rattle.desk_types.proofs.Common.{if◌then◌else◌, is_some, IsJudged, IsPrefix, List, list_any, list_any-append}
use Rattle.desk_types.proofs.Common.{map, Name, None, Option, option_map, placements_of, receipt_of, ℕ}
use Rattle.desk_types.proofs.Common.{recursion_from_All, refl, same, same-refl, same-true, set_of, Some, sym, true}
use Rattle.desk_laws.proofs.Common.{DeskFile, IsChain, IsRightlyPlaced, judged-by-two, Placement, Receipt, Two}
use Rattle.chain_check.specs.Rows.{first_field, is_of, lots_among, lots_received, name_of, named_over, names_of, pieces_of}
use Rattle.chain_check.specs.Rows.{reels_pieces, rows_over}
use Rattle.chain_check.specs.declared.question.Question.TheVariants.{Names}
use Rattle.chain_check.specs.declared.question.Subject.{Subject}
use Rattle.chain_check.specs.declared.question.Subject.TheVariants.{Board, Lot, Reels}
use Rattle.chain_check.proofs.FoundBoards.{has-over, names-in, names-over}
use Rattle.desk_laws.proofs.{InstalledPieces.rightly-placed, Mounts.from-has, Mounts.has, Mounts.has-from}
use Rattle.desk_laws.proofs.{NameSets.all-weaker, NameSets.has-set, ReelsLater.receipt-prefix}

-- ---- tests of lists

any-mapped : {X Y : Type 0} (f : X → Y) (t : Y → Bool) (xs : List X)
    → list_any t (map f xs) ≡ list_any (λ x. t (f x)) xs
any-mapped f t [] = refl
any-mapped f t (x ∷ xs) = ap (λ b. t (f x) || b) (any-mapped f t xs)

any-none : {X : Type 0} (xs : List X) → list_any (λ x. false) xs ≡ false
any-none [] = refl
any-none (x ∷ xs) = any-none xs

any-kept : {X : Type 0} (q t : X → Bool) (xs : List X) → list_any t (filter q xs) ≡ list_any (λ x. q x && t x) xs
any-kept q t [] = refl
any-kept q t (x ∷ xs) = by (q x) (any-kept q t xs)
  where
    by : (b : Bool) → list_any t (filter q xs) ≡ list_any (λ x. q x && t x) xs
        → list_any t (if b then x ∷ filter q xs else filter q xs) ≡ ((b && t x) || list_any (λ x. q x && t x) xs)
    by true rest = ap (λ b. t x || b) rest
    by false rest = rest

-- ---- pieces lot by lot

module _ (q t : Placement → Bool) where
  abbrev of-lot : List Placement → Name → List Placement
  of-lot ps lot = filter q (filter (λ p. same p.lot lot) ps)

  abbrev passes : List Name → Placement → Bool
  passes lots p = has lots p.lot && (q p && t p)

  any-or : (lot : Name) (lots : List Name) (ps : List Placement) → list_any (passes (lot ∷ lots)) ps
      ≡ (list_any (λ p. same p.lot lot && (q p && t p)) ps || list_any (passes lots) ps)
  any-or lot lots [] = refl
  any-or lot lots (p ∷ ps) = by (same p.lot lot) (has lots p.lot) (q p && t p) _ _ _ (any-or lot lots ps)
    where
      by : (a b c x y z : Bool) → z ≡ (x || y) → (((a || b) && c) || z) ≡ (((a && c) || x) || ((b && c) || y))
      by true true true x y z is = refl
      by true false true x y z is = refl
      by false true true true y z is = refl
      by false true true false y z is = refl
      by false false true x y z is = is
      by true true false x y z is = is
      by true false false x y z is = is
      by false true false x y z is = is
      by false false false x y z is = is

  any-lots : (lots : List Name) (ps : List Placement)
      → list_any t (flat_map (of-lot ps) lots) ≡ list_any (passes lots) ps
  any-lots [] ps = sym (any-none ps)
  any-lots (lot ∷ lots) ps =
      list_any-append t (of-lot ps lot) (flat_map (of-lot ps) lots)
      ∙ ap (λ b. b || list_any t (flat_map (of-lot ps) lots))
      (any-kept q t (filter (λ p. same p.lot lot) ps) ∙ any-kept (λ p. same p.lot lot) (λ p. q p && t p) ps)
      ∙ ap (λ b. list_any (λ p. same p.lot lot && (q p && t p)) ps || b) (any-lots lots ps)
      ∙ sym (any-or lot lots ps)

  all-lots : (lots : List Name) (ps : List Placement)
      → AllByRecursion (λ p. q p ≡ true → has lots p.lot ≡ true) ps
      → list_any (passes lots) ps ≡ list_any (λ p. q p && t p) ps
  all-lots lots [] all = refl
  all-lots lots (p ∷ ps) (first, all) = by (q p) (has lots p.lot) first (all-lots lots ps all)
    where
      by : (a b : Bool) → (a ≡ true → b ≡ true) → list_any (passes lots) ps ≡ list_any (λ p. q p && t p) ps
          → ((b && (a && t p)) || list_any (passes lots) ps) ≡ ((a && t p) || list_any (λ p. q p && t p) ps)
      by true true said rest = ap (λ b. t p || b) rest
      by true false said rest = let no = said refl in cc
      by false true said rest = rest
      by false false said rest = rest

-- ---- the lots of reels

abbrev lot-in : History → Name → Option Name
lot-in H reel = option_map (λ (r : Receipt). r.lot) (receipt_of H reel)

-- A placed piece has the lot of its reel.
its-lot : (H : History) → IsJudged Two H → (p : Placement) → IsRightlyPlaced H p
    → lot-in H p.reel ≡ Some p.lot
its-lot H judged p right =
    let earlier = right.accepted.0 ++ right.entry ∷ [] in
    let joined = right.accepted.1 ∙ sym (append_assoc right.accepted.0 (right.entry ∷ []) right.before) in
    let before : IsPrefix right.before H = (earlier, joined) in
    let kept = receipt-prefix right.before H p.reel before judged (ap is_some right.received) in
    ap (option_map (λ (r : Receipt). r.lot)) (kept ∙ right.received) ∙ (λ j. Some (sym right.lot j))

has-lot : (H : History) (reel lot : Name) (reels : List Name) → lot-in H reel ≡ Some lot
    → list_any (same reel) reels ≡ true → has (lots_received reels H) lot ≡ true
has-lot H reel lot [] is there = there
has-lot H reel lot (r ∷ reels) is there =
    by (same reel r) (lot-in H r) refl refl there (has-lot H reel lot reels is)
  where
    one : same reel r ≡ true → Some lot ≡ lot-in H r
    one its = sym is ∙ ap (lot-in H) (same-true reel r its)

    by : (b : Bool) (o : Option Name) → same reel r ≡ b → lot-in H r ≡ o
        → (b || list_any (same reel) reels) ≡ true
        → (list_any (same reel) reels ≡ true → has (lots_received reels H) lot ≡ true)
        → has (cons_option o (lots_received reels H)) lot ≡ true
    by true None its lots there rest = let no : Some lot ≡ None = one its ∙ lots in cc
    by true (Some other) its lots there rest =
        let both : Some lot ≡ Some other = one its ∙ lots in
        let same-lot : lot ≡ other = cc in
        ap (λ b. b || list_any (same lot) (lots_received reels H)) (ap (same lot) (sym same-lot) ∙ same-refl lot)
    by false None its lots there rest = rest there
    by false (Some other) its lots there rest = ap (λ b. same lot other || b) (rest there) ∙ or-true (same lot other)
      where
        or-true : (b : Bool) → (b || true) ≡ true
        or-true true = refl
        or-true false = refl

in-lots : (H : History) (reels : List Name) → IsJudged Two H → (p : Placement) → IsRightlyPlaced H p
    → is_of (Reels reels) p ≡ true → has (lots_among reels H) p.lot ≡ true
in-lots H reels judged p right its =
    has-set (lots_received reels H) p.lot ∙ has-lot H p.reel p.lot reels (its-lot H judged p right) its

pub any-of-reels : (H : History) (reels : List Name) (t : Placement → Bool) → IsJudged Two H
    → list_any t (reels_pieces reels H) ≡ list_any t (filter (is_of (Reels reels)) (placements_of H))
any-of-reels H reels t judged =
    let q = is_of (Reels reels) in
    let placed = placements_of H in
    let right = recursion_from_All (IsRightlyPlaced H) placed (rightly-placed H judged) in
    any-lots q t (lots_among reels H) placed
    ∙ all-lots q t (lots_among reels H) placed
    (all-weaker (IsRightlyPlaced H) _ (in-lots H reels judged) placed right)
    ∙ sym (any-kept q t placed)

-- ---- the names of a file

abbrev asked-in : Subject → History → List Name
asked-in subject H = map (name_of subject) (filter (is_of subject) (placements_of H))

has-names : (subject : Subject) (H : History) (name : Name) → IsJudged Two H
    → has (names_of subject (pieces_of subject H)) name ≡ has (asked-in subject H) name
has-names (Lot lot part) H name judged = has-set (asked-in (Lot lot part) H) name
has-names (Board board) H name judged = has-set (asked-in (Board board) H) name
has-names (Reels reels) H name judged =
    let subject = Reels reels in
    has-set (map (name_of subject) (reels_pieces reels H)) name
    ∙ any-mapped (name_of subject) (same name) (reels_pieces reels H)
    ∙ any-of-reels H reels (λ p. same name (name_of subject p)) judged
    ∙ sym (any-mapped (name_of subject) (same name) (filter (is_of subject) (placements_of H)))

has-all : (subject : Subject) (files : List DeskFile) (name : Name) → IsChain files
    → has (named_over subject files) name ≡ list_any (λ (f : DeskFile). has (names-in subject f) name) files
has-all subject [] name chain = refl
has-all subject (file ∷ older) name (by_rules, begins, follows, chain) =
    let older-has = has-all subject older name chain in
    let own = has-names subject file.whole name (judged-by-two file.rules file.whole by_rules) in
    list_any-append (same name) (asked-in subject file.whole) (named_over subject older)
    ∙ (λ j. sym own j || older-has j)

pub found-names : (subject : Subject) (files : List DeskFile) (paths : List (List ℕ)) (name : Name) → IsChain files
    → Contains (named_over subject files) name
    ↔ Contains (map first_field (rows_over (Names subject) paths files)) name
found-names subject files paths name chain =
    let of_files = named_over subject files in
    let of_rows = names-over subject paths files in
    let same-test = has-all subject files name chain ∙ sym (has-over subject paths files name) in (
      λ there. from-has of_rows name (sym same-test ∙ has-from of_files name there),
      λ there. from-has of_files name (same-test ∙ has-from of_rows name there),
    )
