-- Sets of records, and the records of pieces.
use Rattle.desk_types.proofs.Common.{[], ◌&&◌, ◌||◌, ◌↔◌, ◌∙◌, ◌∷◌, ◌≡◌, ap, ap₂, Bool, by_name, Contains}
use Rattle.desk_types.proofs.Common.{Contains-from_any, Equal, false, filter, Greater, if◌then◌else◌}
use Rattle.desk_types.proofs.Common.{insert_key, is_at-by_name, is_eq, Less, List, list_any}
use Rattle.desk_types.proofs.Common.{list_any-from_Contains, list_any-same, map, match_ordering, Name}
use Rattle.desk_types.proofs.Common.{nat_list_eq_equiv, Ordering, pointwise, refl, same, same-refl, same-sym}
use Rattle.desk_types.proofs.Common.{sym, true}
use Rattle.desk_laws.proofs.Common.{Placement, Three}
use Rattle.desk_types.proofs.Tests.{swap-or}
use Rattle.desk_types.specs.declared.trace_detail.TraceDetail.TheVariants.{One, Two}
use Rattle.std.proofs.{Math.Bool.or_self_left, lemmas.Bool.or_right as or-later}
use Rattle.std.specs.Cmp.Lexicographic.{bytes_decides, lists_equiv, lists_ties, pointwise_decides}
use Rattle.trace_reports.specs.{Sets.by_fields, Sets.Fields, Sets.set_of, Traces.board_rows, Traces.lot_rows}
use Rattle.trace_reports.specs.{Traces.pieces_of_lot, Traces.pieces_on}

-- ---- members

-- Whether two records are equal.
abbrev pub alike : Fields → Fields → Bool
alike = pointwise same

abbrev pub has : List Fields → Fields → Bool
has rows row = list_any (alike row) rows

tied : (a b : Fields) → by_fields a b ≡ Equal → a ≡ b
tied a b is = (pointwise_decides bytes_decides a b).0 (lists_ties by_name (λ x y. sym (is_at-by_name x y)) a b ∙ ap is_eq is)

has-insert : (rows : List Fields) (row other : Fields) → has (insert_key by_fields rows row) other ≡ (alike other row || has rows other)
has-insert [] row other = refl
has-insert (x ∷ xs) row other = by (by_fields row x) refl (has-insert xs row other)
  where
    by : (o : Ordering) → by_fields row x ≡ o → has (insert_key by_fields xs row) other ≡ (alike other row || has xs other)
        → has (match_ordering o (row ∷ x ∷ xs) (x ∷ xs) (x ∷ insert_key by_fields xs row)) other ≡ (alike other row || (alike other x || has xs other))
    by Less o rest = refl
    by Equal o rest = sym (or_self_left (alike other x) (has xs other)) ∙ ap (λ y. alike other y || (alike other x || has xs other)) (sym (tied row x o))
    by Greater o rest = ap (λ b. alike other x || b) rest ∙ swap-or (alike other x) (alike other row) (has xs other)

has-set : (rows : List Fields) (other : Fields) → has (set_of rows) other ≡ has rows other
has-set [] other = refl
has-set (x ∷ xs) other = has-insert (set_of xs) x other ∙ ap (λ b. alike other x || b) (has-set xs other)

has-read : {X : Type 0} (read : X → Fields) (test : X → Bool) (xs : List X) (row : Fields)
    → has (map read (filter test xs)) row ≡ list_any (λ x. test x && alike row (read x)) xs
has-read read test [] row = refl
has-read read test (x ∷ xs) row = by (test x) (has-read read test xs row)
  where
    by : (b : Bool) → has (map read (filter test xs)) row ≡ list_any (λ y. test y && alike row (read y)) xs
        → has (map read (if b then x ∷ filter test xs else filter test xs)) row ≡ ((b && alike row (read x)) || list_any (λ y. test y && alike row (read y)) xs)
    by true rest = ap (λ b. alike row (read x) || b) rest
    by false rest = rest

row-of : (read : Placement → Fields) (test : Placement → Bool) (pieces : List Placement) (row : Fields)
    → has (set_of (map read (filter test pieces))) row ≡ list_any (λ p. test p && alike row (read p)) pieces
row-of read test pieces row = has-set _ row ∙ has-read read test pieces row

into : (rows : List Fields) (row : Fields) → Contains rows row → has rows row ≡ true
into rows row there = list_any-from_Contains (lists_equiv nat_list_eq_equiv) row rows there

from : (rows : List Fields) (row : Fields) → has rows row ≡ true → Contains rows row
from rows row there = Contains-from_any (λ x y. (pointwise_decides bytes_decides x y).0) row rows there

-- ---- board and lot traces

two : (a p l : Bool) → (a && (p && (l && true))) ≡ (l && (a && (p && true)))
two true true true = refl
two true true false = refl
two true false true = refl
two true false false = refl
two false p true = refl
two false p false = refl

pub parts-agree : (pieces : List Placement) (board part lot : Name) → has (board_rows Two (pieces_on board pieces)) (part ∷ lot ∷ []) ≡ has (lot_rows Two (pieces_of_lot lot pieces)) (board ∷ part ∷ [])
parts-agree pieces board part lot =
    row-of (λ (p : Placement). p.part ∷ p.lot ∷ []) (λ p. same p.board board) pieces (part ∷ lot ∷ [])
    ∙ list_any-same (λ (p : Placement). same p.board board && (same part p.part && (same lot p.lot && true))) (λ p. same p.lot lot && (same board p.board && (same part p.part && true)))
    (λ p. two (same p.board board) (same part p.part) (same lot p.lot) ∙ ap₂ (λ l b. l && (b && (same part p.part && true))) (same-sym lot p.lot) (same-sym p.board board)) pieces
    ∙ sym (row-of (λ (p : Placement). p.board ∷ p.part ∷ []) (λ p. same p.lot lot) pieces (board ∷ part ∷ []))

three : (a p l r : Bool) → (a && (p && (l && (r && true)))) ≡ (l && (a && (p && (r && true))))
three true true true r = refl
three true true false r = refl
three true false true r = refl
three true false false r = refl
three false p true r = refl
three false p false r = refl

pub reels-agree : (pieces : List Placement) (board part lot reel : Name) → has (board_rows Three (pieces_on board pieces)) (part ∷ lot ∷ reel ∷ []) ≡ has (lot_rows Three (pieces_of_lot lot pieces)) (board ∷ part ∷ reel ∷ [])
reels-agree pieces board part lot reel =
    row-of (λ (p : Placement). p.part ∷ p.lot ∷ p.reel ∷ []) (λ p. same p.board board) pieces (part ∷ lot ∷ reel ∷ [])
    ∙ list_any-same (λ (p : Placement). same p.board board && (same part p.part && (same lot p.lot && (same reel p.reel && true))))
    (λ p. same p.lot lot && (same board p.board && (same part p.part && (same reel p.reel && true))))
    (λ p. three (same p.board board) (same part p.part) (same lot p.lot) (same reel p.reel) ∙ ap₂ (λ l b. l && (b && (same part p.part && (same reel p.reel && true)))) (same-sym lot p.lot) (same-sym p.board board)) pieces
    ∙ sym (row-of (λ (p : Placement). p.board ∷ p.part ∷ p.reel ∷ []) (λ p. same p.lot lot) pieces (board ∷ part ∷ reel ∷ []))

pub parts-converse : (pieces : List Placement) (board part lot : Name)
    → Contains (board_rows Two (pieces_on board pieces)) (part ∷ lot ∷ []) ↔ Contains (lot_rows Two (pieces_of_lot lot pieces)) (board ∷ part ∷ [])
parts-converse pieces board part lot = (
  λ there. from _ _ (sym (parts-agree pieces board part lot) ∙ into _ _ there),
  λ there. from _ _ (parts-agree pieces board part lot ∙ into _ _ there),
)

pub reels-converse : (pieces : List Placement) (board part lot reel : Name)
    → Contains (board_rows Three (pieces_on board pieces)) (part ∷ lot ∷ reel ∷ []) ↔ Contains (lot_rows Three (pieces_of_lot lot pieces)) (board ∷ part ∷ reel ∷ [])
reels-converse pieces board part lot reel = (
  λ there. from _ _ (sym (reels-agree pieces board part lot reel) ∙ into _ _ there),
  λ there. from _ _ (reels-agree pieces board part lot reel ∙ into _ _ there),
)

lot-listed : (board lot part : Name) (pieces : List Placement)
    → list_any (λ (p : Placement). same p.board board && (same part p.part && (same lot p.lot && true))) pieces ≡ true
    → list_any (λ (p : Placement). same p.lot lot && (same board p.board && true)) pieces ≡ true
lot-listed board lot part [] there = there
lot-listed board lot part (p ∷ ps) there =
    by (same p.board board) (same part p.part) (same lot p.lot) (same p.lot lot) (same board p.board) (same-sym p.board board) (same-sym lot p.lot) there (lot-listed board lot part ps)
  where
    old : Bool
    old = list_any (λ (p : Placement). same p.board board && (same part p.part && (same lot p.lot && true))) ps

    new : Bool
    new = list_any (λ (p : Placement). same p.lot lot && (same board p.board && true)) ps

    by : (a b l q c : Bool) → a ≡ c → l ≡ q → ((a && (b && (l && true))) || old) ≡ true → (old ≡ true → new ≡ true) → ((q && (c && true)) || new) ≡ true
    by true b true true true e f is rest = refl
    by true b true q false e f is rest = cc
    by true b true false c e f is rest = cc
    by a b l true true e f is rest = refl
    by false b l q true e f is rest = cc
    by false b l true false e f is rest = rest is
    by false b l false false e f is rest = rest is
    by true true false false c e f is rest = rest is
    by true false false false c e f is rest = rest is
    by true b false true c e f is rest = cc

part-listed : (board lot : Name) (pieces : List Placement)
    → list_any (λ (p : Placement). same p.lot lot && (same board p.board && true)) pieces ≡ true
    → (part : Name) × (list_any (λ (p : Placement). same p.board board && (same part p.part && (same lot p.lot && true))) pieces ≡ true)
part-listed board lot [] there = ([], there)
part-listed board lot (p ∷ ps) there = by (same p.lot lot) (same board p.board) refl refl there (part-listed board lot ps)
  where
    by : (q c : Bool) → same p.lot lot ≡ q → same board p.board ≡ c → ((q && (c && true)) || list_any (λ (x : Placement). same x.lot lot && (same board x.board && true)) ps) ≡ true
        → (list_any (λ (x : Placement). same x.lot lot && (same board x.board && true)) ps ≡ true
        → (part : Name) × (list_any (λ (x : Placement). same x.board board && (same part x.part && (same lot x.lot && true))) ps ≡ true))
        → (part : Name) × (list_any (λ (x : Placement). same x.board board && (same part x.part && (same lot x.lot && true))) (p ∷ ps) ≡ true)
    by true true of on is more = (p.part, rw (same-sym p.board board ∙ on, same-refl p.part, same-sym lot p.lot ∙ of) refl)
    by true false of on is more = let found = more is in (found.0, or-later _ _ found.1)
    by false c of on is more = let found = more is in (found.0, or-later _ _ found.1)

pub lots-converse : (pieces : List Placement) (board lot : Name)
    → ((part : Name) × Contains (board_rows Two (pieces_on board pieces)) (part ∷ lot ∷ [])) ↔ Contains (lot_rows One (pieces_of_lot lot pieces)) (board ∷ [])
lots-converse pieces board lot = (
  λ there. from _ _ (lot-row ∙ lot-listed board lot there.0 pieces (sym (board-row there.0) ∙ into _ _ there.1)),
  λ there. let found = part-listed board lot pieces (sym lot-row ∙ into _ _ there) in (found.0, from _ _ (board-row found.0 ∙ found.1)),
)
  where
    board-row : (part : Name) → has (board_rows Two (pieces_on board pieces)) (part ∷ lot ∷ []) ≡ list_any (λ (p : Placement). same p.board board && (same part p.part && (same lot p.lot && true))) pieces
    board-row part = row-of (λ (p : Placement). p.part ∷ p.lot ∷ []) (λ p. same p.board board) pieces (part ∷ lot ∷ [])

    lot-row : has (lot_rows One (pieces_of_lot lot pieces)) (board ∷ []) ≡ list_any (λ (p : Placement). same p.lot lot && (same board p.board && true)) pieces
    lot-row = row-of (λ (p : Placement). p.board ∷ []) (λ p. same p.lot lot) pieces (board ∷ [])
