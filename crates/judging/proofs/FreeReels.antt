-- Free reels and their turns.
use Rattle.desk_types.proofs.Common.{[], ◌&&◌, ◌∙◌, ◌∷◌, ◌≡◌, ap, Bool, by_turn, cond, cons_option, Equal}
use Rattle.desk_types.proofs.Common.{false, filter, filter_map, Greater, History, if◌then◌else◌, in_order}
use Rattle.desk_types.proofs.Common.{insert_key, is_allowed, is_expired, is_free, is_mounted, is_unbaked}
use Rattle.desk_types.proofs.Common.{IsJudged, left_of, Less, List, map, match_ordering, Name, nat_lt, None}
use Rattle.desk_types.proofs.Common.{not, now_of, Option, option_map, option_map_or, Ordering, part_of}
use Rattle.desk_types.proofs.Common.{receipt_of, reel_view, reels_received, refl, Some, true, view_of, ℕ}
use Rattle.desk_laws.proofs.Common.{Left, Receipt, Two}
use Rattle.desk_laws.proofs.Balance.{unreceived-empty}
use Rattle.judging.specs.Turns.{by_life, if_free, turn_of}

none-left : (a b c d : Bool) (n : ℕ) → n ≡ 0 → (a && b && nat_lt 0 n && c && d) ≡ false
none-left true true c d n is = ap (λ k. nat_lt 0 k && c && d) is
none-left true false c d n is = refl
none-left false b c d n is = refl

pub untold : (H : History) (reel : Name) → reel_view H reel ≡ None → receipt_of H reel ≡ None
untold H reel none = by (receipt_of H reel) none
  where
    by : (said : Option Receipt) → option_map (view_of H reel) said ≡ None → said ≡ None
    by None none = refl
    by (Some receipt) none = cc

pub unreceived-free : (H : History) (part reel : Name) → IsJudged Two H → receipt_of H reel ≡ None → is_free H part reel ≡ false
unreceived-free H part reel judged none =
    none-left (is_allowed H part (part_of H reel)) (not (is_mounted H reel)) (not (is_unbaked H reel)) (not (is_expired H reel (now_of H))) (left_of H reel)
    (unreceived-empty H reel judged none)

pub untold-free : (H : History) (part reel : Name) → IsJudged Two H → reel_view H reel ≡ None → if_free H part reel ≡ None
untold-free H part reel judged none = ap (λ b. if b then Some reel else None) (unreceived-free H part reel judged (untold H reel none))

insert-turn : (H : History) (reels : List Name) (reel : Name)
    → insert_key by_life (map (turn_of H) reels) (turn_of H reel) ≡ map (turn_of H) (insert_key (by_turn H) reels reel)
insert-turn H [] reel = refl
insert-turn H (x ∷ xs) reel = by (by_turn H reel x) (insert-turn H xs reel)
  where
    by : (order : Ordering) → insert_key by_life (map (turn_of H) xs) (turn_of H reel) ≡ map (turn_of H) (insert_key (by_turn H) xs reel)
        → match_ordering order (turn_of H reel ∷ turn_of H x ∷ map (turn_of H) xs) (turn_of H x ∷ map (turn_of H) xs)
        (turn_of H x ∷ insert_key by_life (map (turn_of H) xs) (turn_of H reel))
        ≡ map (turn_of H) (match_ordering order (reel ∷ x ∷ xs) (x ∷ xs) (x ∷ insert_key (by_turn H) xs reel))
    by Less rest = refl
    by Equal rest = refl
    by Greater rest = ap (λ ts. turn_of H x ∷ ts) rest

-- The free reels among those that G received, in order.
abbrev pub free_among : History → Name → History → List Name
free_among H part G = in_order (by_turn H) (filter (is_free H part) (reels_received G))

pub turn-put : (H : History) (part : Name) (rest : List Name) (reel : Name) (turns : List (Left × Name))
    → turns ≡ map (turn_of H) (in_order (by_turn H) (filter (is_free H part) rest))
    → option_map_or (insert_key by_life turns) (option_map (turn_of H) (if_free H part reel)) turns
    ≡ map (turn_of H) (in_order (by_turn H) (filter (is_free H part) (reel ∷ rest)))
turn-put H part rest reel turns is = by (is_free H part reel)
  where
    by : (b : Bool) → option_map_or (insert_key by_life turns) (option_map (turn_of H) (if b then Some reel else None)) turns
        ≡ map (turn_of H) (in_order (by_turn H) (cond b (reel ∷ filter (is_free H part) rest) (filter (is_free H part) rest)))
    by true = ap (λ ts. insert_key by_life ts (turn_of H reel)) is ∙ insert-turn H (in_order (by_turn H) (filter (is_free H part) rest)) reel
    by false = is

pub views-of_turns : (H : History) (reels : List Name) → filter_map (λ (t : Left × Name). reel_view H t.1) (map (turn_of H) reels) ≡ filter_map (reel_view H) reels
views-of_turns H [] = refl
views-of_turns H (x ∷ xs) = ap (cons_option (reel_view H x)) (views-of_turns H xs)
