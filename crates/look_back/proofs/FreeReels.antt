-- Free reels and their turns.
use Rattle.desk_types.proofs.Common.{[], ◌++◌, ◌+◌, ◌<◌, ◌∙◌, ◌∷◌, ◌≡◌, ap, by_turn, cons_option, false}
use Rattle.desk_types.proofs.Common.{filter, filter_map, filter_map-append, get_or, History, if◌then◌else◌}
use Rattle.desk_types.proofs.Common.{in_order, insert_key, is_free, length, List, map, Name, None, Option}
use Rattle.desk_types.proofs.Common.{option_and_then, option_map, option_map_or, option_to_list, received_by}
use Rattle.desk_types.proofs.Common.{reels_received, refl, Some, sym, take, take-next, ℕ}
use Rattle.desk_laws.proofs.Common.{Command, Entry, Left}
use Rattle.judging.proofs.FreeReels.{free_among, turn-put}
use Rattle.judging.specs.Turns.{by_life, if_free, turn_by, turn_of}

pub not-free : (H : History) (part reel : Name) (command : Command) → received_by command ≡ Some reel → is_free H part reel ≡ false → turn_by H part command ≡ None
not-free H part reel command is not_free =
    ap (λ said. option_map (turn_of H) (option_and_then (if_free H part) said)) is
    ∙ ap (λ b. option_map (turn_of H) (if b then Some reel else None)) not_free

pub turns-next : (H G : History) (part : Name) (e : Entry) (turns : List (Left × Name)) → turns ≡ map (turn_of H) (free_among H part G)
    → option_map_or (insert_key by_life turns) (turn_by H part e.stamped.command) turns ≡ map (turn_of H) (free_among H part (e ∷ G))
turns-next H G part e turns is = by (received_by e.stamped.command)
  where
    by : (said : Option Name) → option_map_or (insert_key by_life turns) (option_map (turn_of H) (option_and_then (if_free H part) said)) turns
        ≡ map (turn_of H) (in_order (by_turn H) (filter (is_free H part) (cons_option said (reels_received G))))
    by None = is
    by (Some reel) = turn-put H part (reels_received G) reel turns is

one-more : {Y : Type 0} (y : Option Y) → option_to_list y ≡ cons_option y []
one-more None = refl
one-more (Some y) = refl

pub told-next : {X Y : Type 0} (f : X → Option Y) (xs : List X) (i : ℕ) (x : X) (told new : List Y) (one : Option Y) → i < length xs → x ≡ get_or xs i x
    → told ≡ filter_map f (take i xs) → one ≡ f x → new ≡ told ++ option_to_list one → new ≡ filter_map f (take (i + 1) xs)
told-next f xs i x told new one inside at is one_is new_is =
    new_is
    ∙ ap (λ ys. ys ++ option_to_list one) is
    ∙ ap (λ y. filter_map f (take i xs) ++ y) (ap option_to_list one_is ∙ one-more (f x))
    ∙ sym (filter_map-append f (take i xs) (x ∷ []))
    ∙ ap (filter_map f) (sym (take-next xs i x inside at))
