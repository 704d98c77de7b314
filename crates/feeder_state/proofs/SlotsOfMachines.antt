-- The slots of one machine among all slots.
use Rattle.desk_types.proofs.Common.{[], ◌&&◌, ◌||◌, ◌∙◌, ◌∷◌, ◌≡◌, AllByRecursion, ap, Bool, BTreeMap}
use Rattle.desk_types.proofs.Common.{by_name, by_pair, cond, cons_option, enumerate_from, Equal, exact_bytes}
use Rattle.desk_types.proofs.Common.{false, first, flat_map, Greater, History, if◌then◌else◌, is_at}
use Rattle.desk_types.proofs.Common.{is_at-by_pair, is_some, IsStrictlySortedBy, IsTotalOrder, keys_of}
use Rattle.desk_types.proofs.Common.{left_of, Less, List, list_any-from_Contains, live_on, loaded_slots}
use Rattle.desk_types.proofs.Common.{lookup, map, mount_of, Name, nat_list_cmp_total, nat_list_eq_equiv}
use Rattle.desk_types.proofs.Common.{nat_lt, None, on_total, Option, Ordering, ordering_then, refl, same}
use Rattle.desk_types.proofs.Common.{same-sym, same-true, slot_mounts, Some, sym, then_total, true, unwrap_or}
use Rattle.desk_laws.proofs.Common.{Entry}
use Rattle.desk_laws.{proofs.Lookups.tape-loaded, proofs.Mounts.has, proofs.NameSets.set-ordered}
use Rattle.desk_types.specs.View.{slot_by}
use Rattle.feeder_state.{proofs.NamesInOrder.told-same, specs.Tape.tape_at}
use Rattle.std.{specs.Cmp.tied_itself, specs.List.filter, specs.List.filter_map}

pub by_pair-total : IsTotalOrder by_pair
by_pair-total = then_total (on_total (λ (k : Name × Name). k.0) nat_list_cmp_total) (on_total (λ (k : Name × Name). k.1) nat_list_cmp_total)

abbrev pub slots_among : Name → List (Name × Name) → List Name
slots_among machine keys = filter_map (λ (k : Name × Name). if same k.0 machine then Some k.1 else None) keys

slots-ordered : (machine : Name) (keys : List (Name × Name)) → IsStrictlySortedBy by_pair keys → IsStrictlySortedBy by_name (slots_among machine keys)
unfolding IsStrictlySortedBy
slots-ordered machine [] up = tt
slots-ordered machine (k ∷ ks) (before, up) = by (same k.0 machine) refl (slots-ordered machine ks up)
  where
    second : (a b : Ordering) → a ≡ Equal → ordering_then a b ≡ Less → b ≡ Less
    second Less b is less = cc
    second Equal b is less = less
    second Greater b is less = cc

    later : same k.0 machine ≡ true → (qs : List (Name × Name)) → AllByRecursion (λ q. by_pair k q ≡ Less) qs → AllByRecursion (λ s. by_name k.1 s ≡ Less) (slots_among machine qs)
    later here [] all = tt
    later here (q ∷ qs) (less, all) = on (same q.0 machine) refl (later here qs all)
      where
        on : (b : Bool) → same q.0 machine ≡ b → AllByRecursion (λ s. by_name k.1 s ≡ Less) (slots_among machine qs)
            → AllByRecursion (λ s. by_name k.1 s ≡ Less) (cons_option (if b then Some q.1 else None) (slots_among machine qs))
        on true there rest =
            let one : k.0 ≡ q.0 = same-true k.0 machine here ∙ sym (same-true q.0 machine there) in
            (second (by_name k.0 q.0) (by_name k.1 q.1) (ap (by_name k.0) (sym one) ∙ tied_itself nat_list_cmp_total k.0) less, rest)
        on false away rest = rest

    by : (b : Bool) → same k.0 machine ≡ b → IsStrictlySortedBy by_name (slots_among machine ks)
        → IsStrictlySortedBy by_name (cons_option (if b then Some k.1 else None) (slots_among machine ks))
    by true here rest = (later here ks before, rest)
    by false away rest = rest

slot-there : {V : Type 0} (machine slot : Name) (entries : List ((Name × Name) × V))
    → has (slots_among machine (keys_of entries)) slot ≡ is_some (lookup (is_at (by_pair (machine, slot))) entries)
slot-there machine slot [] = refl
slot-there machine slot (e ∷ entries) =
    by (same e.0.0 machine) (slot-there machine slot entries)
    ∙ ap (λ b. is_some (cond b (Some e.1) (lookup (is_at (by_pair (machine, slot))) entries)))
    (ap (λ b. b && same slot e.0.1) (same-sym e.0.0 machine) ∙ sym (is_at-by_pair (machine, slot) e.0))
  where
    on : (b : Bool) → has (slots_among machine (keys_of entries)) slot ≡ is_some (lookup (is_at (by_pair (machine, slot))) entries)
        → (b || has (slots_among machine (keys_of entries)) slot) ≡ is_some (cond b (Some e.1) (lookup (is_at (by_pair (machine, slot))) entries))
    on true rest = refl
    on false rest = rest

    by : (b : Bool) → has (slots_among machine (keys_of entries)) slot ≡ is_some (lookup (is_at (by_pair (machine, slot))) entries)
        → has (cons_option (if b then Some e.0.1 else None) (slots_among machine (keys_of entries))) slot
        ≡ is_some (cond (b && same slot e.0.1) (Some e.1) (lookup (is_at (by_pair (machine, slot))) entries))
    by true rest = on (same slot e.0.1) rest
    by false rest = rest

-- ---- slots with live reels

abbrev is_taken : History → Name → Name → Bool
is_taken H machine slot = is_some (first (live_on H machine slot))

none-told : (H : History) (machine slot : Name) → is_taken H machine slot ≡ false → slot_mounts H machine slot ≡ []
none-told H machine slot vacant = by (live_on H machine slot) vacant
  where
    by : (reels : List Name) → is_some (first reels) ≡ false → map (mount_of H slot) (enumerate_from 1 reels) ≡ []
    by [] vacant = refl
    by (r ∷ rs) vacant = cc

taken-loaded : (H : History) (machine slot : Name) → is_taken H machine slot ≡ true → has (loaded_slots H machine) slot ≡ true
unfolding live_on
taken-loaded H machine slot taken =
    list_any-from_Contains nat_list_eq_equiv slot (loaded_slots H machine)
    (tape-loaded H machine slot (λ none. let vacant = ap (λ tape. is_some (first (filter (λ reel. nat_lt 0 (left_of H reel)) tape))) none in cc))

taken-there : (H : History) (machine slot : Name) (found : Option (List Name)) → unwrap_or found [] ≡ live_on H machine slot → is_taken H machine slot ≡ true → is_some found ≡ true
taken-there H machine slot None is taken = let vacant = ap (λ reels. is_some (first reels)) is in cc
taken-there H machine slot (Some tape) is taken = refl

-- The slots in the map give the same result as all slots that were ever loaded.
pub told-loaded : (H : History) (machine : Name) (tapes : BTreeMap (Name × Name) (List Name)) → IsStrictlySortedBy by_pair (keys_of tapes.entries)
    → ((slot : Name) → tape_at tapes machine slot ≡ live_on H machine slot)
    → flat_map (slot_mounts H machine) (slots_among machine (keys_of tapes.entries)) ≡ flat_map (slot_mounts H machine) (loaded_slots H machine)
told-loaded H machine tapes up are =
    told-same by_name nat_list_cmp_total exact_bytes (slot_mounts H machine) (is_taken H machine) (none-told H machine)
    (slots_among machine (keys_of tapes.entries)) (loaded_slots H machine) (slots-ordered machine (keys_of tapes.entries) up)
    (set-ordered (filter_map (λ (e : Entry). slot_by machine e.stamped.command) H))
    (λ slot taken. slot-there machine slot tapes.entries ∙ taken-there H machine slot _ (are slot) taken ∙ sym (taken-loaded H machine slot taken))
