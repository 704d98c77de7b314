-- Sets and maps by names after one name is put in or taken out.
use Rattle.desk_types.proofs.Common.{[], ◌&&◌, ◌||◌, ◌∙◌, ◌≡◌, ap, Bool, BTreeMap, by_name, cond, false}
use Rattle.desk_types.proofs.Common.{is_at, is_at-by_name, List, lookup, Name, None, option_map_or, refl}
use Rattle.desk_types.proofs.Common.{same, same-true, Some, sym, true, unwrap_or}
use Rattle.desk_types.proofs.Tests.{or-cond}
use Rattle.feeder_state.specs.Sets.{is_name_at}
use Rattle.std.specs.BTreeSet.{BTreeSet, contains}

pub put : (x q : Name) (new old : Bool) → new ≡ cond (is_at (by_name x) q) true old → new ≡ (same x q || old)
put x q new old after = after ∙ or-cond (is_at (by_name x) q) old ∙ ap (λ b. b || old) (is_at-by_name x q)

pub changed : {X : Type 0} (x q : Name) (new old value : X) → new ≡ cond (is_at (by_name x) q) value old → new ≡ cond (same x q) value old
changed x q new old value after = after ∙ ap (λ b. cond b value old) (is_at-by_name x q)

-- ---- sets by another name

pub none-in : (sets : BTreeMap Name (BTreeSet Name)) (k n : Name) → sets.entries ≡ [] → is_name_at sets k n ≡ false
none-in sets k n empty =
    ap (λ (entries : List (Name × BTreeSet Name)). option_map_or (λ (names : BTreeSet Name). contains by_name names n) (lookup (is_at (by_name k)) entries) false) empty

-- ---- values written by a command

pub says-over : {X : Type 0} (b : Bool) (value old : X) → cond b value old ≡ unwrap_or (cond b (Some value) None) old
says-over true value old = refl
says-over false value old = refl

-- Membership in a part of a map after an item is taken out under the key k.
pub taken-out : (k q : Name) (out now : Bool) (old : Name → Bool) → now ≡ cond out false (old k) → cond (same k q) now (old q) ≡ cond (same k q && out) false (old q)
taken-out k q out now old is = by (same k q) refl
  where
    by : (b : Bool) → same k q ≡ b → cond b now (old q) ≡ cond (b && out) false (old q)
    by true one = is ∙ ap (λ name. cond out false (old name)) (same-true k q one)
    by false one = refl

pub taken-absent : (k q : Name) (out : Bool) (old : Name → Bool) → old k ≡ false → old q ≡ cond (same k q && out) false (old q)
taken-absent k q out old none = by (same k q) out refl
  where
    by : (b o : Bool) → same k q ≡ b → old q ≡ cond (b && o) false (old q)
    by true true one = sym (ap old (same-true k q one)) ∙ none
    by true false one = refl
    by false o one = refl

-- Membership in a part of a map after items are inserted under the key k. Other keys are unchanged.
pub placed-put : (k q : Name) (put now : Bool) (old : Name → Bool) → now ≡ (put || old k) → cond (same k q) now (old q) ≡ (same k q && put || old q)
placed-put k q put now old is = by (same k q) refl
  where
    by : (b : Bool) → same k q ≡ b → cond b now (old q) ≡ (b && put || old q)
    by true one = is ∙ ap (λ name. put || old name) (same-true k q one)
    by false one = refl
