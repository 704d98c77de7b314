-- The rows of `mount`, in the order of their numbers, give the live reels of each slot.
use Rattle.desk_types.proofs.Common.{[], ◌&&◌, ◌+◌, ◌<◌, ◌==◌, ◌||◌, ◌∙◌, ◌∷◌, ◌≡◌, ◌≤◌, All, All-head}
use Rattle.desk_types.proofs.Common.{All-tail, AllByRecursion, and_from, and_parts, ap, arith, Bool}
use Rattle.desk_types.proofs.Common.{both_ways, by_name, cond, cons_option, eqb-true, Equal, false, Greater}
use Rattle.desk_types.proofs.Common.{History, if◌then◌else◌, is_at-by_name, is_eq, is_mounted, IsJudged}
use Rattle.desk_types.proofs.Common.{IsStrictlySortedBy, keys_of, last_put, length, Less, List, live_on}
use Rattle.desk_types.proofs.Common.{lookup, ltb-true, mount_row, Name, nat_lt, None, Option, option_map_or}
use Rattle.desk_types.proofs.Common.{option_or, or_left, or_right, ordering_then, put_by, refl, same}
use Rattle.desk_types.proofs.Common.{same-refl, same-true, Some, sym, true, unwrap_or, ℕ}
use Rattle.desk_laws.proofs.Common.{Command, MaterialsLoaded, MaterialsSpliced, Two}
use Rattle.desk_laws.proofs.Mounts.{has}
use Rattle.desk_types.specs.declared.row.MountRow.{MountRow}
use Rattle.state_rows.proofs.Ascending.{ascending-same, Ascends, since-ascends, since-put, since-within}
use Rattle.state_rows.proofs.Ascending.{since_of}
use Rattle.state_rows.proofs.MountedRows.{live-mount, mount-live}
use Rattle.state_rows.specs.Kept.{by_since, ListsMounts, since_is}
use Rattle.std.specs.List.{filter_map}

-- ---- numbers

abbrev put_reel : Command → Option Name
put_reel (MaterialsLoaded m s r) = Some r
put_reel (MaterialsSpliced m s r) = Some r
put_reel _ = None

put-named : (number : ℕ) (command : Command) (r : Name) (row : MountRow) → put_by r number command ≡ Some row → put_reel command ≡ Some r
put-named number (MaterialsLoaded m s reel) r row is = by (same reel r) refl is
  where
    by : (b : Bool) → same reel r ≡ b → (if b then Some (record { since = number; machine = m; slot = s; reel = r }) else None) ≡ Some row → Some reel ≡ Some r
    by true here is = ap (λ x. Some x) (same-true reel r here)
    by false here is = cc
put-named number (MaterialsSpliced m s reel) r row is = by (same reel r) refl is
  where
    by : (b : Bool) → same reel r ≡ b → (if b then Some (record { since = number; machine = m; slot = s; reel = r }) else None) ≡ Some row → Some reel ≡ Some r
    by true here is = ap (λ x. Some x) (same-true reel r here)
    by false here is = cc
put-named number _ r row is = cc

-- No two reels were put last by one entry.
pub since-once : (H : History) (r x : Name) (a b : MountRow) → IsJudged Two H → last_put H r ≡ Some a → last_put H x ≡ Some b → a.since ≡ b.since → r ≡ x
since-once [] r x a b judged at_r at_x one = cc
since-once (e ∷ H) r x a b (next, judged) at_r at_x one =
    by (put_by r e.number e.stamped.command) (put_by x e.number e.stamped.command) refl refl at_r at_x (since-once H r x a b judged)
  where
    late : (y : Name) (row put : MountRow) → put_by y e.number e.stamped.command ≡ Some put → Some put ≡ Some row → row.since ≡ length H + 1
    late y row put says is = sym (ap (λ o. option_map_or (λ (z : MountRow). z.since) o 0) is) ∙ since-put y e.number e.stamped.command put says ∙ next.number

    early : (y : Name) (row : MountRow) → last_put H y ≡ Some row → row.since ≤ length H
    early y row is =
        let within = since-within H y judged in
        let at : since_of H y ≡ row.since = ap (λ o. option_map_or (λ (z : MountRow). z.since) o 0) is in
        omega (arith, within, at)

    by : (p q : Option MountRow) → put_by r e.number e.stamped.command ≡ p → put_by x e.number e.stamped.command ≡ q → option_or p (last_put H r) ≡ Some a
        → option_or q (last_put H x) ≡ Some b → (last_put H r ≡ Some a → last_put H x ≡ Some b → a.since ≡ b.since → r ≡ x) → r ≡ x
    by None None says_r says_x at_r at_x rest = rest at_r at_x one
    by (Some p) None says_r says_x at_r at_x rest = let now = late r a p says_r at_r in let before = early x b at_x in absurd (omega (arith, now, before, one))
    by None (Some q) says_r says_x at_r at_x rest = let now = late x b q says_x at_x in let before = early r a at_r in absurd (omega (arith, now, before, one))
    by (Some p) (Some q) says_r says_x at_r at_x rest =
        ap (λ o. unwrap_or o r) (sym (put-named e.number e.stamped.command r p says_r) ∙ put-named e.number e.stamped.command x q says_x)

-- ---- rows

row-last : (H : History) (r : Name) (row : MountRow) → mount_row H r ≡ Some row → last_put H r ≡ Some row
row-last H r row is = by (is_mounted H r) is
  where
    by : (b : Bool) → (if b then last_put H r else None) ≡ Some row → last_put H r ≡ Some row
    by true is = is
    by false is = cc

pub mount-named : (H : History) (r : Name) (row : MountRow) → IsJudged Two H → mount_row H r ≡ Some row → row.reel ≡ r
mount-named H r row judged is =
    let put = live-mount H row.machine row.slot r judged (mount-live H r row judged is) in
    ap (λ o. option_map_or (λ (x : MountRow). x.reel) o row.reel) (sym is ∙ put.is) ∙ put.reel_is

-- The entry's row is that of its reel, and its number that of the row.
record IsEntryOf (H : History) (e : (ℕ × Name) × MountRow) : Type 0 where
  row : mount_row H e.0.1 ≡ Some e.1
  number : e.1.since ≡ e.0.0

-- The same, in terms of the list of rows.
abbrev IsListed : History → (ℕ × Name) × MountRow → Type 0
IsListed H e = since_is e.0.0 (mount_row H e.0.1) ≡ Some e.1

entry-is : (H : History) (e : (ℕ × Name) × MountRow) → IsListed H e → IsEntryOf H e
entry-is H e is = by (mount_row H e.0.1) refl is
  where
    at : (m : MountRow) (b : Bool) → (m.since == e.0.0) ≡ b → mount_row H e.0.1 ≡ Some m → (if b then Some m else None) ≡ Some e.1 → IsEntryOf H e
    at m true one has_row is = record { row = has_row ∙ is; number = ap (λ o. option_map_or (λ (x : MountRow). x.since) o 0) (sym is) ∙ eqb-true m.since e.0.0 one }
    at m false one has_row is = cc

    by : (o : Option MountRow) → mount_row H e.0.1 ≡ o → since_is e.0.0 o ≡ Some e.1 → IsEntryOf H e
    by None has_row is = cc
    by (Some m) has_row is = at m (m.since == e.0.0) refl has_row is

-- ---- the reels of a slot

abbrev is_on : Name → Name → (ℕ × Name) × MountRow → Bool
is_on machine slot e = same e.1.machine machine && same e.1.slot slot

abbrev pub slot_reels : Name → Name → List ((ℕ × Name) × MountRow) → List Name
slot_reels machine slot entries = filter_map (λ e. if is_on machine slot e then Some e.1.reel else None) entries

module _ (H : History) (machine slot : Name) (judged : IsJudged Two H) where
  rows-live : (r : Name) (es : List ((ℕ × Name) × MountRow)) → All (IsListed H) es → has (slot_reels machine slot es) r ≡ true → has (live_on H machine slot) r ≡ true
  rows-live r [] each there = cc
  rows-live r (e ∷ es) each there = by (is_on machine slot e) refl there (rows-live r es (All-tail (IsListed H) e es each))
    where
      live : is_on machine slot e ≡ true → same r e.1.reel ≡ true → has (live_on H machine slot) r ≡ true
      live on is =
          let entry = entry-is H e (All-head (IsListed H) e es each) in
          let both = and_parts (same e.1.machine machine) (same e.1.slot slot) on in
          ap (has (live_on H machine slot)) (same-true r e.1.reel is ∙ mount-named H e.0.1 e.1 judged entry.row)
          ∙ sym (ap (λ m. has (live_on H m slot) e.0.1) (same-true e.1.machine machine both.0))
          ∙ sym (ap (λ s. has (live_on H e.1.machine s) e.0.1) (same-true e.1.slot slot both.1))
          ∙ mount-live H e.0.1 e.1 judged entry.row

      first : is_on machine slot e ≡ true → (b : Bool) → same r e.1.reel ≡ b → (b || has (slot_reels machine slot es) r) ≡ true → (has (slot_reels machine slot es) r ≡ true → has (live_on H machine slot) r ≡ true)
          → has (live_on H machine slot) r ≡ true
      first on true is there rest = live on is
      first on false is there rest = rest there

      by : (b : Bool) → is_on machine slot e ≡ b → has (cons_option (if b then Some e.1.reel else None) (slot_reels machine slot es)) r ≡ true
          → (has (slot_reels machine slot es) r ≡ true → has (live_on H machine slot) r ≡ true) → has (live_on H machine slot) r ≡ true
      by true on there rest = first on (same r e.1.reel) refl there rest
      by false on there rest = rest there

  live-rows : (r : Name) (m : MountRow) (es : List ((ℕ × Name) × MountRow)) → m.reel ≡ r → m.machine ≡ machine → m.slot ≡ slot → lookup (λ k. same r k.1) es ≡ Some m → has (slot_reels machine slot es) r ≡ true
  live-rows r m [] named on_machine on_slot found = cc
  live-rows r m (e ∷ es) named on_machine on_slot found = by (same r e.0.1) found (live-rows r m es named on_machine on_slot)
    where
      later : has (slot_reels machine slot es) r ≡ true → (b : Bool) → has (cons_option (if b then Some e.1.reel else None) (slot_reels machine slot es)) r ≡ true
      later there true = or_right (same r e.1.reel) _ there
      later there false = there

      by : (b : Bool) → cond b (Some e.1) (lookup (λ k. same r k.1) es) ≡ Some m → (lookup (λ k. same r k.1) es ≡ Some m → has (slot_reels machine slot es) r ≡ true) → has (slot_reels machine slot (e ∷ es)) r ≡ true
      by true found rest =
          let one : e.1 ≡ m = ap (λ o. option_map_or (λ (x : MountRow). x) o m) found in
          let on : is_on machine slot e ≡ true = and_from _ _ (ap (λ x. same x machine) (ap (λ (x : MountRow). x.machine) one ∙ on_machine) ∙ same-refl machine) (ap (λ x. same x slot) (ap (λ (x : MountRow). x.slot) one ∙ on_slot) ∙ same-refl slot) in
          ap (λ b. has (cons_option (if b then Some e.1.reel else None) (slot_reels machine slot es)) r) on
          ∙ or_left (same r e.1.reel) _ (ap (same r) (ap (λ (x : MountRow). x.reel) one ∙ named) ∙ same-refl r)
      by false found rest = later (rest found) (is_on machine slot e)

  less-since : (a b : ℕ × Name) → by_since a b ≡ Less → (a.0 ≡ b.0 → a.1 ≡ b.1) → a.0 < b.0
  less-since a b less once = by (nat_lt a.0 b.0) refl (a.0 == b.0) refl less
    where
      never : a.1 ≡ b.1 → by_name a.1 b.1 ≡ Less → ⊥
      never one is = let tie = is_at-by_name a.1 b.1 ∙ ap (same a.1) (sym one) ∙ same-refl a.1 in let off = ap is_eq is in cc

      by : (c : Bool) → nat_lt a.0 b.0 ≡ c → (d : Bool) → (a.0 == b.0) ≡ d → ordering_then (cond c Less (cond d Equal Greater)) (by_name a.1 b.1) ≡ Less → a.0 < b.0
      by true is d at less = ltb-true a.0 b.0 is
      by false is true at less = absurd (never (once (eqb-true a.0 b.0 at)) less)
      by false is false at less = cc

  rows-ascend : (es : List ((ℕ × Name) × MountRow)) → IsStrictlySortedBy by_since (keys_of es) → All (IsListed H) es → Ascends (since_of H) (slot_reels machine slot es)
  unfolding IsStrictlySortedBy
  rows-ascend [] sorted each = tt
  rows-ascend (e ∷ es) (above, sorted) each = by (is_on machine slot e) (rows-ascend es sorted (All-tail (IsListed H) e es each))
    where
      numbered : (x : (ℕ × Name) × MountRow) → IsEntryOf H x → since_of H x.1.reel ≡ x.0.0
      numbered x entry =
          ap (since_of H) (mount-named H x.0.1 x.1 judged entry.row) ∙ ap (λ o. option_map_or (λ (y : MountRow). y.since) o 0) (row-last H x.0.1 x.1 entry.row) ∙ entry.number

      mine : IsEntryOf H e
      mine = entry-is H e (All-head (IsListed H) e es each)

      less : (x : (ℕ × Name) × MountRow) → IsEntryOf H x → by_since e.0 x.0 ≡ Less → since_of H e.1.reel < since_of H x.1.reel
      less x entry is =
          let a = numbered e mine in
          let b = numbered x entry in
          let below = less-since e.0 x.0 is (λ one. since-once H e.0.1 x.0.1 e.1 x.1 judged (row-last H e.0.1 e.1 mine.row) (row-last H x.0.1 x.1 entry.row) (mine.number ∙ one ∙ sym entry.number)) in
          omega (arith, a, b, below)

      all : (xs : List ((ℕ × Name) × MountRow)) → AllByRecursion (λ k. by_since e.0 k ≡ Less) (keys_of xs) → All (IsListed H) xs
          → AllByRecursion (λ x. since_of H e.1.reel < since_of H x) (slot_reels machine slot xs)
      all [] above each = tt
      all (x ∷ xs) (first, above) each = on (is_on machine slot x) (all xs above (All-tail (IsListed H) x xs each))
        where
          on : (b : Bool) → AllByRecursion (λ y. since_of H e.1.reel < since_of H y) (slot_reels machine slot xs)
              → AllByRecursion (λ y. since_of H e.1.reel < since_of H y) (cons_option (if b then Some x.1.reel else None) (slot_reels machine slot xs))
          on true rest = (less x (entry-is H x (All-head (IsListed H) x xs each)) first, rest)
          on false rest = rest

      by : (b : Bool) → Ascends (since_of H) (slot_reels machine slot es) → Ascends (since_of H) (cons_option (if b then Some e.1.reel else None) (slot_reels machine slot es))
      by true rest = (all es above (All-tail (IsListed H) e es each), rest)
      by false rest = rest

  -- The rows of a slot, in the order of their numbers, are its live reels.
  pub slot-reels : (entries : List ((ℕ × Name) × MountRow)) → ListsMounts entries (mount_row H) → slot_reels machine slot entries ≡ live_on H machine slot
  slot-reels entries lists =
      ascending-same (since_of H) _ (live_on H machine slot) (rows-ascend entries lists.ascending lists.each) (since-ascends H machine slot judged) (λ r. both_ways _ _ (rows-live r entries lists.each) (back r))
    where
      back : (r : Name) → has (live_on H machine slot) r ≡ true → has (slot_reels machine slot entries) r ≡ true
      back r live =
          let put = live-mount H machine slot r judged live in
          live-rows r put.mount entries put.reel_is put.machine_is put.slot_is (lists.rows r ∙ put.is)
