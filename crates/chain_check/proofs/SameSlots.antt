-- Slots of a history, by the rows of mounted reels.
use Rattle.desk_types.proofs.Common.{[], ◌∙◌, ◌∷◌, ◌≡◌, AllByRecursion, ap, Bool, cond, false, first, History}
use Rattle.desk_types.proofs.Common.{is_some, IsJudged, List, list_any, live_on, lookup, mount_row, Name}
use Rattle.desk_types.proofs.Common.{None, Option, option_map, option_map_or, or_left, refl, same, same-refl}
use Rattle.desk_types.proofs.Common.{same-true, Some, subst, Tables, tables_of, true, ℕ}
use Rattle.desk_laws.proofs.Common.{Two}
use Rattle.desk_types.specs.declared.row.MountRow.{MountRow}
use Rattle.state_rows.proofs.MountedRows.{IsMountOf, live-mount}
use Rattle.state_rows.specs.Kept.{KeptRows, ListsMounts, tables_in, unnumbered, without_number}
use Rattle.std.specs.List.{slice_get}

-- If the mount's reel is the first one of its slot, this holds of the slot.
abbrev pub HoldsAtFront : (Name → Name → List Name) → (Name → Name → Type 0) → (ℕ × Name) × MountRow → Type 0
HoldsAtFront reels P e = slice_get (reels e.1.machine e.1.slot) 0 ≡ Some e.0.1 → P e.1.machine e.1.slot

module _ (reels : Name → Name → List Name) (P : Name → Name → Type 0) where
  listed : (r : Name) (es : List ((ℕ × Name) × MountRow)) (m : MountRow) → lookup (λ k. same r k.1) es ≡ Some m → AllByRecursion (HoldsAtFront reels P) es
      → slice_get (reels m.machine m.slot) 0 ≡ Some r → P m.machine m.slot
  listed r [] m at all front = cc
  listed r (e ∷ es) m at (here, all) front = by (same r e.0.1) refl at (λ later. listed r es m later all front)
    where
      by : (b : Bool) → same r e.0.1 ≡ b → cond b (Some e.1) (lookup (λ k. same r k.1) es) ≡ Some m → (lookup (λ k. same r k.1) es ≡ Some m → P m.machine m.slot) → P m.machine m.slot
      by true is at later =
          let row : e.1 ≡ m = ap (λ o. option_map_or (λ (x : MountRow). x) o m) at in
          subst (λ (x : MountRow). P x.machine x.slot) row
          (here (ap (λ (x : MountRow). slice_get (reels x.machine x.slot) 0) row ∙ front ∙ ap (λ n. Some n) (same-true r e.0.1 is)))
      by false is at later = later at

  -- What holds of the slot of each first reel holds of each slot with live reels.
  pub covered-slots : (G : History) (rows : KeptRows) (es : List ((ℕ × Name) × MountRow)) (machine slot : Name) → IsJudged Two G
      → unnumbered (tables_in rows) ≡ unnumbered (tables_of G) → ListsMounts es (tables_in rows).mounts
      → AllByRecursion (HoldsAtFront reels P) es → ((m s : Name) → reels m s ≡ live_on G m s) → is_some (first (live_on G machine slot)) ≡ true → P machine slot
  covered-slots G rows es machine slot judged is lists all live_there some = by (live_on G machine slot) refl some
    where
      by : (tape : List Name) → live_on G machine slot ≡ tape → is_some (first tape) ≡ true → P machine slot
      by [] live some = cc
      by (r ∷ rs) live some = found ((tables_in rows).mounts r) (lists.rows r) (ap (λ (t : Tables). t.mounts r) is ∙ ap (option_map without_number) put.is)
        where
          put : IsMountOf (mount_row G r) machine slot r
          put = live-mount G machine slot r judged (ap (list_any (same r)) live ∙ or_left (same r r) (list_any (same r) rs) (same-refl r))

          found : (o : Option MountRow) → lookup (λ k. same r k.1) es ≡ o → option_map without_number o ≡ Some (without_number put.mount) → P machine slot
          found None at is = cc
          found (Some m) at is =
              let on_machine : m.machine ≡ machine = ap (λ o. option_map_or (λ (x : MountRow). x.machine) o []) is ∙ put.machine_is in
              let on_slot : m.slot ≡ slot = ap (λ o. option_map_or (λ (x : MountRow). x.slot) o []) is ∙ put.slot_is in
              let front : slice_get (reels m.machine m.slot) 0 ≡ Some r =
              ap (λ x. slice_get (reels x m.slot) 0) on_machine ∙ ap (λ s. slice_get (reels machine s) 0) on_slot ∙ ap (λ xs. slice_get xs 0) (live_there machine slot ∙ live) in
              subst (λ s. P machine s) on_slot (subst (λ x. P x m.slot) on_machine (listed r es m at all front))

-- Lists that are the same where either has an element are the same.
pub either-list : (a b : List Name) → (is_some (first a) ≡ true → a ≡ b) → (is_some (first b) ≡ true → a ≡ b) → a ≡ b
either-list (x ∷ xs) b old new = old refl
either-list [] (y ∷ ys) old new = new refl
either-list [] [] old new = refl
