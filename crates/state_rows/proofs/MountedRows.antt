-- The meaning of the rows of mounted reels: a reel has a row exactly if it is live on the row's slot.
use Rattle.desk_types.proofs.Common.{[], ◌&&◌, ◌∙◌, ◌∷◌, ◌≡◌, and_from, and_parts, ap, Bool, false, History}
use Rattle.desk_types.proofs.Common.{if◌then◌else◌, is_mounted, is_some, IsJudged, last_put, live_on}
use Rattle.desk_types.proofs.Common.{mount_row, Name, None, Option, option_map_or, option_or, put_by, refl}
use Rattle.desk_types.proofs.Common.{same, same-refl, same-true, Some, sym, true, ℕ}
use Rattle.desk_laws.proofs.Common.{Command, MaterialsLoaded, MaterialsSpliced, MaterialsUnloaded}
use Rattle.desk_laws.proofs.Common.{place_after, place_of, Two}
use Rattle.desk_laws.proofs.{Mounted.mounted-is, Mounted.some_left, Mounts.has, Mounts.has-live_on}
use Rattle.desk_laws.proofs.{Mounts.live-mounted, Places.live-placed, Places.placed}
use Rattle.desk_laws.specs.Place.{is_at}
use Rattle.desk_types.specs.declared.row.MountRow.{MountRow}

-- ---- mounts

-- The last load or splice of the reel put it onto this slot.
record IsPutAt (last : Option MountRow) (reel : Name) (slot : Name × Name) : Type 0 where
  row : MountRow
  is : last ≡ Some row
  reel_is : row.reel ≡ reel
  machine_is : row.machine ≡ slot.0
  slot_is : row.slot ≡ slot.1

put-step : (reel : Name) (number : ℕ) (command : Command) (place : Option (Name × Name)) (last : Option MountRow) (q : Name × Name)
    → (place ≡ Some q → IsPutAt last reel q) → place_after reel command place ≡ Some q → IsPutAt (option_or (put_by reel number command) last) reel q
put-step reel number (MaterialsLoaded m s r) place last q before is = by (same r reel) is
  where
    row : MountRow
    row = record { since = number; machine = m; slot = s; reel = reel }

    stays : (b : Bool) → (if b then None else place) ≡ Some q → place ≡ Some q
    stays true is = cc
    stays false is = is

    by : (b : Bool) → (if b then Some (m, s) else (if is_at m s place then None else place)) ≡ Some q → IsPutAt (option_or (if◌then◌else◌ {A = Option MountRow} b (Some row) None) last) reel q
    by true is = record {
      row = row;
      is = refl;
      reel_is = refl;
      machine_is = ap (λ o. option_map_or (λ (x : Name × Name). x.0) o []) is;
      slot_is = ap (λ o. option_map_or (λ (x : Name × Name). x.1) o []) is;
    }
    by false is = before (stays (is_at m s place) is)
put-step reel number (MaterialsSpliced m s r) place last q before is = by (same r reel) is
  where
    row : MountRow
    row = record { since = number; machine = m; slot = s; reel = reel }

    by : (b : Bool) → (if b then Some (m, s) else place) ≡ Some q → IsPutAt (option_or (if◌then◌else◌ {A = Option MountRow} b (Some row) None) last) reel q
    by true is = record {
      row = row;
      is = refl;
      reel_is = refl;
      machine_is = ap (λ o. option_map_or (λ (x : Name × Name). x.0) o []) is;
      slot_is = ap (λ o. option_map_or (λ (x : Name × Name). x.1) o []) is;
    }
    by false is = before is
put-step reel number (MaterialsUnloaded m s) place last q before is = before (stays (is_at m s place) is)
  where
    stays : (b : Bool) → (if b then None else place) ≡ Some q → place ≡ Some q
    stays true is = cc
    stays false is = is
put-step reel number _ place last q before is = before is

put-there : (H : History) (reel : Name) (q : Name × Name) → place_of H reel ≡ Some q → IsPutAt (last_put H reel) reel q
unfolding place_of
put-there [] reel q is = cc
put-there (e ∷ H) reel q is = put-step reel e.number e.stamped.command (place_of H reel) (last_put H reel) q (put-there H reel q) is

pub mount-live : (H : History) (reel : Name) (row : MountRow) → IsJudged Two H → mount_row H reel ≡ Some row → has (live_on H row.machine row.slot) reel ≡ true
mount-live H reel row judged is = by (is_mounted H reel) refl is
  where
    at : (place : Option (Name × Name)) → place_of H reel ≡ place → (is_some place && some_left H reel) ≡ true → last_put H reel ≡ Some row → has (live_on H row.machine row.slot) reel ≡ true
    at None here some last = cc
    at (Some q) here some last =
        let put = put-there H reel q here in
        let one : put.row ≡ row = ap (λ o. option_map_or (λ (x : MountRow). x) o row) (sym put.is ∙ last) in
        has-live_on H row.machine row.slot reel
        ∙ and_from _ _ some (
        placed H row.machine row.slot reel judged some
        ∙ ap (is_at row.machine row.slot) here
        ∙ and_from _ _ (ap (λ x. same x row.machine) (sym put.machine_is ∙ ap (λ (x : MountRow). x.machine) one) ∙ same-refl row.machine)
        (ap (λ x. same x row.slot) (sym put.slot_is ∙ ap (λ (x : MountRow). x.slot) one) ∙ same-refl row.slot))

    by : (b : Bool) → is_mounted H reel ≡ b → (if b then last_put H reel else None) ≡ Some row → has (live_on H row.machine row.slot) reel ≡ true
    by true mounted is = at (place_of H reel) refl (sym (mounted-is H reel judged) ∙ mounted) is
    by false off is = cc

pub record IsMountOf (row : Option MountRow) (machine slot reel : Name) : Type 0 where
  pub mount : MountRow
  pub is : row ≡ Some mount
  pub reel_is : mount.reel ≡ reel
  pub machine_is : mount.machine ≡ machine
  pub slot_is : mount.slot ≡ slot

pub live-mount : (H : History) (machine slot reel : Name) → IsJudged Two H → has (live_on H machine slot) reel ≡ true → IsMountOf (mount_row H reel) machine slot reel
live-mount H machine slot reel judged live = at (place_of H reel) refl (live-placed H machine slot reel judged live)
  where
    at : (place : Option (Name × Name)) → place_of H reel ≡ place → is_at machine slot place ≡ true → IsMountOf (mount_row H reel) machine slot reel
    at None here there = cc
    at (Some q) here there =
        let put = put-there H reel q here in
        let both = and_parts (same q.0 machine) (same q.1 slot) there in
        record {
          mount = put.row;
          is = ap (λ b. if b then last_put H reel else None) (live-mounted H machine slot reel live) ∙ put.is;
          reel_is = put.reel_is;
          machine_is = put.machine_is ∙ same-true q.0 machine both.0;
          slot_is = put.slot_is ∙ same-true q.1 slot both.1;
        }
