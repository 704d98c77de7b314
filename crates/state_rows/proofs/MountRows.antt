-- The row of a mounted reel after one entry more.
use Rattle.desk_types.proofs.Common.{◌&&◌, ◌-◌, ◌==◌, ◌∙◌, ◌∷◌, ◌≡◌, ap, Bool, command_refusal, false}
use Rattle.desk_types.proofs.Common.{History, if◌then◌else◌, is_mounted, is_some, IsJudged, last_put, left_of}
use Rattle.desk_types.proofs.Common.{live_on, mount_row, Name, nat_lt, None, not, Option, option_or, put_by}
use Rattle.desk_types.proofs.Common.{receipt_of, refl, same, same-true, Some, sym, true, ℕ}
use Rattle.desk_laws.proofs.Common.{Command, CountsTaken, Entry, MaterialsInstalled, MaterialsLoaded}
use Rattle.desk_laws.proofs.Common.{MaterialsScrapped, MaterialsSpliced, MaterialsUnloaded, mounted_after}
use Rattle.desk_laws.proofs.Common.{Receipt, ReelReceived, Two}
use Rattle.desk_laws.proofs.{Accepted.mountable, Accepted.next-accepted, Accepted.received-by}
use Rattle.desk_laws.proofs.{Judgements.untouched, Mounted.left_after, Mounted.less-none, Mounted.mounted-is}
use Rattle.desk_laws.proofs.{Mounted.mounted-next, Mounted.some_left, Mounts.has, Places.untouched-unplaced}
use Rattle.desk_laws.proofs.{Tapes.not-zero}
use Rattle.desk_types.specs.declared.row.MountRow.{MountRow}
use Rattle.state_rows.specs.After.{mount_after}

pub unreceived-unmounted : (H : History) (reel : Name) → IsJudged Two H → receipt_of H reel ≡ None → is_mounted H reel ≡ false
unreceived-unmounted H reel judged none =
    mounted-is H reel judged ∙ ap (λ p. is_some p && some_left H reel) (untouched-unplaced H reel (untouched H reel judged none))

some-after : (H : History) (r reel : Name) → same r reel ≡ true → (left_of H r == 0) ≡ false → nat_lt 0 (left_of H reel - 0) ≡ true
some-after H r reel here some =
    ap (nat_lt 0) (less-none (left_of H reel)) ∙ ap (λ x. nat_lt 0 (left_of H x)) (sym (same-true r reel here)) ∙ not-zero (left_of H r) some

-- A mounted reel without pieces left is on no slot.
spent : (b some : Bool) (o : Option MountRow) → (if (b && some) then o else None) ≡ (if some then (if b then o else None) else None)
spent true true o = refl
spent true false o = refl
spent false true o = refl
spent false false o = refl

step : (H : History) (minute number : ℕ) (reel : Name) (command : Command) → IsJudged Two H → command_refusal Two H minute command ≡ None
    → (if mounted_after (nat_lt 0 (left_after H command reel)) (λ m s. has (live_on H m s) reel) reel command (is_mounted H reel)
    then option_or (put_by reel number command) (last_put H reel) else None)
    ≡ mount_after (nat_lt 0 (left_after H command reel)) (λ m s. has (live_on H m s) reel) reel number command (mount_row H reel)
unfolding command_refusal
step H minute number reel (ReelReceived r part lot moisture quantity) judged accepted = by (same r reel) refl
  where
    receipt : Receipt
    receipt = record { part = part; lot = lot; moisture = moisture; quantity = quantity; effective = minute }

    by : (b : Bool) → same r reel ≡ b → (if (if b then false else is_mounted H reel) then last_put H reel else None) ≡ mount_row H reel
    by true here =
        let none = received-by H minute reel (ReelReceived r part lot moisture quantity) receipt accepted (ap (λ b. if b then Some receipt else None) here) in
        sym (ap (λ b. if b then last_put H reel else None) (unreceived-unmounted H reel judged none))
    by false here = refl
step H minute number reel (MaterialsLoaded m s r) judged accepted = by (same r reel) refl
  where
    row : MountRow
    row = record { since = number; machine = m; slot = s; reel = reel }

    by : (b : Bool) → same r reel ≡ b
        → (if (if b then nat_lt 0 (left_of H reel - 0) else is_mounted H reel) then option_or (if◌then◌else◌ {A = Option MountRow} b (Some row) None) (last_put H reel) else None)
        ≡ (if b then Some row else mount_row H reel)
    by true here = ap (λ c. if c then Some row else None) (some-after H r reel here (mountable H minute m s r _ accepted).some)
    by false here = refl
step H minute number reel (MaterialsSpliced m s r) judged accepted = by (same r reel) refl
  where
    row : MountRow
    row = record { since = number; machine = m; slot = s; reel = reel }

    by : (b : Bool) → same r reel ≡ b
        → (if (if b then nat_lt 0 (left_of H reel - 0) else is_mounted H reel) then option_or (if◌then◌else◌ {A = Option MountRow} b (Some row) None) (last_put H reel) else None)
        ≡ (if b then Some row else mount_row H reel)
    by true here = ap (λ c. if c then Some row else None) (some-after H r reel here (mountable H minute m s r _ accepted).some)
    by false here = refl
step H minute number reel (MaterialsUnloaded m s) judged accepted = off (is_mounted H reel) (has (live_on H m s) reel)
  where
    off : (b live : Bool) → (if (b && not live) then last_put H reel else None) ≡ (if live then None else (if b then last_put H reel else None))
    off true true = refl
    off true false = refl
    off false true = refl
    off false false = refl
step H minute number reel (MaterialsInstalled m board ds) judged accepted = spent (is_mounted H reel) _ (last_put H reel)
step H minute number reel (MaterialsScrapped m s n) judged accepted = spent (is_mounted H reel) _ (last_put H reel)
step H minute number reel (CountsTaken counts) judged accepted = spent (is_mounted H reel) _ (last_put H reel)
step H minute number reel _ judged accepted = refl

pub mount_row-next : (H : History) (e : Entry) (reel : Name) → IsJudged Two (e ∷ H)
    → mount_row (e ∷ H) reel ≡ mount_after (some_left (e ∷ H) reel) (λ m s. has (live_on H m s) reel) reel e.number e.stamped.command (mount_row H reel)
unfolding left_of
mount_row-next H e reel (next, judged) =
    ap (λ b. if b then last_put (e ∷ H) reel else None) (mounted-next H e reel (next, judged))
    ∙ step H e.effective e.number reel e.stamped.command judged (next-accepted H e next)
