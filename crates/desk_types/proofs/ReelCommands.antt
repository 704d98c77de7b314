-- The effects of commands on a reel.
use Rattle.desk_types.proofs.Common.{[], ◌∙◌, ◌∷◌, ◌≡◌, ap, bake_by, baked_by, Bool, exposure_starts, false}
use Rattle.desk_types.proofs.Common.{History, if◌then◌else◌, is_baked, IsUntouched, last_bake, latest, Name}
use Rattle.desk_types.proofs.Common.{None, open_by, option_map, option_or, receipt_by, receipt_of, refl, same}
use Rattle.desk_types.proofs.Common.{Some, true, unwrap_or, ℕ}
use Rattle.desk_types.proofs.Tests.{if-none}
use Rattle.desk_types.specs.declared.command.Command.{Command}
use Rattle.desk_types.specs.declared.command.Command.TheVariants.{ReelBaked, ReelReceived, ReelSealed}
use Rattle.desk_types.specs.declared.command.Entry.{Entry}
use Rattle.desk_types.specs.declared.command.Receipt.{Receipt}

-- The command neither receives nor bakes the reel.
pub record IsQuiet (name : Name) (minute : ℕ) (command : Command) : Type 0 where
  pub receipt : receipt_by name minute command ≡ None
  pub bake : bake_by name minute command ≡ None
  pub baked : baked_by name command ≡ None

in-bag : {P : Type 0} (b : Bool) → (if b then Some false else None) ≡ Some true → P
in-bag true is = cc
in-bag false is = cc

pub IsQuiet-open : (name : Name) (minute : ℕ) (command : Command) → open_by name command ≡ Some true → IsQuiet name minute command
IsQuiet-open name minute (ReelReceived r part lot moisture quantity) is = in-bag (same r name) is
IsQuiet-open name minute (ReelBaked r) is = in-bag (same r name) is
IsQuiet-open name minute _ is = record { receipt = refl; bake = refl; baked = refl }

pub IsQuiet-untouched : (name : Name) (minute : ℕ) (command : Command) → open_by name command ≡ None → IsQuiet name minute command
IsQuiet-untouched name minute (ReelReceived r part lot moisture quantity) is = record {
  receipt = if-none (same r name) false (record { part = part; lot = lot; moisture = moisture; quantity = quantity; effective = minute }) is;
  bake = refl;
  baked = if-none (same r name) false false is;
}
IsQuiet-untouched name minute (ReelBaked r) is = record {
  receipt = refl;
  bake = if-none (same r name) false minute is;
  baked = if-none (same r name) false true is;
}
IsQuiet-untouched name minute _ is = record { receipt = refl; bake = refl; baked = refl }

pub IsQuiet-seal : (name : Name) (minute : ℕ) (reel : Name) → IsQuiet name minute (ReelSealed reel)
IsQuiet-seal name minute reel = record { receipt = refl; bake = refl; baked = refl }

-- A quiet entry keeps the receipt, the last bake and the minute when exposure starts.
pub receipt_of-quiet : (H : History) (e : Entry) (name : Name) → IsQuiet name e.effective e.stamped.command → receipt_of (e ∷ H) name ≡ receipt_of H name
receipt_of-quiet H e name quiet = ap (λ o. option_or o (receipt_of H name)) quiet.receipt

pub last_bake-quiet : (H : History) (e : Entry) (name : Name) → IsQuiet name e.effective e.stamped.command → last_bake (e ∷ H) name ≡ last_bake H name
last_bake-quiet H e name quiet = ap (λ o. option_or o (last_bake H name)) quiet.bake

pub last_bake-untouched : (H : History) (name : Name) → IsUntouched H name → last_bake H name ≡ None
last_bake-untouched [] name untouched = refl
last_bake-untouched (e ∷ H) name (none, rest) =
    last_bake-quiet H e name (IsQuiet-untouched name e.effective e.stamped.command none) ∙ last_bake-untouched H name rest

pub is_baked-quiet : (H : History) (e : Entry) (name : Name) → IsQuiet name e.effective e.stamped.command → is_baked (e ∷ H) name ≡ is_baked H name
is_baked-quiet H e name quiet = ap (λ o. unwrap_or (option_or o (latest (λ (e' : Entry). baked_by name e'.stamped.command) H)) false) quiet.baked

pub exposure_starts-quiet : (H : History) (e : Entry) (name : Name) → IsQuiet name e.effective e.stamped.command
    → exposure_starts (e ∷ H) name ≡ exposure_starts H name
exposure_starts-quiet H e name quiet =
    ap (λ o. unwrap_or (option_or o (option_map (λ (r : Receipt). r.effective) (receipt_of (e ∷ H) name))) 0) (last_bake-quiet H e name quiet)
    ∙ ap (λ o. unwrap_or (option_or (last_bake H name) (option_map (λ (r : Receipt). r.effective) o)) 0) (receipt_of-quiet H e name quiet)
