-- Commands that receive, bake or only handle a reel.
use Rattle.desk_types.proofs.Common.{[], ◌∙◌, ◌∷◌, ◌≡◌, ap, bake_by, baked_by, Bool, false, found_by, History}
use Rattle.desk_types.proofs.Common.{if◌then◌else◌, IsUntouched, last_bake, Name, None, open_by, Option}
use Rattle.desk_types.proofs.Common.{option_map_or, option_or, receipt_by, refl, same, Some, sym, true}
use Rattle.desk_types.proofs.Common.{unwrap_or, ℕ}
use Rattle.desk_laws.proofs.Common.{Command, IsQuiet-untouched, Receipt, ReelBaked, ReelReceived}
use Rattle.desk_types.proofs.ReelCommands.{IsQuiet}
use Rattle.state_rows.specs.After.{bakes}

pub record IsReceipt (reel : Name) (minute : ℕ) (command : Command) (receipt : Receipt) : Type 0 where
  pub in_bag : open_by reel command ≡ Some false
  pub bake : bake_by reel minute command ≡ None
  pub baked : baked_by reel command ≡ Some false
  pub at : receipt.effective ≡ minute
  pub finds : (left : ℕ) → found_by left reel command ≡ 0

pub IsReceipt-said : (reel : Name) (minute : ℕ) (command : Command) (receipt : Receipt) → receipt_by reel minute command ≡ Some receipt → IsReceipt reel minute command receipt
IsReceipt-said reel minute (ReelReceived r part lot moisture quantity) receipt is = by (same r reel) refl is
  where
    told : Receipt
    told = record { part = part; lot = lot; moisture = moisture; quantity = quantity; effective = minute }

    by : (b : Bool) → same r reel ≡ b → if◌then◌else◌ {A = Option Receipt} b (Some told) None ≡ Some receipt
        → IsReceipt reel minute (ReelReceived r part lot moisture quantity) receipt
    by true here is = record {
      in_bag = ap (λ c. if c then Some false else None) here;
      bake = refl;
      baked = ap (λ c. if c then Some false else None) here;
      at = ap (λ o. option_map_or (λ (r : Receipt). r.effective) o 0) (sym is);
      finds = λ left. refl;
    }
    by false here is = cc
IsReceipt-said reel minute _ receipt is = cc

pub record IsBake (reel : Name) (minute : ℕ) (command : Command) : Type 0 where
  pub in_bag : open_by reel command ≡ Some false
  pub bake : bake_by reel minute command ≡ Some minute
  pub baked : baked_by reel command ≡ Some true

pub IsBake-said : (reel : Name) (minute : ℕ) (command : Command) → bakes reel command ≡ true → IsBake reel minute command
IsBake-said reel minute (ReelReceived r part lot moisture quantity) is = by (same r reel) is
  where
    by : (b : Bool) → unwrap_or (if b then Some false else None) false ≡ true → IsBake reel minute (ReelReceived r part lot moisture quantity)
    by true is = cc
    by false is = cc
IsBake-said reel minute (ReelBaked r) is = by (same r reel) refl is
  where
    by : (b : Bool) → same r reel ≡ b → unwrap_or (if b then Some true else None) false ≡ true → IsBake reel minute (ReelBaked r)
    by true here is = record {
      in_bag = ap (λ c. if c then Some false else None) here;
      bake = ap (λ c. if c then Some minute else None) here;
      baked = ap (λ c. if c then Some true else None) here;
    }
    by false here is = cc
IsBake-said reel minute _ is = cc

pub IsQuiet-said : (reel : Name) (minute : ℕ) (command : Command) → receipt_by reel minute command ≡ None → bakes reel command ≡ false → IsQuiet reel minute command
IsQuiet-said reel minute (ReelReceived r part lot moisture quantity) none is = by (same r reel) refl none
  where
    told : Receipt
    told = record { part = part; lot = lot; moisture = moisture; quantity = quantity; effective = minute }

    by : (b : Bool) → same r reel ≡ b → if◌then◌else◌ {A = Option Receipt} b (Some told) None ≡ None
        → IsQuiet reel minute (ReelReceived r part lot moisture quantity)
    by true here none = cc
    by false here none = record { receipt = ap (λ c. if◌then◌else◌ {A = Option Receipt} c (Some told) None) here; bake = refl; baked = ap (λ c. if c then Some false else None) here }
IsQuiet-said reel minute (ReelBaked r) none is = by (same r reel) refl is
  where
    by : (b : Bool) → same r reel ≡ b → unwrap_or (if b then Some true else None) false ≡ false → IsQuiet reel minute (ReelBaked r)
    by true here is = cc
    by false here is = record { receipt = refl; bake = ap (λ c. if c then Some minute else None) here; baked = ap (λ c. if c then Some true else None) here }
IsQuiet-said reel minute _ none is = record { receipt = refl; bake = refl; baked = refl }
