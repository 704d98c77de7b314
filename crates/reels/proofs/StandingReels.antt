-- A reel keeps its ranges and keeps representing its history, command by command.
use Rattle.desk_types.proofs.Common.{◌+◌, ◌-◌, ◌∙◌, ◌∷◌, ◌≡◌, ◌≤◌, ap, arith, bake_by, baked_row, Bool}
use Rattle.desk_types.proofs.Common.{exposure_of, exposure_starts, false, fresh_row, History, if◌then◌else◌}
use Rattle.desk_types.proofs.Common.{is_baked, IsUntouched, last_bake, LevelWithLabel, Name, None}
use Rattle.desk_types.proofs.Common.{open_by, opened_row, Option, option_map, option_map_or, option_or}
use Rattle.desk_types.proofs.Common.{out_since, receipt_by, receipt_of, refl, same-refl, sealed_row}
use Rattle.desk_types.proofs.Common.{since_after, Some, subst, sym, true, unwrap_or, ℕ}
use Rattle.desk_types.proofs.{Exposure.exposure-after, Exposure.exposure-anew, Exposure.exposure-before}
use Rattle.desk_types.proofs.{Exposure.exposure-untouched, ReelCommands.exposure_starts-quiet}
use Rattle.desk_types.proofs.{ReelCommands.is_baked-quiet, ReelCommands.IsQuiet, ReelCommands.IsQuiet-open}
use Rattle.desk_types.proofs.{ReelCommands.IsQuiet-seal, ReelCommands.IsQuiet-untouched}
use Rattle.desk_types.proofs.{ReelCommands.last_bake-untouched}
use Rattle.desk_types.specs.{Row.exposure_at, declared.command.Command.TheVariants.ReelBaked}
use Rattle.desk_types.specs.{declared.command.Command.TheVariants.ReelReceived}
use Rattle.desk_types.specs.{declared.command.Command.TheVariants.ReelSealed, declared.command.Entry.Entry}
use Rattle.desk_types.specs.{declared.command.Receipt.Receipt}
use Rattle.desk_types.specs.{declared.row.ReelRow.ReelRow}
use Rattle.reels.specs.{Fitting.IsFitting, Reel.HasReceipt, Reel.RowStandsFor, Reel.StandsFor}
use Rattle.reels.specs.{declared.reel.Reel.Reel}
use Rattle.std.specs.Option.{ForNone, ForSome}

-- ---- ranges

pub exposure-within : (row : ReelRow) (found last at : ℕ) → IsFitting row found last → last ≤ at → exposure_at row at ≤ at
exposure-within row found last at fits le = by row.open_since fits.opened fits.sealed
  where
    by : (o : Option ℕ) → ForSome o (λ s. (row.used ≤ s) × (s ≤ last)) → ForNone o (row.used ≤ last) → row.used + option_map_or (λ s. at - s) o 0 ≤ at
    by None out in_bag = let low = in_bag refl in omega (arith, low, le)
    by (Some s) out in_bag = let both = out s refl in omega (arith, both.0, both.1, le)

pub opened-fits : (row : ReelRow) (found last at : ℕ) → IsFitting row found last → last ≤ at → IsFitting (opened_row at row) found at
opened-fits row found last at fits le =
    let times = by row.open_since fits.opened fits.sealed in
    record { label = fits.label; balance = fits.balance; finds = fits.finds; opened = times.0; sealed = times.1 }
  where
    by : (o : Option ℕ) → ForSome o (λ s. (row.used ≤ s) × (s ≤ last)) → ForNone o (row.used ≤ last)
        → ForSome (option_or o (Some at)) (λ s. (row.used ≤ s) × (s ≤ at)) × ForNone (option_or o (Some at)) (row.used ≤ at)
    by None out in_bag = let low = in_bag refl in (
      λ x is. let same : at ≡ x = ap (λ o. unwrap_or o 0) is in (omega (arith, low, le, same), omega (arith, same)),
      λ none. cc,
    )
    by (Some s) out in_bag = let both = out s refl in (
      λ x is. let same : s ≡ x = ap (λ o. unwrap_or o 0) is in (omega (arith, both.0, same), omega (arith, both.1, le, same)),
      λ none. cc,
    )

pub sealed-fits : (row : ReelRow) (found last at : ℕ) → IsFitting row found last → last ≤ at → IsFitting (sealed_row at row) found at
sealed-fits row found last at fits le =
    record { label = fits.label; balance = fits.balance; finds = fits.finds; opened = λ x is. cc; sealed = λ _. exposure-within row found last at fits le }

-- ---- receipts

HasReceipt-next : (H : History) (e : Entry) (name : Name) (row : ReelRow) (found used : ℕ) (since : Option ℕ) (baked : Bool) → HasReceipt H name row found
    → receipt_by name e.effective e.stamped.command ≡ None → HasReceipt (e ∷ H) name (record row { used = used; open_since = since; baked = baked }) found
HasReceipt-next H e name row found used since baked has none = record {
  receipt = has.receipt;
  is = ap (λ o. option_or o (receipt_of H name)) none ∙ has.is;
  part = has.part;
  lot = has.lot;
  level = has.level;
  label = has.label;
  received = has.received;
}

in-bag : (name : Name) → open_by name (ReelSealed name) ≡ Some false
in-bag name = ap (λ b. if b then Some false else None) (same-refl name)

in-bag-baked : (name : Name) → open_by name (ReelBaked name) ≡ Some false
in-bag-baked name = ap (λ b. if b then Some false else None) (same-refl name)

pub StandsFor-untouched : (H : History) (e : Entry) (name : Name) (reel : Reel) → StandsFor H name reel → open_by name e.stamped.command ≡ None → StandsFor (e ∷ H) name reel
StandsFor-untouched H e name reel stands none =
    let quiet = IsQuiet-untouched name e.effective e.stamped.command none in
    let starts = exposure_starts-quiet H e name quiet in
    record {
      receipt = HasReceipt-next H e name reel.row reel.found reel.row.used reel.row.open_since reel.row.baked stands.receipt quiet.receipt;
      baked = stands.baked ∙ sym (is_baked-quiet H e name quiet);
      open_since = stands.open_since ∙ sym (ap (λ o. since_after o e.effective (out_since H name)) none);
      starts = subst (λ s. s ≤ reel.last) (sym starts) stands.starts;
      used = stands.used ∙ sym (exposure-untouched H e name none starts _);
      exposure = λ minute le. stands.exposure minute le ∙ sym (exposure-untouched H e name none starts minute);
    }

-- ---- opens, loads and splices

first-open : (o : Option ℕ) (m : ℕ) → option_or o (Some m) ≡ Some (unwrap_or o m)
first-open None m = refl
first-open (Some s) m = refl

since-fits : (o : Option ℕ) (last m : ℕ) → ForSome o (λ s. s ≤ last) → last ≤ m → unwrap_or o m ≤ m
since-fits None last m fits le = omega arith
since-fits (Some s) last m fits le = let here : s ≤ last = fits s refl in let fit : s ≤ m = omega arith in fit

out-on : (o : Option ℕ) (used last m minute : ℕ) → ForSome o (λ s. s ≤ last) → last ≤ m → m ≤ minute
    → used + option_map_or (λ s. minute - s) (Some (unwrap_or o m)) 0 ≡ used + option_map_or (λ s. m - s) o 0 + (minute - m)
out-on None used last m minute fits le low = let is : used + (minute - m) ≡ used + 0 + (minute - m) = omega arith in is
out-on (Some s) used last m minute fits le low =
    let here : s ≤ last = fits s refl in
    let is : used + (minute - s) ≡ used + (m - s) + (minute - m) = omega arith in
    is

used-since : (H : History) (name : Name) (row : ReelRow) (found last m : ℕ) (o : Option ℕ) → RowStandsFor H name row found last → row.open_since ≡ o → last ≤ m
    → row.used ≡ exposure_of H name (unwrap_or o m)
used-since H name row found last m None stands is le =
    omega (arith, ap (λ o. row.used + option_map_or (λ s. m - s) o 0) is) ∙ stands.exposure m le
used-since H name row found last m (Some s) stands is le = stands.used ∙ ap (λ o. exposure_of H name (unwrap_or o last)) is

pub StandsFor-open : (H : History) (e : Entry) (name : Name) (row : ReelRow) (found last at : ℕ) → RowStandsFor H name row found last
    → open_by name e.stamped.command ≡ Some true → last ≤ at → e.effective ≡ at → ForSome row.open_since (λ since. since ≤ last)
    → RowStandsFor (e ∷ H) name (opened_row at row) found at
StandsFor-open H e name row found last at stands says le now fits =
    let quiet = IsQuiet-open name e.effective e.stamped.command says in
    let starts = exposure_starts-quiet H e name quiet in
    let since = first-open row.open_since at in
    record {
      receipt = HasReceipt-next H e name row found row.used (option_or row.open_since (Some at)) row.baked stands.receipt quiet.receipt;
      baked = stands.baked ∙ sym (is_baked-quiet H e name quiet);
      open_since = ap (λ m. option_or row.open_since (Some m)) (sym now) ∙ ap (λ s. option_or s (Some e.effective)) stands.open_since
          ∙ sym (ap (λ o. since_after o e.effective (out_since H name)) says);
      starts = subst (λ s. s ≤ at) (sym starts) (omega (arith, stands.starts));
      used = used-since H name row found last at row.open_since stands refl le
          ∙ sym (exposure-before H e name starts (unwrap_or row.open_since at) (subst (λ m. unwrap_or row.open_since at ≤ m) (sym now) (since-fits row.open_since last at fits le)))
          ∙ sym (ap (λ o. exposure_of (e ∷ H) name (unwrap_or o at)) since);
      exposure = λ minute low.
          let sum : exposure_of (e ∷ H) name minute ≡ exposure_of H name e.effective + (minute - e.effective) =
          exposure-after H e name true says starts (omega (arith, stands.starts)) minute (omega arith) in
          let kept : exposure_at row at ≡ exposure_of H name at = stands.exposure at le in
          ap (λ o. row.used + option_map_or (λ s. minute - s) o 0) since
          ∙ out-on row.open_since row.used last at minute fits le low
          ∙ ap (λ x. x + (minute - at)) kept
          ∙ ap (λ m. exposure_of H name m + (minute - m)) (sym now)
          ∙ sym sum;
    }

-- ---- seals

pub StandsFor-seal : (H : History) (e : Entry) (name : Name) (row : ReelRow) (found last at : ℕ) → RowStandsFor H name row found last
    → e.stamped.command ≡ ReelSealed name → last ≤ at → e.effective ≡ at → RowStandsFor (e ∷ H) name (sealed_row at row) found at
StandsFor-seal H e name row found last at stands command le now =
    let quiet : IsQuiet name e.effective e.stamped.command = subst (IsQuiet name e.effective) (sym command) (IsQuiet-seal name e.effective name) in
    let starts = exposure_starts-quiet H e name quiet in
    let says : open_by name e.stamped.command ≡ Some false = ap (open_by name) command ∙ in-bag name in
    let kept : exposure_at row at ≡ exposure_of H name at = stands.exposure at le in
    record {
      receipt = HasReceipt-next H e name row found (exposure_at row at) None row.baked stands.receipt quiet.receipt;
      baked = stands.baked ∙ sym (is_baked-quiet H e name quiet);
      open_since = sym (ap (λ o. since_after o e.effective (out_since H name)) says);
      starts = subst (λ s. s ≤ at) (sym starts) (omega (arith, stands.starts));
      used = kept ∙ sym (exposure-before H e name starts at (omega arith));
      exposure = λ minute low.
          let sum : exposure_of (e ∷ H) name minute ≡ exposure_of H name e.effective + 0 =
          exposure-after H e name false says starts (omega (arith, stands.starts)) minute (omega arith) in
          ap (λ u. u + 0) kept ∙ ap (λ m. exposure_of H name m + 0) (sym now) ∙ sym sum;
    }

-- ---- bakes and receipts

anew : (H : History) (e : Entry) (name : Name) (row : ReelRow) (found at : ℕ) → HasReceipt (e ∷ H) name row found → row.baked ≡ is_baked (e ∷ H) name
    → open_by name e.stamped.command ≡ Some false → exposure_starts (e ∷ H) name ≡ e.effective → e.effective ≡ at → row.used ≡ 0 → row.open_since ≡ None
    → RowStandsFor (e ∷ H) name row found at
anew H e name row found at receipt baked says starts now none sealed = record {
  receipt = receipt;
  baked = baked;
  open_since = sealed ∙ sym (ap (λ o. since_after o e.effective (out_since H name)) says);
  starts = omega arith;
  used = none ∙ sym (exposure-anew H e name says starts _);
  exposure = λ minute low. ap (λ o. row.used + option_map_or (λ s. minute - s) o 0) sealed ∙ ap (λ u. u + 0) none ∙ sym (exposure-anew H e name says starts minute);
}

pub StandsFor-bake : (H : History) (e : Entry) (name : Name) (row : ReelRow) (found last at : ℕ) → RowStandsFor H name row found last
    → e.stamped.command ≡ ReelBaked name → e.effective ≡ at → RowStandsFor (e ∷ H) name (baked_row row) found at
StandsFor-bake H e name row found last at stands command now = anew H e name (baked_row row) found at receipt baked says starts now refl refl
  where
    receipt : HasReceipt (e ∷ H) name (baked_row row) found
    receipt = HasReceipt-next H e name row found 0 None true stands.receipt (ap (receipt_by name e.effective) command)

    baked : true ≡ is_baked (e ∷ H) name
    baked = sym (rw (command, same-refl name))

    says : open_by name e.stamped.command ≡ Some false
    says = ap (open_by name) command ∙ in-bag-baked name

    starts : exposure_starts (e ∷ H) name ≡ e.effective
    starts = rw (command, same-refl name)

pub StandsFor-receive : (H : History) (e : Entry) (name part lot : Name) (moisture : LevelWithLabel) (quantity at : ℕ) → IsUntouched H name
    → e.stamped.command ≡ ReelReceived name part lot moisture quantity → e.effective ≡ at
    → RowStandsFor (e ∷ H) name (fresh_row name (record { part = part; lot = lot; moisture = moisture; quantity = quantity; effective = at })) 0 at
StandsFor-receive H e name part lot moisture quantity at untouched command now =
    anew H e name (fresh_row name (record { part = part; lot = lot; moisture = moisture; quantity = quantity; effective = at })) 0 at receipt unbaked says starts now refl refl
  where
    is_told : receipt_of (e ∷ H) name ≡ Some (record { part = part; lot = lot; moisture = moisture; quantity = quantity; effective = e.effective })
    is_told = rw (command, same-refl name)

    receipt : HasReceipt (e ∷ H) name (fresh_row name (record { part = part; lot = lot; moisture = moisture; quantity = quantity; effective = at })) 0
    receipt = record {
      receipt = record { part = part; lot = lot; moisture = moisture; quantity = quantity; effective = e.effective };
      is = is_told;
      part = refl;
      lot = refl;
      level = refl;
      label = refl;
      received = omega arith;
    }

    unbaked : false ≡ is_baked (e ∷ H) name
    unbaked = sym (rw (command, same-refl name))

    says : open_by name e.stamped.command ≡ Some false
    says = rw (command, same-refl name)

    no_bake : last_bake (e ∷ H) name ≡ None
    no_bake = ap (λ c. option_or (bake_by name e.effective c) (last_bake H name)) command ∙ last_bake-untouched H name untouched

    starts : exposure_starts (e ∷ H) name ≡ e.effective
    starts =
        ap (λ o. unwrap_or (option_or o (option_map (λ (r : Receipt). r.effective) (receipt_of (e ∷ H) name))) 0) no_bake
        ∙ ap (λ o. unwrap_or (option_map (λ (r : Receipt). r.effective) o) 0) is_told
