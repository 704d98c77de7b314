-- The row of a reel after one entry more.
use Rattle.desk_types.proofs.Common.{[], ◌+◌, ◌-◌, ◌==◌, ◌∙◌, ◌∷◌, ◌≡◌, ◌≤◌, ap, arith, baked_by, Bool}
use Rattle.desk_types.proofs.Common.{columns_of, eqb-true, exposure_of, exposure_starts, false, found_by}
use Rattle.desk_types.proofs.Common.{found_of, found_row, fresh_row, History, if◌then◌else◌, is_baked}
use Rattle.desk_types.proofs.Common.{IsJudged, last_bake, latest, left_of, Name, None, now_of, open_by}
use Rattle.desk_types.proofs.Common.{Option, option_map, option_map_or, option_or, out_since, picks_of}
use Rattle.desk_types.proofs.Common.{pieces_by, pieces_picked, placed_of, receipt_by, receipt_of, received_of}
use Rattle.desk_types.proofs.Common.{reel_row, refl, scrapped_of, since_after, Some, sym, true, unwrap_or}
use Rattle.desk_types.proofs.Common.{used_of, view_of, ℕ}
use Rattle.desk_laws.proofs.Common.{Entry, exposure-untouched, exposure_starts-quiet, Receipt, ReelRow, Two}
use Rattle.desk_laws.proofs.Accepted.{received-once}
use Rattle.desk_laws.proofs.Balance.{balance, left-next, left-received, unreceived-empty}
use Rattle.desk_laws.proofs.Exposed.{exposure-in_bag, now-before, now-next, since-by, used-then}
use Rattle.desk_laws.proofs.Judgements.{by-desk_minute, or-none, untouched}
use Rattle.desk_laws.proofs.Totals.{placed-next, scrapped-next}
use Rattle.desk_types.proofs.Exposure.{exposure-anew, exposure-before}
use Rattle.desk_types.proofs.ReelCommands.{IsQuiet, last_bake-untouched}
use Rattle.state_rows.proofs.ReelCommands.{IsBake-said, IsQuiet-said, IsReceipt, IsReceipt-said}
use Rattle.state_rows.specs.After.{bakes, found_after, reel_after, step_row, used_after}

-- ---- pieces

found-next : (H : History) (e : Entry) (reel : Name) → found_of (e ∷ H) reel ≡ found_of H reel + found_by (left_of H reel) reel e.stamped.command
unfolding found_of
found-next H e reel = refl

left-told : (H : History) (e : Entry) (reel : Name)
    → left_of (e ∷ H) reel ≡ unwrap_or (pieces_by reel e.stamped.command) (left_of H reel - pieces_picked (picks_of H e.stamped.command) reel)
unfolding left_of
left-told H e reel = refl

unreceived-unfound : (H : History) (reel : Name) → IsJudged Two H → receipt_of H reel ≡ None → found_of H reel ≡ 0
unfolding found_of
unreceived-unfound [] reel judged none = refl
unreceived-unfound (e ∷ H) reel (next, judged) none =
    let both = or-none (receipt_by reel e.effective e.stamped.command) (receipt_of H reel) none in
    let before = unreceived-unfound H reel judged both.1 in
    let left = left-next H e reel (next, judged) both.0 in
    let after = unreceived-empty (e ∷ H) reel (next, judged) none in
    let more = found-next H e reel in
    omega (arith, before, left, after, more)

-- ---- exposure

used-quiet : (H : History) (e : Entry) (reel : Name) (said : Option Bool) (since : Option ℕ) → IsJudged Two (e ∷ H) → IsQuiet reel e.effective e.stamped.command
    → open_by reel e.stamped.command ≡ said → out_since H reel ≡ since
    → exposure_of (e ∷ H) reel (unwrap_or (since_after said e.effective since) (now_of (e ∷ H))) ≡ used_after false said e.effective since (exposure_of H reel (unwrap_or since (now_of H)))
used-quiet H e reel None None (next, judged) quiet says since =
    exposure-untouched H e reel says (exposure_starts-quiet H e reel quiet) (now_of (e ∷ H))
    ∙ ap (exposure_of H reel) (now-next H e next)
    ∙ exposure-in_bag H reel e.effective since (now-before H e next)
used-quiet H e reel None (Some from) (next, judged) quiet says since = exposure-untouched H e reel says (exposure_starts-quiet H e reel quiet) from
used-quiet H e reel (Some true) None (next, judged) quiet says since =
    exposure-before H e reel (exposure_starts-quiet H e reel quiet) e.effective (omega arith) ∙ exposure-in_bag H reel e.effective since (now-before H e next)
used-quiet H e reel (Some true) (Some from) (next, judged) quiet says since =
    let early = since-by H reel from (now_of H) (by-desk_minute H) since in
    let le = now-before H e next in
    exposure-before H e reel (exposure_starts-quiet H e reel quiet) from (omega (arith, early, le))
used-quiet H e reel (Some false) before (next, judged) quiet says since =
    ap (exposure_of (e ∷ H) reel) (now-next H e next)
    ∙ exposure-before H e reel (exposure_starts-quiet H e reel quiet) e.effective (omega arith)
    ∙ used-then H reel e.effective before judged since (now-before H e next)

used-next : (H : History) (e : Entry) (reel : Name) → IsJudged Two (e ∷ H) → receipt_by reel e.effective e.stamped.command ≡ None
    → used_of (e ∷ H) reel ≡ used_after (bakes reel e.stamped.command) (open_by reel e.stamped.command) e.effective (out_since H reel) (used_of H reel)
used-next H e reel judged other = by (bakes reel e.stamped.command) refl
  where
    by : (b : Bool) → bakes reel e.stamped.command ≡ b
        → used_of (e ∷ H) reel ≡ used_after b (open_by reel e.stamped.command) e.effective (out_since H reel) (used_of H reel)
    by true baked =
        let bake = IsBake-said reel e.effective e.stamped.command baked in
        exposure-anew H e reel bake.in_bag (ap (λ o. unwrap_or (option_or (option_or o (last_bake H reel)) (option_map (λ (r : Receipt). r.effective) (receipt_of (e ∷ H) reel))) 0) bake.bake) _
    by false quiet =
        used-quiet H e reel (open_by reel e.stamped.command) (out_since H reel) judged (IsQuiet-said reel e.effective e.stamped.command other quiet) refl refl

-- ---- rows

pub same-rows : (a b : ReelRow) → a.reel ≡ b.reel → a.part ≡ b.part → a.lot ≡ b.lot → a.level ≡ b.level → a.label ≡ b.label → a.received ≡ b.received → a.placed ≡ b.placed
    → a.scrapped ≡ b.scrapped → a.remaining ≡ b.remaining → a.used ≡ b.used → a.open_since ≡ b.open_since → a.baked ≡ b.baked → a ≡ b
same-rows a b reel part lot level label received placed scrapped remaining used open_since baked = λ j. record {
  reel = reel j;
  part = part j;
  lot = lot j;
  level = level j;
  label = label j;
  received = received j;
  placed = placed j;
  scrapped = scrapped j;
  remaining = remaining j;
  used = used j;
  open_since = open_since j;
  baked = baked j;
}

abbrev pub row_with : History → Name → Receipt → ReelRow
row_with H reel receipt = columns_of (view_of H reel receipt)

row-step : (H : History) (e : Entry) (reel : Name) (receipt : Receipt) → IsJudged Two (e ∷ H) → receipt_by reel e.effective e.stamped.command ≡ None
    → row_with (e ∷ H) reel receipt ≡ step_row e.effective (picks_of H e.stamped.command) reel e.stamped.command (row_with H reel receipt)
row-step H e reel receipt judged other =
    same-rows _ _ refl refl refl refl refl received (placed-next H e reel) (scrapped-next H e reel) (left-told H e reel) (used-next H e reel judged other) refl baked
  where
    received : received_of (e ∷ H) reel ≡ received_of H reel + found_by (left_of H reel) reel e.stamped.command
    received =
        let first = ap (λ o. option_map_or (λ (r : Receipt). r.quantity) (option_or o (receipt_of H reel)) 0) other in
        let more = found-next H e reel in
        omega (arith, first, more)

    told : (said : Option Bool) → unwrap_or (option_or said (latest (λ (x : Entry). baked_by reel x.stamped.command) H)) false ≡ unwrap_or said (is_baked H reel)
    told None = refl
    told (Some b) = refl

    baked : is_baked (e ∷ H) reel ≡ unwrap_or (baked_by reel e.stamped.command) (is_baked H reel)
    baked = told (baked_by reel e.stamped.command)

row-fresh : (H : History) (e : Entry) (reel : Name) (receipt : Receipt) → IsJudged Two (e ∷ H) → receipt_by reel e.effective e.stamped.command ≡ Some receipt
    → row_with (e ∷ H) reel receipt ≡ fresh_row reel receipt
row-fresh H e reel receipt (next, judged) is =
    same-rows _ _ refl refl refl refl refl
    got (omega (arith, all, got, left)) (omega (arith, all, got, left)) left used
    (ap (λ o. since_after o e.effective (out_since H reel)) said.in_bag)
    (ap (λ o. unwrap_or (option_or o (latest (λ (x : Entry). baked_by reel x.stamped.command) H)) false) said.baked)
  where
    said : IsReceipt reel e.effective e.stamped.command receipt
    said = IsReceipt-said reel e.effective e.stamped.command receipt is

    none : receipt_of H reel ≡ None
    none = received-once H e reel receipt next is

    got : received_of (e ∷ H) reel ≡ receipt.quantity
    got =
        let first = ap (λ o. option_map_or (λ (r : Receipt). r.quantity) (option_or o (receipt_of H reel)) 0) is in
        let more = found-next H e reel in
        let before = unreceived-unfound H reel judged none in
        omega (arith, first, more, before, said.finds (left_of H reel))

    left : left_of (e ∷ H) reel ≡ receipt.quantity
    left = left-received H e reel receipt is

    all : received_of (e ∷ H) reel ≡ placed_of (e ∷ H) reel + scrapped_of (e ∷ H) reel + left_of (e ∷ H) reel
    all = balance (e ∷ H) reel (next, judged)

    starts : exposure_starts (e ∷ H) reel ≡ e.effective
    starts =
        ap (λ o. unwrap_or (option_or (option_or o (last_bake H reel)) (option_map (λ (r : Receipt). r.effective) (receipt_of (e ∷ H) reel))) 0) said.bake
        ∙ ap (λ o. unwrap_or (option_or o (option_map (λ (r : Receipt). r.effective) (receipt_of (e ∷ H) reel))) 0) (last_bake-untouched H reel (untouched H reel judged none))
        ∙ ap (λ o. unwrap_or (option_map (λ (r : Receipt). r.effective) (option_or o (receipt_of H reel))) 0) is
        ∙ said.at

    used : used_of (e ∷ H) reel ≡ 0
    used = exposure-anew H e reel said.in_bag starts _

pub reel_row-next : (H : History) (e : Entry) (reel : Name) → IsJudged Two (e ∷ H)
    → reel_row (e ∷ H) reel ≡ reel_after e.effective (picks_of H e.stamped.command) reel e.stamped.command (reel_row H reel)
reel_row-next H e reel judged = by (receipt_by reel e.effective e.stamped.command) refl
  where
    kept : (had : Option Receipt) → receipt_by reel e.effective e.stamped.command ≡ None
        → option_map columns_of (option_map (view_of (e ∷ H) reel) had)
        ≡ option_map (step_row e.effective (picks_of H e.stamped.command) reel e.stamped.command) (option_map columns_of (option_map (view_of H reel) had))
    kept None other = refl
    kept (Some receipt) other = ap Some (row-step H e reel receipt judged other)

    by : (said : Option Receipt) → receipt_by reel e.effective e.stamped.command ≡ said
        → option_map columns_of (option_map (view_of (e ∷ H) reel) (option_or said (receipt_of H reel)))
        ≡ option_or (option_map (fresh_row reel) said) (option_map (step_row e.effective (picks_of H e.stamped.command) reel e.stamped.command) (reel_row H reel))
    by None other = kept (receipt_of H reel) other
    by (Some receipt) is = ap Some (row-fresh H e reel receipt judged is)

-- ---- found pieces

pub found-kept : (H : History) (reel : Name) → unwrap_or (found_row H reel) 0 ≡ found_of H reel
found-kept H reel = by (found_of H reel == 0) refl
  where
    by : (b : Bool) → (found_of H reel == 0) ≡ b → unwrap_or (if b then None else Some (found_of H reel)) 0 ≡ found_of H reel
    by true none = sym (eqb-true (found_of H reel) 0 none)
    by false some = refl

pub found_row-next : (H : History) (e : Entry) (reel : Name) → found_row (e ∷ H) reel ≡ found_after (left_of H reel) reel e.stamped.command (found_row H reel)
found_row-next H e reel =
    ap (λ (n : ℕ). if n == 0 then None else Some n)
    (found-next H e reel ∙ ap (λ n. n + found_by (left_of H reel) reel e.stamped.command) (sym (found-kept H reel)))
