-- The floor life of a reel after one entry more, as far as answers depend on it.
use Rattle.desk_types.proofs.Common.{◌&&◌, ◌+◌, ◌-◌, ◌∙◌, ◌∷◌, ◌≡◌, ◌≤◌, ap, arith, baked_by, Bool}
use Rattle.desk_types.proofs.Common.{exposure_of, exposure_starts, false, floor_life, History, if◌then◌else◌}
use Rattle.desk_types.proofs.Common.{is_baked, is_six, is_some, is_unbaked, IsJudged, last_bake}
use Rattle.desk_types.proofs.Common.{latest, LevelWithLabel, limit_of, minutes_left, Name, None, not, now_of}
use Rattle.desk_types.proofs.Common.{open_by, Option, option_and_then, option_map, option_map_or, option_or}
use Rattle.desk_types.proofs.Common.{out_since, receipt_by, receipt_of, refl, same, since_after, Some, true}
use Rattle.desk_types.proofs.Common.{unwrap_or, ℕ}
use Rattle.desk_laws.proofs.Common.{Command, Entry, exposure-untouched, exposure_starts-quiet}
use Rattle.desk_laws.proofs.Common.{IsQuiet-untouched, MaterialsLoaded, MaterialsSpliced, Receipt, ReelBaked}
use Rattle.desk_laws.proofs.Common.{ReelOpened, ReelReceived, ReelSealed, Two}
use Rattle.desk_laws.proofs.{Accepted.received-once, Agreeing.mark, Agreeing.marked, Agreeing.marks_of}
use Rattle.desk_laws.proofs.{Judgements.by-desk_minute, Judgements.by-later, Judgements.untouched}
use Rattle.desk_laws.proofs.{Openings.starts-by}
use Rattle.desk_types.proofs.{Exposure.exposure-after, Exposure.exposure-anew, ReelCommands.IsQuiet-open}
use Rattle.desk_types.proofs.{ReelCommands.IsQuiet-seal}
use Rattle.desk_types.proofs.{ReelCommands.last_bake-untouched, Tests.if-none, Tests.if-some}

-- ---- exposure

opens : {P : Type 0} (b : Bool) → (if b then Some true else None) ≡ Some false → P
opens true is = cc
opens false is = cc

-- Whether exposure begins anew with the command, where it puts a reel into its bag.
abbrev pub is_anew : Command → Bool
is_anew (ReelReceived reel part lot moisture quantity) = true
is_anew (ReelBaked reel) = true
is_anew _ = false

-- The exposure at a minute after a command that took effect at another, from the exposures before it.
abbrev exposed : Option Bool → Bool → ℕ → (ℕ → ℕ) → ℕ → ℕ
exposed None anew at before minute = before minute
exposed (Some true) anew at before minute = before at + (minute - at)
exposed (Some false) true at before minute = 0
exposed (Some false) false at before minute = before at + 0

-- A command that puts a reel into its bag.
into-bag : (H : History) (e : Entry) (reel : Name) (minute : ℕ) (command : Command) → IsJudged Two (e ∷ H) → exposure_starts H reel ≤ e.effective → e.effective ≤ minute
    → e.stamped.command ≡ command → open_by reel command ≡ Some false → exposure_of (e ∷ H) reel minute ≡ exposed (Some false) (is_anew command) e.effective (exposure_of H reel) minute
into-bag H e reel minute (ReelReceived r part lot moisture quantity) (next, judged) start le is says = exposure-anew H e reel (ap (open_by reel) is ∙ says) starts minute
  where
    its : same r reel ≡ true
    its = if-some (same r reel) false false says

    told : Receipt
    told = record { part = part; lot = lot; moisture = moisture; quantity = quantity; effective = e.effective }

    received : receipt_by reel e.effective e.stamped.command ≡ Some told
    received = ap (receipt_by reel e.effective) is ∙ ap (λ b. if b then Some told else None) its

    no_bake : last_bake (e ∷ H) reel ≡ None
    no_bake = rw is (last_bake-untouched H reel (untouched H reel judged (received-once H e reel told next received)))

    starts : exposure_starts (e ∷ H) reel ≡ e.effective
    starts =
        ap (λ o. unwrap_or (option_or o (option_map (λ (r : Receipt). r.effective) (receipt_of (e ∷ H) reel))) 0) no_bake
        ∙ ap (λ o. unwrap_or (option_map (λ (r : Receipt). r.effective) (option_or o (receipt_of H reel))) 0) received
into-bag H e reel minute (ReelBaked r) judged start le is says = exposure-anew H e reel (ap (open_by reel) is ∙ says) (rw (is, if-some (same r reel) false false says)) minute
into-bag H e reel minute (ReelSealed r) judged start le is says =
    exposure-after H e reel false (ap (open_by reel) is ∙ says) (exposure_starts-quiet H e reel (rw is (IsQuiet-seal reel e.effective r))) start minute le
into-bag H e reel minute (ReelOpened r) judged start le is says = opens (same r reel) says
into-bag H e reel minute (MaterialsLoaded m s r) judged start le is says = opens (same r reel) says
into-bag H e reel minute (MaterialsSpliced m s r) judged start le is says = opens (same r reel) says
into-bag H e reel minute _ judged start le is says = cc

-- The exposure after one entry more.
exposure-next : (H : History) (e : Entry) (reel : Name) (minute : ℕ) → IsJudged Two (e ∷ H) → now_of H ≤ e.effective → e.effective ≤ minute
    → exposure_of (e ∷ H) reel minute ≡ exposed (open_by reel e.stamped.command) (is_anew e.stamped.command) e.effective (exposure_of H reel) minute
exposure-next H e reel minute judged now le = by (open_by reel e.stamped.command) refl
  where
    start : exposure_starts H reel ≤ e.effective
    start = starts-by H reel e.effective (by-later H (now_of H) e.effective now (by-desk_minute H))

    by : (said : Option Bool) → open_by reel e.stamped.command ≡ said
        → exposure_of (e ∷ H) reel minute ≡ exposed said (is_anew e.stamped.command) e.effective (exposure_of H reel) minute
    by None none = exposure-untouched H e reel none (exposure_starts-quiet H e reel (IsQuiet-untouched reel e.effective e.stamped.command none)) minute
    by (Some true) says = exposure-after H e reel true says (exposure_starts-quiet H e reel (IsQuiet-open reel e.effective e.stamped.command says)) start minute le
    by (Some false) says = into-bag H e reel minute e.stamped.command judged start le refl says

-- ---- minutes left

-- The minutes left at a minute after a command that took effect at another, from the floor life after it and the minutes left before it.
abbrev pub remaining : Option Bool → Bool → ℕ → Option ℕ → (ℕ → Option ℕ) → ℕ → Option ℕ
remaining None anew at life before minute = before minute
remaining (Some true) anew at life before minute = option_map (λ left. left - (minute - at)) (before at)
remaining (Some false) true at life before minute = life
remaining (Some false) false at life before minute = before at

whole : (life : Option ℕ) → option_map (λ limit. limit - 0) life ≡ life
whole None = refl
whole (Some limit) = let is : limit - 0 ≡ limit = omega arith in ap (λ n. Some n) is

later : (life : Option ℕ) (exposure more : ℕ) → option_map (λ limit. limit - (exposure + more)) life ≡ option_map (λ left. left - more) (option_map (λ limit. limit - exposure) life)
later None exposure more = refl
later (Some limit) exposure more = let is : limit - (exposure + more) ≡ (limit - exposure) - more = omega arith in ap (λ n. Some n) is

as-before : (life : Option ℕ) (exposure : ℕ) → option_map (λ limit. limit - (exposure + 0)) life ≡ option_map (λ limit. limit - exposure) life
as-before life exposure = let is : exposure + 0 ≡ exposure = omega arith in ap (λ n. option_map (λ limit. limit - n) life) is

not-received : (reel : Name) (at : ℕ) (command : Command) → is_anew command ≡ false → receipt_by reel at command ≡ None
not-received reel at (ReelReceived r part lot moisture quantity) is = cc
not-received reel at _ is = refl

abbrev life_by : Option Receipt → Option ℕ
life_by o = option_and_then (λ (r : Receipt). limit_of r.moisture.level r.moisture.label) o

-- The minutes left after one entry more.
pub minutes-next : (H : History) (e : Entry) (reel : Name) (minute : ℕ) → IsJudged Two (e ∷ H) → now_of H ≤ e.effective → e.effective ≤ minute
    → minutes_left (e ∷ H) reel minute
    ≡ remaining (open_by reel e.stamped.command) (is_anew e.stamped.command) e.effective (floor_life (e ∷ H) reel) (minutes_left H reel) minute
minutes-next H e reel minute judged now le =
    ap (λ n. option_map (λ limit. limit - n) (floor_life (e ∷ H) reel)) (exposure-next H e reel minute judged now le)
    ∙ by (open_by reel e.stamped.command) (is_anew e.stamped.command) refl refl
  where
    at : ℕ
    at = e.effective

    quiet : receipt_by reel at e.stamped.command ≡ None → floor_life (e ∷ H) reel ≡ floor_life H reel
    quiet none = ap (λ o. life_by (option_or o (receipt_of H reel))) none

    by : (said : Option Bool) (anew : Bool) → open_by reel e.stamped.command ≡ said → is_anew e.stamped.command ≡ anew
        → option_map (λ limit. limit - exposed said anew at (exposure_of H reel) minute) (floor_life (e ∷ H) reel)
        ≡ remaining said anew at (floor_life (e ∷ H) reel) (minutes_left H reel) minute
    by None anew says is = ap (option_map (λ limit. limit - exposure_of H reel minute)) (quiet (IsQuiet-untouched reel at e.stamped.command says).receipt)
    by (Some true) anew says is =
        ap (option_map (λ limit. limit - (exposure_of H reel at + (minute - at)))) (quiet (IsQuiet-open reel at e.stamped.command says).receipt)
        ∙ later (floor_life H reel) (exposure_of H reel at) (minute - at)
    by (Some false) true says is = whole (floor_life (e ∷ H) reel)
    by (Some false) false says is =
        ap (option_map (λ limit. limit - (exposure_of H reel at + 0))) (quiet (not-received reel at e.stamped.command is))
        ∙ as-before (floor_life H reel) (exposure_of H reel at)

pub remaining-same : (said : Option Bool) (anew : Bool) (at : ℕ) (life : Option ℕ) (before other : ℕ → Option ℕ) (minute : ℕ) → at ≤ minute
    → ((m : ℕ) → at ≤ m → before m ≡ other m) → remaining said anew at life before minute ≡ remaining said anew at life other minute
remaining-same None anew at life before other minute le alike = alike minute le
remaining-same (Some true) anew at life before other minute le alike = ap (option_map (λ left. left - (minute - at))) (alike at (omega arith))
remaining-same (Some false) true at life before other minute le alike = refl
remaining-same (Some false) false at life before other minute le alike = alike at (omega arith)

-- The floor life by a mark.
pub life-marked : (H : History) (reel : Name) → floor_life H reel ≡ option_and_then (λ (m : Name × (Name × LevelWithLabel)). limit_of m.1.1.level m.1.1.label) (marks_of H reel)
life-marked H reel = by (receipt_of H reel)
  where
    by : (o : Option Receipt) → life_by o ≡ option_and_then (λ (m : Name × (Name × LevelWithLabel)). limit_of m.1.1.level m.1.1.label) (option_map mark o)
    by None = refl
    by (Some r) = refl

-- ---- bakes

-- Whether a reel with this mark waits for its bake after a command, by the command's word on a bake and whether it waited before.
abbrev pub waiting : Option Bool → Option (Name × (Name × LevelWithLabel)) → Bool → Bool
waiting None m before = before
waiting (Some baked) m before = option_map_or (λ (m : Name × (Name × LevelWithLabel)). is_six m.1.1.level) m false && not baked

unreceived : (reel : Name) (at : ℕ) (command : Command) → baked_by reel command ≡ None → receipt_by reel at command ≡ None
unreceived reel at (ReelReceived r part lot moisture quantity) none = if-none (same r reel) false _ none
unreceived reel at _ none = refl

-- What says whether a reel is baked puts it into its bag, and its exposure begins anew.
pub baked-anew : (reel : Name) (command : Command) (baked : Bool) → baked_by reel command ≡ Some baked → (open_by reel command ≡ Some false) × (is_anew command ≡ true)
baked-anew reel (ReelReceived r part lot moisture quantity) baked says = (ap (λ b. if b then Some false else None) (if-some (same r reel) false baked says), refl)
baked-anew reel (ReelBaked r) baked says = (ap (λ b. if b then Some false else None) (if-some (same r reel) true baked says), refl)
baked-anew reel _ baked says = cc

-- Whether the reel waits for its bake after one entry more.
pub unbaked-next : (H : History) (e : Entry) (reel : Name) → is_unbaked (e ∷ H) reel ≡ waiting (baked_by reel e.stamped.command) (marks_of (e ∷ H) reel) (is_unbaked H reel)
unbaked-next H e reel = by (baked_by reel e.stamped.command) refl
  where
    said : Option Bool → Bool
    said o = unwrap_or (option_or o (latest (λ (x : Entry). baked_by reel x.stamped.command) H)) false

    six : Option Receipt → Bool
    six o = option_map_or (λ (r : Receipt). is_six r.moisture.level) o false

    by : (o : Option Bool) → baked_by reel e.stamped.command ≡ o → is_unbaked (e ∷ H) reel ≡ waiting o (marks_of (e ∷ H) reel) (is_unbaked H reel)
    by None none =
        ap (λ o. six (receipt_of (e ∷ H) reel) && not (said o)) none
        ∙ ap (λ o. six (option_or o (receipt_of H reel)) && not (is_baked H reel)) (unreceived reel e.effective e.stamped.command none)
    by (Some baked) says =
        ap (λ o. six (receipt_of (e ∷ H) reel) && not (said o)) says
        ∙ ap (λ b. b && not baked) (marked (λ m. is_six m.1.1.level) false (receipt_of (e ∷ H) reel))

-- ---- bags

abbrev pub out_after : Option Bool → Bool → Bool
out_after None before = before
out_after (Some out) before = out

-- Whether the reel is out of its bag after one entry more.
pub out-next : (H : History) (e : Entry) (reel : Name) → is_some (out_since (e ∷ H) reel) ≡ out_after (open_by reel e.stamped.command) (is_some (out_since H reel))
out-next H e reel = by (open_by reel e.stamped.command) (out_since H reel)
  where
    by : (said : Option Bool) (since : Option ℕ) → is_some (since_after said e.effective since) ≡ out_after said (is_some since)
    by None since = refl
    by (Some true) None = refl
    by (Some true) (Some minute) = refl
    by (Some false) since = refl
