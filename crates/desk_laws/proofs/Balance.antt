-- The balance of a reel: received pieces are placed, scrapped or remaining.
use Rattle.desk_types.proofs.Common.{[], ◌+◌, ◌-◌, ◌∙◌, ◌∷◌, ◌≡◌, ◌≤◌, all_picks, ap, arith, bench_of, Bool}
use Rattle.desk_types.proofs.Common.{command_refusal, false, found_by, found_of, History, if◌then◌else◌}
use Rattle.desk_types.proofs.Common.{IsJudged, left_of, ltb-false, Name, nat_lt, None, Option, option_map_or}
use Rattle.desk_types.proofs.Common.{option_or, picks_of, pieces_by, pieces_picked, placed_of, receipt_by}
use Rattle.desk_types.proofs.Common.{receipt_of, received_of, refl, same, scrapped_of, Some, sym, tape_of}
use Rattle.desk_types.proofs.Common.{true, unwrap_or, ℕ}
use Rattle.desk_laws.proofs.Common.{Command, CountsTaken, Entry, MaterialsInstalled, MaterialsScrapped}
use Rattle.desk_laws.proofs.Common.{Receipt, ReelReceived, Rejected, Two}
use Rattle.desk_laws.proofs.{Accepted.next-accepted, Accepted.received-once, Judgements.or-none}
use Rattle.desk_laws.proofs.{Picks.and-nothing, Picks.counted, Picks.install-within}
use Rattle.desk_laws.proofs.{Picks.pieces_picked-append, Picks.scrap-within, Tapes.tape-distinct}
use Rattle.desk_laws.proofs.{Totals.pieces_picked-split}

-- ---- one command

-- A command takes no more than the reel has, leaves the rest with any found pieces, and finds none
-- on a spent reel.
pub record IsTaken (H : History) (command : Command) (reel : Name) : Type 0 where
  pub within : pieces_picked (picks_of H command) reel ≤ left_of H reel
  pub rest : unwrap_or (pieces_by reel command) (left_of H reel - pieces_picked (picks_of H command) reel)
      ≡ left_of H reel - pieces_picked (picks_of H command) reel + found_by (left_of H reel) reel command
  pub spent : left_of H reel ≡ 0 → found_by (left_of H reel) reel command ≡ 0

taken-by : (H : History) (minute : ℕ) (command : Command) (reel : Name) → IsJudged Two H → command_refusal Two H minute command ≡ None
    → receipt_by reel minute command ≡ None → IsTaken H command reel
unfolding command_refusal
taken-by H minute (ReelReceived r part lot moisture quantity) reel judged accepted other = record { within = omega arith; rest = by (same r reel) other; spent = λ empty. refl }
  where
    receipt : Receipt
    receipt = record { part = part; lot = lot; moisture = moisture; quantity = quantity; effective = minute }

    by : (b : Bool) → (if b then Some receipt else None) ≡ None → unwrap_or (if b then Some quantity else None) (left_of H reel - 0) ≡ left_of H reel - 0 + 0
    by true other = cc
    by false other = and-nothing _
taken-by H minute (MaterialsInstalled machine board designators) reel judged accepted other =
    record { within = install-within (bench_of H machine board) [] designators reel (omega arith); rest = and-nothing _; spent = λ empty. refl }
taken-by H minute (MaterialsScrapped machine slot quantity) reel judged accepted other =
    record { within = scrap-within (left_of H) (Rejected machine slot) (tape_of H machine slot) quantity reel (tape-distinct H machine slot judged); rest = and-nothing _; spent = λ empty. refl }
taken-by H minute (CountsTaken counts) reel judged accepted other =
    let said = counted H [] counts reel accepted in record { within = said.within; rest = said.told; spent = said.spent }
taken-by H minute _ reel judged accepted other = record { within = omega arith; rest = and-nothing _; spent = λ empty. refl }

-- The next entry takes at most the remaining pieces of a reel that it doesn't receive.
pub picks-within : (H : History) (e : Entry) (reel : Name) → IsJudged Two (e ∷ H) → receipt_by reel e.effective e.stamped.command ≡ None
    → pieces_picked (picks_of H e.stamped.command) reel ≤ left_of H reel
picks-within H e reel (next, judged) other = (taken-by H e.effective e.stamped.command reel judged (next-accepted H e next) other).within

pub left-next : (H : History) (e : Entry) (reel : Name) → IsJudged Two (e ∷ H) → receipt_by reel e.effective e.stamped.command ≡ None
    → left_of (e ∷ H) reel ≡ left_of H reel - pieces_picked (picks_of H e.stamped.command) reel + found_by (left_of H reel) reel e.stamped.command
unfolding left_of
left-next H e reel (next, judged) other = (taken-by H e.effective e.stamped.command reel judged (next-accepted H e next) other).rest

pub spent-next : (H : History) (e : Entry) (reel : Name) → IsJudged Two (e ∷ H) → receipt_by reel e.effective e.stamped.command ≡ None → left_of H reel ≡ 0
    → left_of (e ∷ H) reel ≡ 0
spent-next H e reel (next, judged) other empty =
    let is = left-next H e reel (next, judged) other in
    let nothing = (taken-by H e.effective e.stamped.command reel judged (next-accepted H e next) other).spent empty in
    omega (arith, is, nothing, empty)

pub some-next : (H : History) (e : Entry) (reel : Name) → IsJudged Two (e ∷ H) → receipt_by reel e.effective e.stamped.command ≡ None
    → nat_lt 0 (left_of (e ∷ H) reel) ≡ true → nat_lt 0 (left_of H reel) ≡ true
some-next H e reel judged other some = by (nat_lt 0 (left_of H reel)) refl
  where
    by : (b : Bool) → nat_lt 0 (left_of H reel) ≡ b → nat_lt 0 (left_of H reel) ≡ true
    by true is = is
    by false is =
        let few = ltb-false 0 (left_of H reel) is in
        let empty : left_of H reel ≡ 0 = omega (arith, few) in
        let none = sym (ap (nat_lt 0) (spent-next H e reel judged other empty)) ∙ some in
        cc

-- ---- receipts

-- A receipt takes and finds nothing, and states the reel's pieces.
received-picks : (H : History) (minute : ℕ) (command : Command) (reel : Name) (receipt : Receipt) → receipt_by reel minute command ≡ Some receipt
    → (picks_of H command ≡ []) × (pieces_by reel command ≡ Some receipt.quantity) × (found_by (left_of H reel) reel command ≡ 0)
received-picks H minute (ReelReceived r part lot moisture quantity) reel receipt is = (refl, by (same r reel) is, refl)
  where
    by : (b : Bool) → (if b then Some (record { part = part; lot = lot; moisture = moisture; quantity = quantity; effective = minute }) else None) ≡ Some receipt
        → (if b then Some quantity else None) ≡ Some receipt.quantity
    by true is = cc
    by false is = cc
received-picks H minute _ reel receipt is = cc

pub left-received : (H : History) (e : Entry) (reel : Name) (receipt : Receipt) → receipt_by reel e.effective e.stamped.command ≡ Some receipt
    → left_of (e ∷ H) reel ≡ receipt.quantity
unfolding left_of
left-received H e reel receipt is =
    ap (λ o. unwrap_or o (left_of H reel - pieces_picked (picks_of H e.stamped.command) reel)) (received-picks H e.effective e.stamped.command reel receipt is).1

pub unreceived-empty : (H : History) (reel : Name) → IsJudged Two H → receipt_of H reel ≡ None → left_of H reel ≡ 0
unfolding left_of
unreceived-empty [] reel judged none = refl
unreceived-empty (e ∷ H) reel (next, judged) none =
    let both = or-none (receipt_by reel e.effective e.stamped.command) (receipt_of H reel) none in
    spent-next H e reel (next, judged) both.0 (unreceived-empty H reel judged both.1)

-- ---- totals

abbrev taken_of : History → Name → ℕ
taken_of H reel = pieces_picked (all_picks H) reel

taken-next : (H : History) (e : Entry) (reel : Name) → taken_of (e ∷ H) reel ≡ taken_of H reel + pieces_picked (picks_of H e.stamped.command) reel
unfolding all_picks
taken-next H e reel = pieces_picked-append (all_picks H) (picks_of H e.stamped.command) reel

received-taken : (H : History) (reel : Name) → IsJudged Two H → received_of H reel ≡ taken_of H reel + left_of H reel
unfolding left_of all_picks found_of
received-taken [] reel judged = refl
received-taken (e ∷ H) reel (next, judged) = by (receipt_by reel e.effective e.stamped.command) refl (received-taken H reel judged)
  where
    by : (said : Option Receipt) → receipt_by reel e.effective e.stamped.command ≡ said → received_of H reel ≡ taken_of H reel + left_of H reel
        → option_map_or (λ (r : Receipt). r.quantity) (option_or said (receipt_of H reel)) 0 + found_of (e ∷ H) reel ≡ taken_of (e ∷ H) reel + left_of (e ∷ H) reel
    by None other before =
        let within = picks-within H e reel (next, judged) other in
        let left = left-next H e reel (next, judged) other in
        let taken = taken-next H e reel in
        omega (arith, before, within, left, taken)
    by (Some receipt) is before =
        let fresh = received-once H e reel receipt next is in
        let nothing = ap (λ o. option_map_or (λ (r : Receipt). r.quantity) o 0) fresh in
        let empty = unreceived-empty H reel judged fresh in
        let left = left-received H e reel receipt is in
        let says = received-picks H e.effective e.stamped.command reel receipt is in
        let none = ap (λ ps. pieces_picked ps reel) says.0 in
        let found = says.2 in
        let taken = taken-next H e reel in
        omega (arith, before, nothing, empty, left, none, found, taken)

pub balance : (H : History) (reel : Name) → IsJudged Two H → received_of H reel ≡ placed_of H reel + scrapped_of H reel + left_of H reel
balance H reel judged =
    let all = received-taken H reel judged in
    let parts = pieces_picked-split (all_picks H) reel in
    omega (arith, all, parts)
