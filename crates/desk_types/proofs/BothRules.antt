-- Rules Two accept every command that rules One accept.
use Rattle.desk_types.proofs.Common.{[], ◌&&◌, ◌++◌, ◌==◌, ◌∙◌, ◌∷◌, ◌≡◌, ap, Bool, command_refusal}
use Rattle.desk_types.proofs.Common.{counts_refusal, effective_minute, eqb-true, false, first_refusal}
use Rattle.desk_types.proofs.Common.{History, if◌then◌else◌, is_above, is_mounted, is_none, is_too_far_ahead}
use Rattle.desk_types.proofs.Common.{IsJudged, left_of, List, list_any, Name, nat_lt, None, Option, option_or}
use Rattle.desk_types.proofs.Common.{receipt_of, refl, refusal_of, same, Some, sym, true, ℕ}
use Rattle.desk_types.specs.Refusals.{count_refusal}
use Rattle.desk_types.specs.declared.answer.Refusal.{Refusal}
use Rattle.desk_types.specs.declared.answer.Refusal.TheVariants.{CountAbove, ReelMounted, ReelTwice}
use Rattle.desk_types.specs.declared.answer.Refusal.TheVariants.{TooFarAhead, UnknownReel}
use Rattle.desk_types.specs.declared.command.Command.{Command}
use Rattle.desk_types.specs.declared.command.Command.TheVariants.{AlternateAllowed, ClockSet, CountsTaken}
use Rattle.desk_types.specs.declared.command.Command.TheVariants.{MaterialsInstalled, MaterialsLoaded}
use Rattle.desk_types.specs.declared.command.Command.TheVariants.{MaterialsScrapped, MaterialsSpliced}
use Rattle.desk_types.specs.declared.command.Command.TheVariants.{MaterialsUnloaded, PartDefined}
use Rattle.desk_types.specs.declared.command.Command.TheVariants.{ProductSelected, ReelBaked, ReelOpened}
use Rattle.desk_types.specs.declared.command.Command.TheVariants.{ReelReceived, ReelSealed, SheetDefined}
use Rattle.desk_types.specs.declared.command.Command.TheVariants.{WorkCompleted, WorkStarted}
use Rattle.desk_types.specs.declared.command.Stamped.{Stamped}
use Rattle.desk_types.specs.declared.count.CountRow.{CountRow}
use Rattle.desk_types.specs.declared.rules.Rules.{Rules}
use Rattle.desk_types.specs.declared.rules.Rules.TheVariants.{One, Two}

above-by-two : (left counted : ℕ) → nat_lt left counted ≡ false → is_above Two left counted ≡ false
above-by-two left counted low = by (left == 0) refl
  where
    by : (none : Bool) → (left == 0) ≡ none → (none && nat_lt 0 counted) ≡ false
    by false is = refl
    by true is = ap (λ n. nat_lt n counted) (sym (eqb-true left 0 is)) ∙ low

last-test : (ts : List (Bool × Refusal)) (a b : Bool) (r : Refusal) → (a ≡ false → b ≡ false) → first_refusal (ts ++ (a, r) ∷ []) ≡ None
    → first_refusal (ts ++ (b, r) ∷ []) ≡ None
last-test [] true b r less none = cc
last-test [] false b r less none = rw (less refl) refl
last-test ((true, x) ∷ ts) a b r less none = cc
last-test ((false, x) ∷ ts) a b r less none = last-test ts a b r less none

row-by-two : (H : History) (seen : List Name) (row : CountRow) → count_refusal One H seen row ≡ None → count_refusal Two H seen row ≡ None
row-by-two H seen row none =
    last-test
    ((is_none (receipt_of H row.reel), UnknownReel row.reel) ∷ (list_any (same row.reel) seen, ReelTwice row.reel)
    ∷ (is_mounted H row.reel, ReelMounted row.reel) ∷ [])
    (nat_lt (left_of H row.reel) row.quantity) _ (CountAbove row.reel) (above-by-two (left_of H row.reel) row.quantity) none

both-none : (a b : Option Refusal) → option_or a b ≡ None → (a ≡ None) × (b ≡ None)
both-none None b none = (refl, none)
both-none (Some x) b none = cc

counts-by-two : (H : History) (seen : List Name) (rows : List CountRow) → counts_refusal One H seen rows ≡ None → counts_refusal Two H seen rows ≡ None
counts-by-two H seen [] none = refl
counts-by-two H seen (row ∷ rows) none =
    let each = both-none _ _ none in
    rw (row-by-two H seen row each.0) (counts-by-two H (seen ++ row.reel ∷ []) rows each.1)

command-by-two : (H : History) (minute : ℕ) (command : Command) → command_refusal One H minute command ≡ None → command_refusal Two H minute command ≡ None
unfolding command_refusal
command-by-two H minute (PartDefined part) none = none
command-by-two H minute (AlternateAllowed part alternate) none = none
command-by-two H minute (SheetDefined product machine rows) none = none
command-by-two H minute (ProductSelected machine product) none = none
command-by-two H minute (ReelReceived reel part lot moisture quantity) none = none
command-by-two H minute (ReelOpened reel) none = none
command-by-two H minute (ReelSealed reel) none = none
command-by-two H minute (ReelBaked reel) none = none
command-by-two H minute (MaterialsLoaded machine slot reel) none = none
command-by-two H minute (MaterialsSpliced machine slot reel) none = none
command-by-two H minute (MaterialsUnloaded machine slot) none = none
command-by-two H minute (WorkStarted machine board) none = none
command-by-two H minute (WorkCompleted machine board) none = none
command-by-two H minute (MaterialsInstalled machine board designators) none = none
command-by-two H minute (MaterialsScrapped machine slot quantity) none = none
command-by-two H minute (CountsTaken counts) none = counts-by-two H [] counts none
command-by-two H minute ClockSet none = none

pub accepted-by-two : (rules : Rules) (H : History) (s : Stamped) → refusal_of rules H s ≡ None → refusal_of Two H s ≡ None
unfolding refusal_of
accepted-by-two Two H s none = none
accepted-by-two One H s none = by (is_too_far_ahead H s) none
  where
    by : (far : Bool) → (if far then Some TooFarAhead else command_refusal One H (effective_minute H s.minute) s.command) ≡ None
        → (if far then Some TooFarAhead else command_refusal Two H (effective_minute H s.minute) s.command) ≡ None
    by true none = cc
    by false none = command-by-two H (effective_minute H s.minute) s.command none

-- A history that either rules accept is accepted by rules Two.
pub judged-by-two : (rules : Rules) (H : History) → IsJudged rules H → IsJudged Two H
judged-by-two rules [] judged = judged
judged-by-two rules (e ∷ H) (next, judged) = (
  record {
    in_range = next.in_range;
    number = next.number;
    effective = next.effective;
    accepted = accepted-by-two rules H e.stamped next.accepted;
  },
  judged-by-two rules H judged,
)
