-- The intermediate state of an install, and the results of installs, scraps and counts.
use Rattle.std.specs.Prelude.{◌≡◌, ⊤, ℕ, ◌-◌, ◌≤◌, ◌==◌, nat_lt, Bool, Option, Some, None, Result, Ok, Err, List, [], ◌∷◌, ◌++◌, drop, filter, if◌then◌else◌, IfSome}
use Rattle.std.specs.Option.{option_map, option_map_or, option_to_list}
use Rattle.std.specs.List.{list_any, AllByRecursion}
use Rattle.std.specs.BTreeMap as tree
use Rattle.std.specs.BTreeMap.{BTreeMap}
use Rattle.std.specs.BTreeSet.{BTreeSet}
use Rattle.desk_types.specs.declared.answer.Refusal.{Refusal}
use Rattle.desk_types.specs.declared.desk.JudgeFault.{JudgeFault}
use Rattle.desk_types.specs.declared.desk.JudgeFault.TheVariants.{Refused, NoMemory}
use Rattle.desk_types.specs.declared.take.Pick.{Pick}
use Rattle.desk_types.specs.declared.take.Purpose.TheVariants.{Placed}
use Rattle.desk_types.specs.Id.{Name, same, by_name}
use Rattle.desk_types.specs.History.{History}
use Rattle.desk_types.specs.Pieces.{Bench, pieces_picked, pick_for, live_on}
use Rattle.desk_types.specs.Refusals.{designator_refusal}
use Rattle.desk_types.specs.Work.{is_placed_on}
use Rattle.setup_sheets.specs.Names.{HasSeen}
use Rattle.judging.specs.declared.placing.Feed.{Feed}
use Rattle.judging.specs.declared.placing.Given.{Given}
use Rattle.judging.specs.declared.placing.Given.TheVariants.{Reel, Nothing}
use Rattle.judging.specs.declared.placing.Feeder.{Feeder}

-- The fault is this refusal, or out of memory.
abbrev pub IsTold : Option Refusal → JudgeFault → Type 0
IsTold refusal (Refused r) = refusal ≡ Some r
IsTold refusal NoMemory = ⊤

-- Nothing is refused, or the fault is told.
abbrev pub IsPassed : Option Refusal → Result ⊤ JudgeFault → Type 0
IsPassed refusal (Ok _) = refusal ≡ None
IsPassed refusal (Err fault) = IsTold refusal fault

-- Nothing is refused, and the result is these picks, or the fault is told.
abbrev pub IsPicked : Option Refusal → List Pick → Result (List Pick) JudgeFault → Type 0
IsPicked refusal picks (Ok result) = (refusal ≡ None) × (result ≡ picks)
IsPicked refusal picks (Err fault) = IsTold refusal fault

-- The slot's current feed during the message.
abbrev pub feed_at : BTreeMap Name Feed → Name → Option Feed
feed_at feeds slot = tree.get by_name feeds slot

-- The feed with one piece fewer on its reel.
abbrev pub one_less : Feed → Feed
one_less feed = record { reel = feed.reel; pieces = feed.pieces - 1; passed = feed.passed }

-- A piece from the current reel or, once it is spent, the number of the slot's reels already
-- passed.
abbrev pub given_by : Option Feed → Given
given_by None = Nothing 0
given_by (Some feed) = if feed.pieces == 0 then Nothing feed.passed else Reel feed.reel

-- The reels after the first n, without spent ones.
abbrev pub live_past : (Name → ℕ) → List Name → ℕ → List Name
live_past pieces reels n = filter (λ reel. nat_lt 0 (pieces reel)) (drop n reels)

-- The live reels behind the current one, or all of them without one.
abbrev pub live_next : (Name → ℕ) → List Name → Option Feed → List Name
live_next pieces reels feed = live_past pieces reels (option_map_or (λ (f : Feed). f.passed) feed 0)

-- The feed's current reel.
abbrev pub reel_in_hand : Option Feed → List Name
reel_in_hand feed = option_to_list (option_map (λ (f : Feed). f.reel) feed)

-- A slot's state after picks: its live reels are those that the picks spent, then the current one,
-- then untouched ones.
pub record IsFed (pieces : Name → ℕ) (live reels : List Name) (picks : List Pick)
    (feed : Option Feed) : Type 0 where
  pub spent : List Name
  pub reels_are : live ≡ spent ++ (reel_in_hand feed ++ live_next pieces reels feed)
  pub none_left : AllByRecursion (λ reel. pieces reel ≤ pieces_picked picks reel) spent
  pub in_hand : IfSome feed (λ f. f.pieces ≡ pieces f.reel - pieces_picked picks f.reel)
  pub untouched : AllByRecursion
      (λ reel. pieces_picked picks reel ≡ 0) (live_next pieces reels feed)

-- The state of each slot of a machine.
abbrev pub IsFeeding : (Name → List Name) → (Name → ℕ) → (Name → List Name) → List Pick
    → BTreeMap Name Feed → Type 0
IsFeeding live pieces reels picks feeds = (slot : Name)
    → IsFed pieces (live slot) (reels slot) picks (feed_at feeds slot)

-- The pick is of one piece from the reel, if there is one.
abbrev pub IsOnePiece : Option Name → Pick → Type 0
IsOnePiece reel p = (reel ≡ Some p.reel) × (p.quantity ≡ 1)

-- The picks and designators before the current designator.
pub record Before : Type 0 where
  pub picks : List Pick
  pub designators : List Name

-- The fault of a designator.
abbrev pub next_refusal : Bench → (Name → Bool) → Before → Name → Option Refusal
next_refusal bench placed before d =
    designator_refusal d (bench.slot_of d) (list_any (same d) before.designators) (placed d)
    (pick_for bench before.picks d)

-- The piece as a pick for a designator.
abbrev pub pick_of : Bench → Name → Feeder → Pick
pick_of bench d piece = record {
  reel = piece.reel;
  quantity = 1;
  purpose = Placed bench.board d bench.machine piece.slot;
}

-- The result of one designator, if the facts have these reels on the machine's slots, possibly
-- including spent ones.
abbrev pub IsPlacing : (Name → List Name) → History → Bench → Before → Name
    → Result Feeder JudgeFault → BTreeMap Name Feed → BTreeSet Name → Type 0
IsPlacing reels H bench before d (Ok piece) feeds seen =
    (next_refusal bench (is_placed_on H bench.board) before d ≡ None)
    × (pick_for bench before.picks d ≡ Some (pick_of bench d piece))
    × IsFeeding (live_on H bench.machine) bench.pieces reels
    (before.picks ++ pick_of bench d piece ∷ []) feeds
    × HasSeen seen (before.designators ++ d ∷ [])
IsPlacing reels H bench before d (Err fault) feeds seen =
    IsTold (next_refusal bench (is_placed_on H bench.board) before d) fault
