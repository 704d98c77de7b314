-- Refusals: the tests of each command in order; the first that holds decides.
use Rattle.std.specs.Prelude.{ℕ, ◌+◌, nat_lt, Bool, true, false, not, ◌&&◌, Option, Some, None, List, [], ◌∷◌, ◌++◌, map, if◌then◌else◌, unwrap_or, is_some, is_none, ◌==◌}
use Rattle.std.specs.Option.{option_map, option_map_or, option_or, option_to_list}
use Rattle.std.specs.List.{list_any, find, sum_by, flat_map}
use Rattle.desk_types.specs.declared.answer.Refusal.{Refusal}
use Rattle.desk_types.specs.declared.answer.Refusal.TheVariants.{TooFarAhead, PartExists, UnknownPart, ReelExists, UnknownReel, UnknownSheet, MachineBusy, SlotTwice, DesignatorTwice, NoProduct, SlotNotOnSheet, SlotTaken, SlotEmpty, ReelMounted, ReelEmpty, WrongPart, NotBaked, Expired, BoardBusy, OtherProduct, NotInWork, DesignatorNotOnSheet, AlreadyPlaced, ReelShort, ReelTwice, CountAbove}
use Rattle.desk_types.specs.declared.command.Command.{Command}
use Rattle.desk_types.specs.declared.command.Command.TheVariants.{PartDefined, AlternateAllowed, SheetDefined, ProductSelected, ReelReceived, ReelOpened, ReelSealed, ReelBaked, MaterialsLoaded, MaterialsSpliced, MaterialsUnloaded, WorkStarted, WorkCompleted, MaterialsInstalled, MaterialsScrapped, CountsTaken, ClockSet}
use Rattle.desk_types.specs.declared.command.Receipt.{Receipt}
use Rattle.desk_types.specs.declared.command.Stamped.{Stamped}
use Rattle.desk_types.specs.declared.limits.TheConstants.{FURTHEST_AHEAD}
use Rattle.desk_types.specs.declared.count.CountRow.{CountRow}
use Rattle.desk_types.specs.declared.rules.Rules.{Rules}
use Rattle.desk_types.specs.declared.rules.Rules.TheVariants.{One, Two}
use Rattle.desk_types.specs.declared.sheet.SheetRow.{SheetRow}
use Rattle.desk_types.specs.declared.take.Pick.{Pick}
use Rattle.desk_types.specs.Id.{Name, same}
use Rattle.desk_types.specs.History.{History, desk_minute, effective_minute}
use Rattle.desk_types.specs.Setup.{is_part, is_allowed, sheet_of, selected_on, sheet_on, row_on, receipt_of}
use Rattle.desk_types.specs.Pieces.{left_of, live_on, front_of, is_mounted, Bench, bench_of, pick_for}
use Rattle.desk_types.specs.FloorLife.{is_expired, is_unbaked}
use Rattle.desk_types.specs.Work.{in_work_on, is_in_work_on, is_in_work, product_of, is_placed_on}

-- The refusal of the first test that holds.
abbrev pub first_refusal : List (Bool × Refusal) → Option Refusal
first_refusal [] = None
first_refusal (t ∷ ts) = if t.0 then Some t.1 else first_refusal ts

-- ---- parts and sheets

unfoldable pub part_refusal : History → Name → Option Refusal
part_refusal H part = first_refusal (
    (is_part H part, PartExists part)
    ∷ [])

unfoldable pub alternate_refusal : History → Name → Name → Option Refusal
alternate_refusal H part alternate = first_refusal (
    (not (is_part H part), UnknownPart part)
    ∷ (not (is_part H alternate), UnknownPart alternate)
    ∷ [])

-- The first name that repeats an earlier one.
abbrev pub name_twice : List Name → List Name → Option Name
name_twice before [] = None
name_twice before (x ∷ xs) = if list_any (same x) before then Some x
    else name_twice (before ++ x ∷ []) xs

-- The slots of the rows, in sheet order.
abbrev pub slots_of_rows : List SheetRow → List Name
slots_of_rows rows = map (λ (row : SheetRow). row.slot) rows

-- The designators of the rows, in sheet order.
abbrev pub designators_of_rows : List SheetRow → List Name
designators_of_rows rows = flat_map (λ (row : SheetRow). row.designators) rows

-- The part of the first row whose part is not known.
abbrev pub unknown_part : (Name → Bool) → List SheetRow → Option Name
unknown_part is_known rows = option_map
    (λ (row : SheetRow). row.part) (find (λ (row : SheetRow). not (is_known row.part)) rows)

-- The fault in a sheet's rows: a repeated slot, then a repeated designator, then an unknown part.
unfoldable pub sheet_refusal : (Name → Bool) → List SheetRow → Option Refusal
sheet_refusal is_known rows =
    option_or (option_map SlotTwice (name_twice [] (slots_of_rows rows)))
    (option_or (option_map DesignatorTwice (name_twice [] (designators_of_rows rows)))
    (option_map UnknownPart (unknown_part is_known rows)))

unfoldable pub definition_refusal : History → Name → List SheetRow → Option Refusal
definition_refusal H machine rows = if is_some (in_work_on H machine)
    then Some (MachineBusy machine) else sheet_refusal (is_part H) rows

unfoldable pub selection_refusal : History → Name → Name → Option Refusal
selection_refusal H machine product = first_refusal (
    (is_none (sheet_of H product machine), UnknownSheet product)
    ∷ (is_some (in_work_on H machine), MachineBusy machine)
    ∷ [])

-- ---- reels

unfoldable pub receipt_refusal : History → Name → Name → Option Refusal
receipt_refusal H reel part = first_refusal (
    (not (is_part H part), UnknownPart part)
    ∷ (is_some (receipt_of H reel), ReelExists reel)
    ∷ [])

-- The refusal of an open.
unfoldable pub opening_refusal : History → Name → Option Refusal
opening_refusal H reel = first_refusal (
    (is_none (receipt_of H reel), UnknownReel reel)
    ∷ [])

-- The refusal of a seal or a bake.
unfoldable pub closing_refusal : History → Name → Option Refusal
closing_refusal H reel = first_refusal (
    (is_none (receipt_of H reel), UnknownReel reel)
    ∷ (is_mounted H reel, ReelMounted reel)
    ∷ [])

-- ---- slots

-- Whether the reel's part is not allowed for the row's part.
abbrev pub is_wrong_for : History → SheetRow → Name → Bool
is_wrong_for H row reel =
    option_map_or (λ (r : Receipt). not (is_allowed H row.part r.part)) (receipt_of H reel) false

-- Whether the reel's part is not allowed for the slot in the selected product's sheet.
abbrev pub is_wrong_part : History → Name → Name → Name → Bool
is_wrong_part H machine slot reel =
    option_map_or (λ row. is_wrong_for H row reel) (row_on H machine slot) false

-- Whether the slot has no live reel.
abbrev pub is_vacant : History → Name → Name → Bool
is_vacant H machine slot = is_none (front_of H machine slot)

-- The tests of a reel to load or splice at a minute.
abbrev pub reel_tests : History → ℕ → Name → Bool → List (Bool × Refusal)
reel_tests H minute reel wrong =
    (is_none (receipt_of H reel), UnknownReel reel)
    ∷ (is_mounted H reel, ReelMounted reel)
    ∷ (left_of H reel == 0, ReelEmpty reel)
    ∷ (wrong, WrongPart reel)
    ∷ (is_unbaked H reel, NotBaked reel)
    ∷ (is_expired H reel minute, Expired reel)
    ∷ []

-- The refusal of a load or a splice at a minute; `slot_test` is their only difference.
unfoldable pub mounting_refusal : History → ℕ → Name → Name → Name → Bool × Refusal → Option Refusal
mounting_refusal H minute machine slot reel slot_test = first_refusal (
    (is_none (selected_on H machine), NoProduct machine)
    ∷ (is_none (row_on H machine slot), SlotNotOnSheet slot)
    ∷ slot_test
    ∷ reel_tests H minute reel (is_wrong_part H machine slot reel))

unfoldable pub unload_refusal : History → Name → Name → Option Refusal
unload_refusal H machine slot = first_refusal (
    (is_vacant H machine slot, SlotEmpty slot)
    ∷ [])

unfoldable pub scrap_refusal : History → Name → Name → ℕ → Option Refusal
scrap_refusal H machine slot n = first_refusal (
    (is_vacant H machine slot, SlotEmpty slot)
    ∷ (nat_lt (sum_by (left_of H) (live_on H machine slot)) n, ReelShort slot)
    ∷ [])

-- ---- work

-- The fault of a reel that would feed the slot.
abbrev pub feeding_refusal : Name → (wrong unbaked expired : Bool) → Option Refusal
feeding_refusal slot wrong unbaked expired = first_refusal
    ((wrong, WrongPart slot) ∷ (unbaked, NotBaked slot) ∷ (expired, Expired slot) ∷ [])

-- The fault of the front reel in a row's slot at a minute.
abbrev pub front_refusal : History → ℕ → SheetRow → Option Name → Option Refusal
front_refusal H minute row None = Some (SlotEmpty row.slot)
front_refusal H minute row (Some reel) = feeding_refusal row.slot (is_wrong_for H row reel)
    (is_unbaked H reel) (is_expired H reel minute)

-- The fault of the first faulty slot.
abbrev pub slots_refusal : History → ℕ → Name → List SheetRow → Option Refusal
slots_refusal H minute machine [] = None
slots_refusal H minute machine (row ∷ rows) =
    option_or (front_refusal H minute row (front_of H machine row.slot))
    (slots_refusal H minute machine rows)

-- Whether both names exist and differ.
abbrev pub differ : Option Name → Option Name → Bool
differ (Some a) (Some b) = not (same a b)
differ _ _ = false

-- The refusal of a start of work. The test for MachineBusy excludes a board in work on this
-- machine, so BoardBusy means that the board is in work on another one.
unfoldable pub start_refusal : History → ℕ → Name → Name → Option Refusal
start_refusal H minute machine board = option_or (first_refusal (
    (is_none (selected_on H machine), NoProduct machine)
    ∷ (is_some (in_work_on H machine), MachineBusy machine)
    ∷ (is_in_work H board, BoardBusy board)
    ∷ (differ (product_of H board) (selected_on H machine), OtherProduct board)
    ∷ []))
    (slots_refusal H minute machine (unwrap_or (sheet_on H machine) []))

unfoldable pub completion_refusal : History → Name → Name → Option Refusal
completion_refusal H machine board = first_refusal (
    (not (is_in_work_on H machine board), NotInWork board)
    ∷ [])

-- The fault of a designator in a message.
abbrev pub designator_refusal : Name → Option Name → (twice placed : Bool)
    → Option Pick → Option Refusal
designator_refusal d slot twice placed pick = first_refusal (
    (is_none slot, DesignatorNotOnSheet d)
    ∷ (twice, DesignatorTwice d)
    ∷ (placed, AlreadyPlaced d)
    ∷ (is_none pick, ReelShort d)
    ∷ [])

-- The fault of the first faulty designator in a message.
abbrev pub designators_refusal : Bench → (Name → Bool) → List Pick → List Name → List Name
    → Option Refusal
designators_refusal bench placed before seen [] = None
designators_refusal bench placed before seen (d ∷ ds) = option_or
    (designator_refusal d (bench.slot_of d) (list_any (same d) seen) (placed d)
    (pick_for bench before d))
    (designators_refusal bench placed (before ++ option_to_list (pick_for bench before d))
    (seen ++ d ∷ []) ds)

unfoldable pub install_refusal : History → Name → Name → List Name → Option Refusal
install_refusal H machine board designators =
    if is_in_work_on H machine board
    then designators_refusal (bench_of H machine board) (is_placed_on H board) [] [] designators
    else Some (NotInWork board)

-- ---- counts

-- Whether a count is too high. Rules One refuse any count above the remaining pieces. Rules Two
-- refuse it for a spent reel only, because pieces can be found.
abbrev pub is_above : Rules → (left counted : ℕ) → Bool
is_above One left counted = nat_lt left counted
is_above Two left counted = (left == 0) && nat_lt 0 counted

-- The fault of a count's row.
abbrev pub count_refusal : Rules → History → List Name → CountRow → Option Refusal
count_refusal rules H seen row = first_refusal (
    (is_none (receipt_of H row.reel), UnknownReel row.reel)
    ∷ (list_any (same row.reel) seen, ReelTwice row.reel)
    ∷ (is_mounted H row.reel, ReelMounted row.reel)
    ∷ (is_above rules (left_of H row.reel) row.quantity, CountAbove row.reel)
    ∷ [])

-- The fault of the first faulty row of a count.
abbrev pub counts_refusal : Rules → History → List Name → List CountRow → Option Refusal
counts_refusal rules H seen [] = None
counts_refusal rules H seen (row ∷ rows) =
    option_or (count_refusal rules H seen row) (counts_refusal rules H (seen ++ row.reel ∷ []) rows)

-- ---- any command

-- The refusal of a command that takes effect at the minute; the rules differ only for counts.
unfoldable pub command_refusal : Rules → History → ℕ → Command → Option Refusal
command_refusal rules H minute (PartDefined part) = part_refusal H part
command_refusal rules H minute (AlternateAllowed part alternate) =
    alternate_refusal H part alternate
command_refusal rules H minute (SheetDefined product machine rows) =
    definition_refusal H machine rows
command_refusal rules H minute (ProductSelected machine product) =
    selection_refusal H machine product
command_refusal rules H minute (ReelReceived reel part lot moisture quantity) =
    receipt_refusal H reel part
command_refusal rules H minute (ReelOpened reel) = opening_refusal H reel
command_refusal rules H minute (ReelSealed reel) = closing_refusal H reel
command_refusal rules H minute (ReelBaked reel) = closing_refusal H reel
command_refusal rules H minute (MaterialsLoaded machine slot reel) =
    mounting_refusal H minute machine slot reel (not (is_vacant H machine slot), SlotTaken slot)
command_refusal rules H minute (MaterialsSpliced machine slot reel) =
    mounting_refusal H minute machine slot reel (is_vacant H machine slot, SlotEmpty slot)
command_refusal rules H minute (MaterialsUnloaded machine slot) = unload_refusal H machine slot
command_refusal rules H minute (WorkStarted machine board) = start_refusal H minute machine board
command_refusal rules H minute (WorkCompleted machine board) = completion_refusal H machine board
command_refusal rules H minute (MaterialsInstalled machine board designators) =
    install_refusal H machine board designators
command_refusal rules H minute (MaterialsScrapped machine slot quantity) =
    scrap_refusal H machine slot quantity
command_refusal rules H minute (CountsTaken counts) = counts_refusal rules H [] counts
command_refusal rules H minute ClockSet = None

abbrev pub is_clock : Command → Bool
is_clock ClockSet = true
is_clock _ = false

-- Whether the command's minute is more than two weeks after the desk minute. This is false for the
-- first command and for a clock setting.
abbrev pub is_too_far_ahead : History → Stamped → Bool
is_too_far_ahead H s = option_map_or (λ desk. nat_lt (desk + FURTHEST_AHEAD) s.minute)
    (desk_minute H) false && not (is_clock s.command)

-- The refusal of the command after H under the rules, if any.
unfoldable pub refusal_of : Rules → History → Stamped → Option Refusal
refusal_of rules H s = if is_too_far_ahead H s then Some TooFarAhead
    else command_refusal rules H (effective_minute H s.minute) s.command
