-- Two histories that agree except for past boards and reels give the same answer to a command that names nothing past.
use Rattle.desk_types.proofs.Common.{[], ◌&&◌, ◌++◌, ◌+◌, ◌-◌, ◌==◌, ◌||◌, ◌∙◌, ◌∷◌, ◌≡◌, ◌≤◌, All, All-head}
use Rattle.desk_types.proofs.Common.{All-tail, alternate_refusal, ap, arith, bench_of, Bool, closing_refusal}
use Rattle.desk_types.proofs.Common.{command_refusal, completion_refusal, count_picks, counts_refusal}
use Rattle.desk_types.proofs.Common.{definition_refusal, designators_refusal, desk_minute, detail_of, differ}
use Rattle.desk_types.proofs.Common.{effective_minute, exposure_of, false, first, first_refusal, floor_life}
use Rattle.desk_types.proofs.Common.{front_of, History, if◌then◌else◌, in_work_on, install_picks}
use Rattle.desk_types.proofs.Common.{install_refusal, is_above, is_alternate, is_expired, is_in_work}
use Rattle.desk_types.proofs.Common.{is_mounted, is_none, is_part, is_placed_on, is_some, is_unbaked}
use Rattle.desk_types.proofs.Common.{is_wrong_for, left_of, LevelWithLabel, List, list_any, live_on, max}
use Rattle.desk_types.proofs.Common.{minutes_left, mounting_refusal, Name, nat_le, nat_lt, nat_tests, None}
use Rattle.desk_types.proofs.Common.{not, now_of, opening_refusal, Option, option_and_then, option_map}
use Rattle.desk_types.proofs.Common.{option_map_or, option_or, out_since, part_refusal, picks_of, pieces_of}
use Rattle.desk_types.proofs.Common.{product_of, receipt_of, receipt_refusal, reels_of, refl, refusal_of}
use Rattle.desk_types.proofs.Common.{row_in, row_on, same, scrap_picks, scrap_refusal, selected_on}
use Rattle.desk_types.proofs.Common.{selection_refusal, sheet_of, sheet_refusal, slot_in, slot_on, Some}
use Rattle.desk_types.proofs.Common.{start_refusal, sum_by, sym, tape_of, true, unload_refusal, unwrap_or, ℕ}
use Rattle.desk_laws.proofs.Common.{AlternateAllowed, ClockSet, Command, CountAbove, CountRow, CountsTaken}
use Rattle.desk_laws.proofs.Common.{Expired, is_started, MachineBusy, MaterialsInstalled, MaterialsLoaded}
use Rattle.desk_laws.proofs.Common.{MaterialsScrapped, MaterialsSpliced, MaterialsUnloaded, NoProduct}
use Rattle.desk_laws.proofs.Common.{NotBaked, NotInWork, PartDefined, ProductSelected, Receipt, ReelBaked}
use Rattle.desk_laws.proofs.Common.{ReelExists, ReelMounted, ReelOpened, ReelReceived, Reels, ReelSealed}
use Rattle.desk_laws.proofs.Common.{ReelShort, ReelTwice, Refusal, Rejected, Rules, SheetDefined, SheetRow}
use Rattle.desk_laws.proofs.Common.{SlotEmpty, Stamped, Taken, TooFarAhead, Two, UnknownReel, WorkCompleted}
use Rattle.desk_laws.proofs.Common.{WorkStarted, WrongPart}
use Rattle.desk_laws.proofs.Accepted.{mountable}
use Rattle.desk_laws.proofs.Lives.{designators-live, live_bench, picks-live, scrap-live}
use Rattle.desk_laws.specs.Past.{boards_named, reels_named}
use Rattle.desk_types.specs.Refusals.{front_refusal, is_clock, is_wrong_part, slots_refusal}
use Rattle.desk_types.specs.Setup.{sheet_on}
use Rattle.desk_types.specs.declared.answer.Detail.TheVariants.{MinutesLeft}
use Rattle.desk_types.specs.declared.answer.Refusal.TheVariants.{BoardBusy, OtherProduct, PartExists}
use Rattle.desk_types.specs.declared.answer.Refusal.TheVariants.{ReelEmpty, SlotNotOnSheet, SlotTaken}
use Rattle.desk_types.specs.declared.answer.Refusal.TheVariants.{UnknownPart, UnknownSheet}
use Rattle.desk_types.specs.declared.limits.TheConstants.{FURTHEST_AHEAD}
use Rattle.std.specs.List.{filter}

-- What stays of a receipt: the part, the lot, and the moisture level with its label.
abbrev pub mark : Receipt → Name × (Name × LevelWithLabel)
mark r = (r.part, (r.lot, r.moisture))

abbrev pub marks_of : History → Name → Option (Name × (Name × LevelWithLabel))
marks_of H reel = option_map mark (receipt_of H reel)

-- Two histories have the same of a reel.
pub record IsSame (G H : History) (reel : Name) : Type 0 where
  pub marks : marks_of G reel ≡ marks_of H reel
  pub unbaked : is_unbaked G reel ≡ is_unbaked H reel
  pub out : is_some (out_since G reel) ≡ is_some (out_since H reel)
  pub minutes : is_unbaked G reel ≡ false → (minute : ℕ) → now_of G ≤ minute → minutes_left G reel minute ≡ minutes_left H reel minute

-- Two histories agree except for past boards and reels. A past board was started, and a past reel was received and has
-- no pieces left.
pub record Agree (past_board past_reel : Name → Bool) (G H : History) : Type 0 where
  pub minute : desk_minute G ≡ desk_minute H
  pub parts : is_part G ≡ is_part H
  pub alternates : is_alternate G ≡ is_alternate H
  pub sheets : sheet_of G ≡ sheet_of H
  pub selections : selected_on G ≡ selected_on H
  pub running : in_work_on G ≡ in_work_on H
  pub busy : is_in_work G ≡ is_in_work H
  pub products : (board : Name) → past_board board ≡ false → product_of G board ≡ product_of H board
  pub placed : (board : Name) → past_board board ≡ false → is_placed_on G board ≡ is_placed_on H board
  pub left : left_of G ≡ left_of H
  pub live : live_on G ≡ live_on H
  pub mounted : is_mounted G ≡ is_mounted H
  pub started : (board : Name) → past_board board ≡ true → is_started G board ≡ true
  pub spent : (reel : Name) → past_reel reel ≡ true → (is_some (receipt_of G reel) ≡ true) × (left_of G reel ≡ 0)
  pub reels : (reel : Name) → past_reel reel ≡ false → IsSame G H reel

-- ---- marks

pub marked : {X : Type 0} (f : Name × (Name × LevelWithLabel) → X) (d : X) (o : Option Receipt)
    → option_map_or (λ r. f (mark r)) o d ≡ option_map_or f (option_map mark o) d
marked f d None = refl
marked f d (Some r) = refl

marked-none : (o : Option Receipt) → is_none o ≡ is_none (option_map mark o)
marked-none None = refl
marked-none (Some r) = refl

marked-some : (o : Option Receipt) → is_some o ≡ is_some (option_map mark o)
marked-some None = refl
marked-some (Some r) = refl

unknown : (G H : History) (reel : Name) → IsSame G H reel → is_none (receipt_of G reel) ≡ is_none (receipt_of H reel)
unknown G H reel a = marked-none (receipt_of G reel) ∙ ap is_none a.marks ∙ sym (marked-none (receipt_of H reel))

pub known : (G H : History) (reel : Name) → IsSame G H reel → is_some (receipt_of G reel) ≡ is_some (receipt_of H reel)
known G H reel a = marked-some (receipt_of G reel) ∙ ap is_some a.marks ∙ sym (marked-some (receipt_of H reel))

none-left : (limit exposure : ℕ) → nat_le limit exposure ≡ (limit - exposure == 0)
none-left limit exposure = grind (arith, nat_tests)

-- A reel is expired when it has no minutes left.
expired-is : (H : History) (reel : Name) (minute : ℕ) → is_expired H reel minute ≡ option_map_or (λ left. left == 0) (minutes_left H reel minute) false
expired-is H reel minute = by (floor_life H reel)
  where
    by : (life : Option ℕ) → option_map_or (λ limit. nat_le limit (exposure_of H reel minute)) life false
        ≡ option_map_or (λ left. left == 0) (option_map (λ limit. limit - exposure_of H reel minute) life) false
    by None = refl
    by (Some limit) = none-left limit (exposure_of H reel minute)

expired : (G H : History) (reel : Name) (minute : ℕ) → IsSame G H reel → is_unbaked G reel ≡ false → now_of G ≤ minute
    → is_expired G reel minute ≡ is_expired H reel minute
expired G H reel minute a baked le =
    expired-is G reel minute ∙ ap (λ o. option_map_or (λ left. left == 0) o false) (a.minutes baked minute le) ∙ sym (expired-is H reel minute)

-- The refusal of the first test that holds, or else another.
abbrev tests-then : List (Bool × Refusal) → Option Refusal → Option Refusal
tests-then [] rest = rest
tests-then (t ∷ ts) rest = if t.0 then Some t.1 else tests-then ts rest

-- The tests of a reel's floor life: an unbaked reel is refused before its minutes matter.
life-tests : (G H : History) (reel : Name) (minute : ℕ) (not_baked expiry : Refusal) → IsSame G H reel → now_of G ≤ minute
    → first_refusal ((is_unbaked G reel, not_baked) ∷ (is_expired G reel minute, expiry) ∷ [])
    ≡ first_refusal ((is_unbaked H reel, not_baked) ∷ (is_expired H reel minute, expiry) ∷ [])
life-tests G H reel minute not_baked expiry a le = by (is_unbaked G reel) refl
  where
    tests : Bool → Bool → Option Refusal
    tests unbaked expired = first_refusal ((unbaked, not_baked) ∷ (expired, expiry) ∷ [])

    by : (b : Bool) → is_unbaked G reel ≡ b → tests (is_unbaked G reel) (is_expired G reel minute) ≡ tests (is_unbaked H reel) (is_expired H reel minute)
    by true is = ap (λ b. tests b (is_expired G reel minute)) is ∙ sym (ap (λ b. tests b (is_expired H reel minute)) (sym a.unbaked ∙ is))
    by false is = λ j. tests (a.unbaked j) (expired G H reel minute a is le j)

-- The front of a slot has pieces left.
first-passes : (p : Name → Bool) (names : List Name) (x : Name) → first (filter (λ r. p r) names) ≡ Some x → p x ≡ true
first-passes p [] x is = cc
first-passes p (y ∷ names) x is = by (p y) refl (first-passes p names x) is
  where
    by : (b : Bool) → p y ≡ b → (first (filter (λ r. p r) names) ≡ Some x → p x ≡ true) → first (if b then y ∷ filter (λ r. p r) names else filter (λ r. p r) names) ≡ Some x → p x ≡ true
    by true passes rest is = let one : y ≡ x = cc in ap p (sym one) ∙ passes
    by false other rest is = rest is

front-left : (H : History) (machine slot reel : Name) → front_of H machine slot ≡ Some reel → nat_lt 0 (left_of H reel) ≡ true
unfolding live_on
front-left H machine slot reel is = first-passes (λ r. nat_lt 0 (left_of H r)) (tape_of H machine slot) reel is

-- ---- answers

module _ (past_board past_reel : Name → Bool) where
  abbrev AreNew : (Name → Bool) → List Name → Type 0
  AreNew past names = All (λ name. past name ≡ false) names

  only : (past : Name → Bool) (name : Name) → AreNew past (name ∷ []) → past name ≡ false
  only past name all = All-head (λ x. past x ≡ false) name [] all

  -- A reel with pieces left is not past.
  pub left-new : (G H : History) (reel : Name) → Agree past_board past_reel G H → nat_lt 0 (left_of G reel) ≡ true → past_reel reel ≡ false
  left-new G H reel a some = by (past_reel reel) refl
    where
      by : (b : Bool) → past_reel reel ≡ b → past_reel reel ≡ false
      by false is = is
      by true is = let none = sym (ap (nat_lt 0) (a.spent reel is).1) ∙ some in cc

  wrong-for : (G H : History) (row : SheetRow) (reel : Name) → Agree past_board past_reel G H → IsSame G H reel → is_wrong_for G row reel ≡ is_wrong_for H row reel
  wrong-for G H row reel a s =
      marked (λ m. not (same m.0 row.part || is_alternate G row.part m.0)) false (receipt_of G reel)
      ∙ (λ j. option_map_or (λ (m : Name × (Name × LevelWithLabel)). not (same m.0 row.part || a.alternates j row.part m.0)) (s.marks j) false)
      ∙ sym (marked (λ m. not (same m.0 row.part || is_alternate H row.part m.0)) false (receipt_of H reel))

  -- ---- sheets

  sheet : (G H : History) (machine : Name) → Agree past_board past_reel G H → sheet_on G machine ≡ sheet_on H machine
  sheet G H machine a = λ j. option_and_then (λ product. a.sheets j product machine) (a.selections j machine)

  row : (G H : History) (machine slot : Name) → Agree past_board past_reel G H → row_on G machine slot ≡ row_on H machine slot
  row G H machine slot a = ap (option_and_then (λ rows. row_in rows slot)) (sheet G H machine a)

  slot : (G H : History) (machine : Name) → Agree past_board past_reel G H → slot_on G machine ≡ slot_on H machine
  slot G H machine a = λ j designator. option_and_then (λ rows. slot_in rows designator) (sheet G H machine a j)

  bench : (G H : History) (machine board : Name) → Agree past_board past_reel G H → live_bench G machine board ≡ live_bench H machine board
  bench G H machine board a = λ j. record { machine = machine; board = board; slot_of = slot G H machine a j; tape = a.live j machine; pieces = a.left j }

  -- ---- refusals

  wrong-part : (G H : History) (machine s reel : Name) → Agree past_board past_reel G H → IsSame G H reel → is_wrong_part G machine s reel ≡ is_wrong_part H machine s reel
  wrong-part G H machine s reel a same_reel = λ j. option_map_or (λ r. wrong-for G H r reel a same_reel j) (row G H machine s a j) false

  mounting : (G H : History) (minute : ℕ) (machine s reel : Name) (t u : Bool × Refusal) → Agree past_board past_reel G H → AreNew past_reel (reel ∷ [])
      → now_of G ≤ minute → t ≡ u → mounting_refusal G minute machine s reel t ≡ mounting_refusal H minute machine s reel u
  unfolding mounting_refusal
  mounting G H minute machine s reel t u a new le is =
      let it = a.reels reel (only past_reel reel new) in
      λ j. tests-then (
      (is_none (a.selections j machine), NoProduct machine)
      ∷ (is_none (row G H machine s a j), SlotNotOnSheet s)
      ∷ is j
      ∷ (unknown G H reel it j, UnknownReel reel)
      ∷ (a.mounted j reel, ReelMounted reel)
      ∷ (a.left j reel == 0, ReelEmpty reel)
      ∷ (wrong-part G H machine s reel a it j, WrongPart reel)
      ∷ [])
      (life-tests G H reel minute (NotBaked reel) (Expired reel) it le j)

  front : (G H : History) (minute : ℕ) (machine : Name) (r : SheetRow) (o : Option Name) → front_of G machine r.slot ≡ o → Agree past_board past_reel G H
      → now_of G ≤ minute → front_refusal G minute r o ≡ front_refusal H minute r o
  front G H minute machine r None is a le = refl
  front G H minute machine r (Some reel) is a le =
      let it = a.reels reel (left-new G H reel a (front-left G machine r.slot reel is)) in
      λ j. tests-then ((wrong-for G H r reel a it j, WrongPart r.slot) ∷ []) (life-tests G H reel minute (NotBaked r.slot) (Expired r.slot) it le j)

  slots : (G H : History) (minute : ℕ) (machine : Name) (rows : List SheetRow) → Agree past_board past_reel G H → now_of G ≤ minute
      → slots_refusal G minute machine rows ≡ slots_refusal H minute machine rows
  slots G H minute machine [] a le = refl
  slots G H minute machine (r ∷ rows) a le = λ j. option_or
      ((front G H minute machine r (front_of G machine r.slot) refl a le ∙ ap (front_refusal H minute r) (λ k. first (a.live k machine r.slot))) j)
      (slots G H minute machine rows a le j)

  counts : (rules : Rules) (G H : History) (seen : List Name) (rows : List CountRow) → Agree past_board past_reel G H
      → AreNew past_reel (reels_named (CountsTaken rows)) → counts_refusal rules G seen rows ≡ counts_refusal rules H seen rows
  counts rules G H seen [] a new = refl
  counts rules G H seen (r ∷ rows) a new =
      let it = a.reels r.reel (All-head (λ x. past_reel x ≡ false) r.reel (reels_named (CountsTaken rows)) new) in
      let rest = counts rules G H (seen ++ r.reel ∷ []) rows a (All-tail (λ x. past_reel x ≡ false) r.reel (reels_named (CountsTaken rows)) new) in
      λ j. option_or (first_refusal (
      (unknown G H r.reel it j, UnknownReel r.reel)
      ∷ (list_any (same r.reel) seen, ReelTwice r.reel)
      ∷ (a.mounted j r.reel, ReelMounted r.reel)
      ∷ (is_above rules (a.left j r.reel) r.quantity, CountAbove r.reel)
      ∷ []))
      (rest j)

  designators : (G H : History) (machine board : Name) (ds : List Name) → Agree past_board past_reel G H → past_board board ≡ false
      → install_refusal G machine board ds ≡ install_refusal H machine board ds
  unfolding install_refusal
  designators G H machine board ds a new =
      let refused : designators_refusal (bench_of G machine board) (is_placed_on G board) [] [] ds
      ≡ designators_refusal (bench_of H machine board) (is_placed_on H board) [] [] ds =
      sym (designators-live G (is_placed_on G board) machine board [] [] ds)
      ∙ (λ j. designators_refusal (bench G H machine board a j) (a.placed board new j) [] [] ds)
      ∙ designators-live H (is_placed_on H board) machine board [] [] ds in
      λ j. if option_map_or (same board) (a.running j machine) false then refused j else Some (NotInWork board)

  -- The refusal of a command that takes effect at the minute.
  command-same : (rules : Rules) (G H : History) (minute : ℕ) (command : Command) → Agree past_board past_reel G H
      → AreNew past_board (boards_named command) → AreNew past_reel (reels_named command) → now_of G ≤ minute
      → command_refusal rules G minute command ≡ command_refusal rules H minute command
  unfolding command_refusal part_refusal alternate_refusal definition_refusal selection_refusal receipt_refusal opening_refusal closing_refusal unload_refusal scrap_refusal start_refusal completion_refusal
  command-same rules G H minute (PartDefined part) a boards reels le = λ j. first_refusal ((a.parts j part, PartExists part) ∷ [])
  command-same rules G H minute (AlternateAllowed part alternate) a boards reels le = λ j. first_refusal (
      (not (a.parts j part), UnknownPart part)
      ∷ (not (a.parts j alternate), UnknownPart alternate)
      ∷ [])
  command-same rules G H minute (SheetDefined product machine rows) a boards reels le =
      λ j. if is_some (a.running j machine) then Some (MachineBusy machine) else sheet_refusal (a.parts j) rows
  command-same rules G H minute (ProductSelected machine product) a boards reels le = λ j. first_refusal (
      (is_none (a.sheets j product machine), UnknownSheet product)
      ∷ (is_some (a.running j machine), MachineBusy machine)
      ∷ [])
  command-same rules G H minute (ReelReceived reel part lot moisture quantity) a boards reels le =
      let it = a.reels reel (only past_reel reel reels) in
      λ j. first_refusal ((not (a.parts j part), UnknownPart part) ∷ (known G H reel it j, ReelExists reel) ∷ [])
  command-same rules G H minute (ReelOpened reel) a boards reels le =
      let it = a.reels reel (only past_reel reel reels) in
      λ j. first_refusal ((unknown G H reel it j, UnknownReel reel) ∷ [])
  command-same rules G H minute (ReelSealed reel) a boards reels le =
      let it = a.reels reel (only past_reel reel reels) in
      λ j. first_refusal ((unknown G H reel it j, UnknownReel reel) ∷ (a.mounted j reel, ReelMounted reel) ∷ [])
  command-same rules G H minute (ReelBaked reel) a boards reels le =
      let it = a.reels reel (only past_reel reel reels) in
      λ j. first_refusal ((unknown G H reel it j, UnknownReel reel) ∷ (a.mounted j reel, ReelMounted reel) ∷ [])
  command-same rules G H minute (MaterialsLoaded machine s reel) a boards reels le =
      mounting G H minute machine s reel _ _ a reels le (λ j. (not (is_none (first (a.live j machine s))), SlotTaken s))
  command-same rules G H minute (MaterialsSpliced machine s reel) a boards reels le =
      mounting G H minute machine s reel _ _ a reels le (λ j. (is_none (first (a.live j machine s)), SlotEmpty s))
  command-same rules G H minute (MaterialsUnloaded machine s) a boards reels le =
      λ j. first_refusal ((is_none (first (a.live j machine s)), SlotEmpty s) ∷ [])
  command-same rules G H minute (WorkStarted machine board) a boards reels le =
      let rows = slots G H minute machine (unwrap_or (sheet_on G machine) []) a le
      ∙ ap (slots_refusal H minute machine) (λ j. unwrap_or (sheet G H machine a j) []) in
      let product = a.products board (only past_board board boards) in
      λ j. option_or (first_refusal (
      (is_none (a.selections j machine), NoProduct machine)
      ∷ (is_some (a.running j machine), MachineBusy machine)
      ∷ (a.busy j board, BoardBusy board)
      ∷ (differ (product j) (a.selections j machine), OtherProduct board)
      ∷ []))
      (rows j)
  command-same rules G H minute (WorkCompleted machine board) a boards reels le =
      λ j. first_refusal ((not (option_map_or (same board) (a.running j machine) false), NotInWork board) ∷ [])
  command-same rules G H minute (MaterialsInstalled machine board ds) a boards reels le = designators G H machine board ds a (only past_board board boards)
  command-same rules G H minute (MaterialsScrapped machine s quantity) a boards reels le = λ j. first_refusal (
      (is_none (first (a.live j machine s)), SlotEmpty s)
      ∷ (nat_lt (sum_by (a.left j) (a.live j machine s)) quantity, ReelShort s)
      ∷ [])
  command-same rules G H minute (CountsTaken rows) a boards reels le = counts rules G H [] rows a reels
  command-same rules G H minute ClockSet a boards reels le = refl

  -- The minute at which a command takes effect, and its refusal.
  pub effective-same : (G H : History) (s : Stamped) → Agree past_board past_reel G H → effective_minute G s.minute ≡ effective_minute H s.minute
  effective-same G H s a = λ j. max s.minute (unwrap_or (a.minute j) 0)

  pub refusal-same : (rules : Rules) (G H : History) (s : Stamped) → Agree past_board past_reel G H
      → AreNew past_board (boards_named s.command) → AreNew past_reel (reels_named s.command) → refusal_of rules G s ≡ refusal_of rules H s
  unfolding refusal_of
  refusal-same rules G H s a boards reels =
      let own = command-same rules G H (effective_minute G s.minute) s.command a boards reels (omega arith)
      ∙ ap (λ m. command_refusal rules H m s.command) (effective-same G H s a) in
      λ j. if option_map_or (λ desk. nat_lt (desk + FURTHEST_AHEAD) s.minute) (a.minute j) false && not (is_clock s.command) then Some TooFarAhead else own j

  -- ---- takes and replies

  pub picks-same : (G H : History) (command : Command) → Agree past_board past_reel G H → picks_of G command ≡ picks_of H command
  picks-same G H (MaterialsInstalled machine board ds) a =
      sym (picks-live G machine board [] ds)
      ∙ (λ j. install_picks (bench G H machine board a j) [] ds)
      ∙ picks-live H machine board [] ds
  picks-same G H (MaterialsScrapped machine s quantity) a =
      sym (scrap-live G (Rejected machine s) machine s quantity)
      ∙ (λ j. scrap_picks (a.left j) (Rejected machine s) (a.live j machine s) quantity)
      ∙ scrap-live H (Rejected machine s) machine s quantity
  picks-same G H (CountsTaken rows) a = λ j. count_picks (a.left j) rows
  picks-same G H _ a = refl

  pub detail-same : (G H : History) (minute : ℕ) (command : Command) → Agree past_board past_reel G H → AreNew past_reel (reels_named command) → now_of G ≤ minute
      → command_refusal Two G minute command ≡ None → detail_of G minute command ≡ detail_of H minute command
  unfolding command_refusal
  detail-same G H minute (MaterialsLoaded machine s reel) a reels le none =
      ap MinutesLeft ((a.reels reel (only past_reel reel reels)).minutes (mountable G minute machine s reel _ none).baked minute le)
  detail-same G H minute (MaterialsSpliced machine s reel) a reels le none =
      ap MinutesLeft ((a.reels reel (only past_reel reel reels)).minutes (mountable G minute machine s reel _ none).baked minute le)
  detail-same G H minute (MaterialsInstalled machine board ds) a reels le none = λ j. Reels (reels_of (picks-same G H (MaterialsInstalled machine board ds) a j))
  detail-same G H minute (MaterialsScrapped machine s quantity) a reels le none = λ j. Taken (pieces_of (picks-same G H (MaterialsScrapped machine s quantity) a j))
  detail-same G H minute (CountsTaken rows) a reels le none = λ j. Taken (pieces_of (picks-same G H (CountsTaken rows) a j))
  detail-same G H minute _ a reels le none = refl
