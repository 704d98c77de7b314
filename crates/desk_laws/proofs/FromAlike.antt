-- Alike histories agree except for past boards and reels. Histories that agree so are alike if no board is in work.
use Rattle.desk_types.proofs.Common.{[], ◌&&◌, ◌-◌, ◌<◌, ◌==◌, ◌||◌, ◌∙◌, ◌∷◌, ◌≡◌, and_parts, ap, arith}
use Rattle.desk_types.proofs.Common.{bench_of, Bool, both_ways, command_refusal, Contains}
use Rattle.desk_types.proofs.Common.{designators_refusal, eqb-true, exposure_of, false, History}
use Rattle.desk_types.proofs.Common.{if◌then◌else◌, in_work_on, install_refusal, is_baked, is_in_work}
use Rattle.desk_types.proofs.Common.{is_in_work_on, is_mounted, is_placed_on, is_six, is_some, IsJudged}
use Rattle.desk_types.proofs.Common.{IsNext, IsUntouched, left_of, LevelWithLabel, limit_of, List, list_any}
use Rattle.desk_types.proofs.Common.{Name, nat_lt, nat_tests, None, not, Option, option_and_then, option_map}
use Rattle.desk_types.proofs.Common.{option_map_or, option_or, or_parts, out_since, places, product_of}
use Rattle.desk_types.proofs.Common.{receipt_of, refl, same, same-true, selected_on, since_after, Some}
use Rattle.desk_types.proofs.Common.{start_by, subst, sym, true, ℕ}
use Rattle.desk_laws.proofs.Common.{AreAlike, Command, Entry, is_started, IsIdle, IsSameReel}
use Rattle.desk_laws.proofs.Common.{MaterialsInstalled, NotInWork, Receipt, Two, WorkStarted}
use Rattle.desk_laws.proofs.{Accepted.next-accepted, Accepted.not-some, Agreeing.Agree, Agreeing.IsSame}
use Rattle.desk_laws.proofs.{Agreeing.known, Agreeing.left-new, Agreeing.mark, Agreeing.marked}
use Rattle.desk_laws.proofs.{BoardsInWork.work-product, BoardsInWork.work-selected, Judgements.untouched}
use Rattle.desk_laws.proofs.{Lookups.in_work-somewhere, Lookups.mounted-live, Lookups.mounted-there}
use Rattle.desk_laws.specs.Past.{is_spent}

-- ---- boards

-- A board that was not started has no product,
pub unstarted-product : (H : History) (board : Name) → is_started H board ≡ false → product_of H board ≡ None
unstarted-product [] board new = refl
unstarted-product (e ∷ H) board new =
    let neither = or_parts (is_some (start_by board e.stamped.command)) (is_started H board) new in
    ap (λ o. option_or o (option_and_then (selected_on H) (start_by board e.stamped.command))) (unstarted-product H board neither.1)
    ∙ ap (option_and_then (selected_on H)) (not-some (start_by board e.stamped.command) neither.0)

-- And one that was started has one.
if-is : {X : Type 0} (b : Bool) (x y : X) → (if b then Some x else None) ≡ Some y → x ≡ y
if-is true x y is = cc
if-is false x y is = cc

start-selected : (H : History) (e : Entry) (board machine : Name) (command : Command) → IsNext Two H e → e.stamped.command ≡ command → start_by board command ≡ Some machine
    → is_some (selected_on H machine) ≡ true
start-selected H e board machine (WorkStarted m b) next is starts =
    ap (λ x. is_some (selected_on H x)) (sym (if-is (same b board) m machine starts)) ∙ work-selected H e m b next is
start-selected H e board machine _ next is starts = cc

pub started-product : (H : History) (board : Name) → IsJudged Two H → is_started H board ≡ true → is_some (product_of H board) ≡ true
started-product [] board judged started = cc
started-product (e ∷ H) board (next, judged) started = by (start_by board e.stamped.command) (product_of H board) refl refl started (started-product H board judged)
  where
    by : (start product : Option Name) → start_by board e.stamped.command ≡ start → product_of H board ≡ product → (is_some start || is_started H board) ≡ true
        → (is_started H board ≡ true → is_some (product_of H board) ≡ true) → is_some (option_or product (option_and_then (selected_on H) start)) ≡ true
    by start (Some product) starts has started before = refl
    by None None starts has started before = sym (ap is_some has) ∙ before started
    by (Some machine) None starts has started before = start-selected H e board machine e.stamped.command next refl starts

in-work-there : (H : History) (machine board : Name) → is_in_work_on H machine board ≡ true → in_work_on H machine ≡ Some board
in-work-there H machine board is = by (in_work_on H machine) is
  where
    by : (o : Option Name) → option_map_or (same board) o false ≡ true → o ≡ Some board
    by None is = cc
    by (Some b) is = ap (λ x. Some x) (sym (same-true board b is))

-- An accepted install is of a board in work,
installed-in-work : (H : History) (machine board : Name) (ds : List Name) → install_refusal H machine board ds ≡ None → is_in_work_on H machine board ≡ true
unfolding install_refusal
installed-in-work H machine board ds none = by (is_in_work_on H machine board) none
  where
    by : (b : Bool) → (if b then designators_refusal (bench_of H machine board) (is_placed_on H board) [] [] ds else Some (NotInWork board)) ≡ None
        → b ≡ true
    by true none = refl
    by false none = cc

-- No accepted command places a piece on a board without a product,
places-none : (H : History) (minute : ℕ) (command : Command) (board d : Name) → IsJudged Two H → command_refusal Two H minute command ≡ None
    → product_of H board ≡ None → places board d command ≡ false
unfolding command_refusal
places-none H minute (MaterialsInstalled machine b ds) board d judged none product = by (same b board) refl
  where
    by : (s : Bool) → same b board ≡ s → (s && list_any (same d) ds) ≡ false
    by false other = refl
    by true its =
        let has = work-product H machine b judged (in-work-there H machine b (installed-in-work H machine b ds none)) in
        let lacks = ap (λ x. is_some (product_of H x)) (same-true b board its) ∙ ap is_some product in
        cc
places-none H minute _ board d judged none product = refl

-- And none is placed on a board that was not started.
unstarted-placed : (H : History) (board d : Name) → IsJudged Two H → is_started H board ≡ false → is_placed_on H board d ≡ false
unstarted-placed [] board d judged new = refl
unstarted-placed (e ∷ H) board d (next, judged) new =
    let neither = or_parts (is_some (start_by board e.stamped.command)) (is_started H board) new in
    ap (λ b. b || is_placed_on H board d)
    (places-none H e.effective e.stamped.command board d judged (next-accepted H e next) (unstarted-product H board neither.1))
    ∙ unstarted-placed H board d judged neither.1

-- Where no board is in work on a machine, none is in work.
idle-boards : (H : History) (board : Name) → IsIdle H → is_in_work H board ≡ false
idle-boards H board idle = by (is_in_work H board) refl
  where
    by : (b : Bool) → is_in_work H board ≡ b → is_in_work H board ≡ false
    by false is = is
    by true is = let on = in_work-somewhere H board is in let none = sym (idle on.0) ∙ on.1 in cc

-- ---- reels

-- A reel that was not received.
out-untouched : (H : History) (reel : Name) → IsUntouched H reel → out_since H reel ≡ None
out-untouched [] reel none = refl
out-untouched (e ∷ H) reel (none, rest) = ap (λ o. since_after o e.effective (out_since H reel)) none ∙ out-untouched H reel rest

abbrev minutes_by : Option Receipt → ℕ → Option ℕ
minutes_by o exposure = option_map (λ limit. limit - exposure) (option_and_then (λ (r : Receipt). limit_of r.moisture.level r.moisture.label) o)

pub same-absent : (G H : History) (reel : Name) → IsJudged Two G → IsJudged Two H → receipt_of G reel ≡ None → receipt_of H reel ≡ None → IsSame G H reel
same-absent G H reel of_G of_H in_G in_H = record {
  marks = ap (option_map mark) (in_G ∙ sym in_H);
  unbaked =
      ap (λ o. option_map_or (λ (r : Receipt). is_six r.moisture.level) o false && not (is_baked G reel)) in_G
      ∙ sym (ap (λ o. option_map_or (λ (r : Receipt). is_six r.moisture.level) o false && not (is_baked H reel)) in_H);
  out = ap is_some (out-untouched G reel (untouched G reel of_G in_G) ∙ sym (out-untouched H reel (untouched H reel of_H in_H)));
  minutes = λ _ minute _.
      ap (λ o. minutes_by o (exposure_of G reel minute)) in_G ∙ sym (ap (λ o. minutes_by o (exposure_of H reel minute)) in_H);
}

-- The mark of a receipt is its part, its lot and its moisture level.
mark-of : (o p : Option Receipt) → option_map_or (λ (r : Receipt). r.part) o [] ≡ option_map_or (λ (r : Receipt). r.part) p []
    → option_map_or (λ (r : Receipt). r.lot) o [] ≡ option_map_or (λ (r : Receipt). r.lot) p []
    → option_map (λ (r : Receipt). r.moisture) o ≡ option_map (λ (r : Receipt). r.moisture) p → option_map mark o ≡ option_map mark p
mark-of None None part lot moisture = refl
mark-of None (Some r) part lot moisture = cc
mark-of (Some r) None part lot moisture = cc
mark-of (Some r) (Some q) part lot moisture = let one : r.moisture ≡ q.moisture = cc in λ j. Some (part j, (lot j, one j))

moisture-of : (o : Option Receipt) → option_map (λ (r : Receipt). r.moisture) o ≡ option_map (λ (m : Name × (Name × LevelWithLabel)). m.1.1) (option_map mark o)
moisture-of None = refl
moisture-of (Some r) = refl

same-from : (G H : History) (reel : Name) → IsSameReel G H reel → IsSame G H reel
same-from G H reel it = record {
  marks = mark-of (receipt_of G reel) (receipt_of H reel) it.part it.lot it.moisture;
  unbaked = it.unbaked;
  out = it.out;
  minutes = it.minutes;
}

same-to : (G H : History) (reel : Name) → IsSame G H reel → IsSameReel G H reel
same-to G H reel it = record {
  part = marked (λ m. m.0) [] (receipt_of G reel) ∙ ap (λ o. option_map_or (λ (m : Name × (Name × LevelWithLabel)). m.0) o []) it.marks ∙ sym (marked (λ m. m.0) [] (receipt_of H reel));
  lot = marked (λ m. m.1.0) [] (receipt_of G reel) ∙ ap (λ o. option_map_or (λ (m : Name × (Name × LevelWithLabel)). m.1.0) o []) it.marks ∙ sym (marked (λ m. m.1.0) [] (receipt_of H reel));
  moisture = moisture-of (receipt_of G reel) ∙ ap (option_map (λ (m : Name × (Name × LevelWithLabel)). m.1.1)) it.marks ∙ sym (moisture-of (receipt_of H reel));
  unbaked = it.unbaked;
  out = it.out;
  minutes = it.minutes;
}

some-left : (n : ℕ) → (n == 0) ≡ false → 0 < n
some-left n is = grind (arith, nat_tests)

is-some : (n : ℕ) → 0 < n → nat_lt 0 n ≡ true
is-some n lt = grind (arith, nat_tests)

-- ---- from alike histories

pub agree-from : (G H : History) → IsJudged Two G → IsJudged Two H → AreAlike G H → Agree (is_started G) (is_spent G) G H
agree-from G H of_G of_H a = record {
  minute = a.minute;
  parts = λ j part. a.parts part j;
  alternates = λ j p q. a.alternates p q j;
  sheets = λ j product machine. a.sheets product machine j;
  selections = λ j machine. a.selections machine j;
  running = λ j machine. (a.old_idle machine ∙ sym (a.new_idle machine)) j;
  busy = λ j board. (idle-boards G board a.old_idle ∙ sym (idle-boards H board a.new_idle)) j;
  products = λ board new. unstarted-product G board new ∙ sym (unstarted-product H board (new-board board new));
  placed = λ board new. λ j d. (unstarted-placed G board d of_G new ∙ sym (unstarted-placed H board d of_H (new-board board new))) j;
  left = λ j reel. a.left reel j;
  live = λ j machine slot. a.slots machine slot j;
  mounted = λ j reel. mounted reel j;
  started = λ board past. past;
  spent = λ reel past. let both = and_parts (is_some (receipt_of G reel)) (left_of G reel == 0) past in (both.0, eqb-true (left_of G reel) 0 both.1);
  reels = λ reel new. of-reel reel new (receipt_of G reel) refl;
}
  where
    -- A board that the old desk did not start, the new one did not.
    new-board : (board : Name) → is_started G board ≡ false → is_started H board ≡ false
    new-board board new = by (is_started H board) refl
      where
        by : (b : Bool) → is_started H board ≡ b → is_started H board ≡ false
        by false is = is
        by true is = let old = sym (a.boards_known board is) ∙ new in cc

    mounted : (reel : Name) → is_mounted G reel ≡ is_mounted H reel
    mounted reel =
        both_ways (is_mounted G reel) (is_mounted H reel)
        (λ is. let at = mounted-live G reel is in mounted-there H reel (at.0, at.1, subst (λ reels. Contains reels reel) (a.slots at.0 at.1) at.2))
        (λ is. let at = mounted-live H reel is in mounted-there G reel (at.0, at.1, subst (λ reels. Contains reels reel) (sym (a.slots at.0 at.1)) at.2))

    of-reel : (reel : Name) → is_spent G reel ≡ false → (o : Option Receipt) → receipt_of G reel ≡ o → IsSame G H reel
    of-reel reel new None is = same-absent G H reel of_G of_H is (absent (receipt_of H reel) refl)
      where
        absent : (o : Option Receipt) → receipt_of H reel ≡ o → receipt_of H reel ≡ None
        absent None is_H = is_H
        absent (Some r) is_H = let old = sym (a.reels_known reel (ap is_some is_H)) ∙ ap is_some is in cc
    of-reel reel new (Some r) is =
        same-from G H reel (a.reels reel (some-left (left_of G reel) (sym (ap (λ o. is_some o && (left_of G reel == 0)) is) ∙ new)))

-- ---- and back to alike ones

pub alike-from : (past_board past_reel : Name → Bool) (G H : History) → IsJudged Two H → Agree past_board past_reel G H → IsIdle G → AreAlike G H
alike-from past_board past_reel G H of_H a idle = record {
  minute = a.minute;
  parts = λ part. λ j. a.parts j part;
  alternates = λ p q. λ j. a.alternates j p q;
  sheets = λ product machine. λ j. a.sheets j product machine;
  selections = λ machine. λ j. a.selections j machine;
  old_idle = idle;
  new_idle = λ machine. sym (λ j. a.running j machine) ∙ idle machine;
  slots = λ machine slot. λ j. a.live j machine slot;
  left = λ reel. λ j. a.left j reel;
  reels = λ reel some. same-to G H reel (a.reels reel (left-new past_board past_reel G H reel a (is-some (left_of G reel) some)));
  boards_known = λ board is. of-board board is (past_board board) refl (is_started G board) refl;
  reels_known = λ reel is. of-reel reel is (past_reel reel) refl;
}
  where
    of-board : (board : Name) → is_started H board ≡ true → (b : Bool) → past_board board ≡ b → (c : Bool) → is_started G board ≡ c → is_started G board ≡ true
    of-board board is true past c started = a.started board past
    of-board board is false new true started = started
    of-board board is false new false started =
        let has = ap is_some (a.products board new) ∙ started-product H board of_H is in
        let lacks = ap is_some (unstarted-product G board started) in
        cc

    of-reel : (reel : Name) → is_some (receipt_of H reel) ≡ true → (b : Bool) → past_reel reel ≡ b → is_some (receipt_of G reel) ≡ true
    of-reel reel is true past = (a.spent reel past).0
    of-reel reel is false new = known G H reel (a.reels reel new) ∙ is
