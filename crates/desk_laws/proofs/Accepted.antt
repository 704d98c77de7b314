-- The tests that an accepted command passed.
use Rattle.desk_types.proofs.Common.{[], ◌==◌, ◌∙◌, ◌∷◌, ◌≡◌, AllByRecursion, ap, Bool, closing_refusal}
use Rattle.desk_types.proofs.Common.{command_refusal, effective_minute, false, first_refusal, History}
use Rattle.desk_types.proofs.Common.{if◌then◌else◌, is_expired, is_mounted, is_none, is_part, is_some}
use Rattle.desk_types.proofs.Common.{is_too_far_ahead, is_unbaked, IsNext, left_of, List, mounting_refusal}
use Rattle.desk_types.proofs.Common.{Name, None, not, open_by, opening_refusal, Option, receipt_by}
use Rattle.desk_types.proofs.Common.{receipt_of, receipt_refusal, refl, refusal_of, row_on, same, same-true}
use Rattle.desk_types.proofs.Common.{selected_on, Some, sym, true, ℕ}
use Rattle.desk_laws.proofs.Common.{Command, Entry, Expired, MaterialsLoaded, MaterialsSpliced, NoProduct}
use Rattle.desk_laws.proofs.Common.{NotBaked, Receipt, ReelBaked, ReelExists, ReelMounted, ReelOpened}
use Rattle.desk_laws.proofs.Common.{ReelReceived, ReelSealed, Refusal, Stamped, TooFarAhead, Two, UnknownReel}
use Rattle.desk_laws.proofs.Common.{WrongPart}
use Rattle.desk_types.proofs.Tests.{if-some}
use Rattle.desk_types.specs.Refusals.{is_wrong_part}
use Rattle.desk_types.specs.declared.answer.Refusal.TheVariants.{ReelEmpty, SlotNotOnSheet, UnknownPart}

-- ---- tests

pub none-holds : (ts : List (Bool × Refusal)) → first_refusal ts ≡ None → AllByRecursion (λ (t : Bool × Refusal). t.0 ≡ false) ts
none-holds [] none = tt
none-holds ((true, refusal) ∷ ts) none = cc
none-holds ((false, refusal) ∷ ts) none = (refl, none-holds ts none)

if-none : {X : Type 0} (b : Bool) (x : X) (o : Option X) → (if b then Some x else o) ≡ None → (b ≡ false) × (o ≡ None)
if-none true x o none = cc
if-none false x o none = (refl, none)

pub command-accepted : (H : History) (s : Stamped) → refusal_of Two H s ≡ None → command_refusal Two H (effective_minute H s.minute) s.command ≡ None
unfolding refusal_of
command-accepted H s none = (if-none (is_too_far_ahead H s) TooFarAhead _ none).1

pub next-accepted : (H : History) (e : Entry) → IsNext Two H e → command_refusal Two H e.effective e.stamped.command ≡ None
next-accepted H e next = ap (λ m. command_refusal Two H m e.stamped.command) next.effective ∙ command-accepted H e.stamped next.accepted

-- ---- reels

pub record IsAtRest (H : History) (reel : Name) : Type 0 where
  pub received : is_none (receipt_of H reel) ≡ false
  pub not_mounted : is_mounted H reel ≡ false

-- The tests of a load or splice at the minute.
pub record IsMountable (H : History) (minute : ℕ) (machine slot reel : Name) (slot_test : Bool) : Type 0 where
  pub selected : is_none (selected_on H machine) ≡ false
  pub on_sheet : is_none (row_on H machine slot) ≡ false
  pub of_slot : slot_test ≡ false
  pub received : is_none (receipt_of H reel) ≡ false
  pub not_mounted : is_mounted H reel ≡ false
  pub some : (left_of H reel == 0) ≡ false
  pub right_part : is_wrong_part H machine slot reel ≡ false
  pub baked : is_unbaked H reel ≡ false
  pub not_expired : is_expired H reel minute ≡ false

pub record IsReceivable (H : History) (reel part : Name) : Type 0 where
  pub known : not (is_part H part) ≡ false
  pub new : is_some (receipt_of H reel) ≡ false

pub receivable : (H : History) (reel part : Name) → receipt_refusal H reel part ≡ None → IsReceivable H reel part
unfolding receipt_refusal
receivable H reel part none =
    let all = none-holds ((not (is_part H part), UnknownPart part) ∷ (is_some (receipt_of H reel), ReelExists reel) ∷ []) none in
    record { known = all.0; new = all.1.0 }

pub openable : (H : History) (reel : Name) → opening_refusal H reel ≡ None → is_none (receipt_of H reel) ≡ false
unfolding opening_refusal
openable H reel none = (none-holds ((is_none (receipt_of H reel), UnknownReel reel) ∷ []) none).0

pub at-rest : (H : History) (reel : Name) → closing_refusal H reel ≡ None → IsAtRest H reel
unfolding closing_refusal
at-rest H reel none =
    let all = none-holds ((is_none (receipt_of H reel), UnknownReel reel) ∷ (is_mounted H reel, ReelMounted reel) ∷ []) none in
    record { received = all.0; not_mounted = all.1.0 }

pub mountable : (H : History) (minute : ℕ) (machine slot reel : Name) (slot_test : Bool × Refusal) → mounting_refusal H minute machine slot reel slot_test ≡ None
    → IsMountable H minute machine slot reel slot_test.0
unfolding mounting_refusal
mountable H minute machine slot reel slot_test none =
    let all = none-holds tests none in
    record {
      selected = all.0;
      on_sheet = all.1.0;
      of_slot = all.1.1.0;
      received = all.1.1.1.0;
      not_mounted = all.1.1.1.1.0;
      some = all.1.1.1.1.1.0;
      right_part = all.1.1.1.1.1.1.0;
      baked = all.1.1.1.1.1.1.1.0;
      not_expired = all.1.1.1.1.1.1.1.1.0;
    }
  where
    tests : List (Bool × Refusal)
    tests =
        (is_none (selected_on H machine), NoProduct machine)
        ∷ (is_none (row_on H machine slot), SlotNotOnSheet slot)
        ∷ slot_test
        ∷ (is_none (receipt_of H reel), UnknownReel reel)
        ∷ (is_mounted H reel, ReelMounted reel)
        ∷ (left_of H reel == 0, ReelEmpty reel)
        ∷ (is_wrong_part H machine slot reel, WrongPart reel)
        ∷ (is_unbaked H reel, NotBaked reel)
        ∷ (is_expired H reel minute, Expired reel)
        ∷ []

-- ---- handled reels are received reels

pub not-some : {X : Type 0} (o : Option X) → is_some o ≡ false → o ≡ None
not-some None is = refl
not-some (Some x) is = cc

not-both : {X Y P : Type 0} (b : Bool) (x : X) (y z : Y) → (if b then Some x else None) ≡ None → (if b then Some y else None) ≡ Some z → P
not-both true x y z none is = cc
not-both false x y z none is = cc

-- A command on reel r that concerns `name` is on the same reel.
received-too : {X : Type 0} (H : History) (r name : Name) (x y : X) → (if same r name then Some x else None) ≡ Some y → is_none (receipt_of H r) ≡ false
    → is_none (receipt_of H name) ≡ false
received-too H r name x y says received = sym (ap (λ n. is_none (receipt_of H n)) (same-true r name (if-some (same r name) x y says))) ∙ received

pub handled-by : (H : History) (minute : ℕ) (name : Name) (command : Command) (out : Bool) → command_refusal Two H minute command ≡ None
    → receipt_by name minute command ≡ None → open_by name command ≡ Some out → is_none (receipt_of H name) ≡ false
unfolding command_refusal
handled-by H minute name (ReelReceived r part lot moisture quantity) out accepted none says =
    not-both (same r name) (record { part = part; lot = lot; moisture = moisture; quantity = quantity; effective = minute }) false out none says
handled-by H minute name (ReelOpened r) out accepted none says = received-too H r name true out says (openable H r accepted)
handled-by H minute name (ReelSealed r) out accepted none says = received-too H r name false out says (at-rest H r accepted).received
handled-by H minute name (ReelBaked r) out accepted none says = received-too H r name false out says (at-rest H r accepted).received
handled-by H minute name (MaterialsLoaded machine slot r) out accepted none says =
    received-too H r name true out says (mountable H minute machine slot r _ accepted).received
handled-by H minute name (MaterialsSpliced machine slot r) out accepted none says =
    received-too H r name true out says (mountable H minute machine slot r _ accepted).received
handled-by H minute name _ out accepted none says = cc

pub handled-received : (H : History) (e : Entry) (name : Name) (out : Bool) → IsNext Two H e → receipt_by name e.effective e.stamped.command ≡ None
    → open_by name e.stamped.command ≡ Some out → receipt_of H name ≡ None → ⊥
handled-received H e name out next none says unknown = cc (handled-by H e.effective name e.stamped.command out (next-accepted H e next) none says)

pub received-by : (H : History) (minute : ℕ) (name : Name) (command : Command) (receipt : Receipt) → command_refusal Two H minute command ≡ None
    → receipt_by name minute command ≡ Some receipt → receipt_of H name ≡ None
unfolding command_refusal
received-by H minute name (ReelReceived r part lot moisture quantity) receipt accepted is =
    sym (ap (receipt_of H) (same-true r name (if-some (same r name) _ receipt is))) ∙ not-some (receipt_of H r) (receivable H r part accepted).new
received-by H minute name _ receipt accepted is = cc

pub received-once : (H : History) (e : Entry) (name : Name) (receipt : Receipt) → IsNext Two H e → receipt_by name e.effective e.stamped.command ≡ Some receipt
    → receipt_of H name ≡ None
received-once H e name receipt next is = received-by H e.effective name e.stamped.command receipt (next-accepted H e next) is
