-- The verification of the reels that feed slots.
use Rattle.desk_types.proofs.Common.{[], ◌&&◌, ◌||◌, ◌∙◌, ◌∷◌, ◌≡◌, and_parts, ap, Bool, command_refusal}
use Rattle.desk_types.proofs.Common.{false, History, is_allowed, is_expired, is_wrong_for, IsJudged, IsNext}
use Rattle.desk_types.proofs.Common.{IsPrefix, list_any, Name, None, not, not-false, Option, option_map_or}
use Rattle.desk_types.proofs.Common.{receipt_of, refl, row_on, same, same-true, Some, subst, sym, tape_of}
use Rattle.desk_types.proofs.Common.{true, ℕ}
use Rattle.desk_laws.proofs.Common.{Command, Entry, MaterialsLoaded, MaterialsSpliced, Receipt, SheetRow, Two}
use Rattle.desk_laws.proofs.{Accepted.IsMountable, Accepted.mountable, Accepted.next-accepted}
use Rattle.desk_laws.proofs.{Judgements.judged-prefix, Mounts.has, Mounts.mounted-step}
use Rattle.desk_laws.specs.Verified.{IsVerified, mounts, WasVerified}

-- ---- loads and splices

verified-mountable : (H : History) (minute : ℕ) (machine slot reel : Name) (slot_test : Bool) → IsMountable H minute machine slot reel slot_test → IsVerified H minute machine slot reel
verified-mountable H minute machine slot reel slot_test tests = by (receipt_of H reel) (row_on H machine slot) refl refl
  where
    right : (row : SheetRow) (receipt : Receipt) → row_on H machine slot ≡ Some row → receipt_of H reel ≡ Some receipt → not (is_allowed H row.part receipt.part) ≡ false
    right row receipt there received =
        sym (ap (λ r. option_map_or (λ (x : Receipt). not (is_allowed H row.part x.part)) r false) received)
        ∙ sym (ap (λ r. option_map_or (λ x. is_wrong_for H x reel) r false) there) ∙ tests.right_part

    by : (receipt : Option Receipt) (row : Option SheetRow) → receipt_of H reel ≡ receipt → row_on H machine slot ≡ row → IsVerified H minute machine slot reel
    by None row received there = let known = tests.received in cc
    by (Some receipt) None received there = let known = tests.on_sheet in cc
    by (Some receipt) (Some row) received there = record {
      receipt = receipt;
      received = received;
      row = row;
      on_sheet = there;
      part_allowed = not-false _ (right row receipt there received);
      baked = tests.baked;
      not_expired = tests.not_expired;
    }

verified-same : (H : History) (minute : ℕ) (machine slot reel m s r : Name) → ((same m machine && same s slot) && same r reel) ≡ true → IsVerified H minute m s r
    → IsVerified H minute machine slot reel
verified-same H minute machine slot reel m s r is verified =
    let both = and_parts (same m machine && same s slot) (same r reel) is in
    let there = and_parts (same m machine) (same s slot) both.0 in
    subst (λ x. IsVerified H minute x slot reel) (same-true m machine there.0) (
    subst (λ x. IsVerified H minute m x reel) (same-true s slot there.1) (subst (λ x. IsVerified H minute m s x) (same-true r reel both.1) verified))

verified-by : (H : History) (minute : ℕ) (machine slot reel : Name) (command : Command) → command_refusal Two H minute command ≡ None → mounts machine slot reel command ≡ true
    → IsVerified H minute machine slot reel
unfolding command_refusal
verified-by H minute machine slot reel (MaterialsLoaded m s r) none is =
    verified-same H minute machine slot reel m s r is (verified-mountable H minute m s r _ (mountable H minute m s r _ none))
verified-by H minute machine slot reel (MaterialsSpliced m s r) none is =
    verified-same H minute machine slot reel m s r is (verified-mountable H minute m s r _ (mountable H minute m s r _ none))
verified-by H minute machine slot reel _ none is = cc

pub mount-verified : (H : History) (e : Entry) (machine slot reel : Name) → IsNext Two H e → mounts machine slot reel e.stamped.command ≡ true
    → IsVerified H e.effective machine slot reel
mount-verified H e machine slot reel next is = verified-by H e.effective machine slot reel e.stamped.command (next-accepted H e next) is

pub mounted-not_expired : (G H : History) (e : Entry) (machine slot reel : Name) → IsPrefix (e ∷ G) H → IsJudged Two H → mounts machine slot reel e.stamped.command ≡ true
    → is_expired G reel e.effective ≡ false
mounted-not_expired G H e machine slot reel before judged is =
    (mount-verified G e machine slot reel (judged-prefix (e ∷ G) H before judged).0 is).not_expired

-- Each reel on a tape was verified for the slot when it came there.
pub tape-verified : (H : History) (machine slot reel : Name) → IsJudged Two H → has (tape_of H machine slot) reel ≡ true → WasVerified H machine slot reel
unfolding tape_of
tape-verified [] machine slot reel judged on = cc
tape-verified (e ∷ H) machine slot reel (next, judged) on =
    by (mounts machine slot reel e.stamped.command) refl
    (mounted-step machine slot reel e.stamped.command (tape_of H machine slot) (has (tape_of H machine slot) reel) on (λ is. is))
    (tape-verified H machine slot reel judged)
  where
    by : (here : Bool) → mounts machine slot reel e.stamped.command ≡ here → (here || has (tape_of H machine slot) reel) ≡ true
        → (has (tape_of H machine slot) reel ≡ true → WasVerified H machine slot reel) → WasVerified (e ∷ H) machine slot reel
    by true here either rest = record {
      before = H;
      entry = e;
      later = [];
      order = refl;
      mounted = here;
      last = refl;
      verified = mount-verified H e machine slot reel next here;
    }
    by false here either rest =
        let was = rest either in
        record {
          before = was.before;
          entry = was.entry;
          later = e ∷ was.later;
          order = ap (λ es. e ∷ es) was.order;
          mounted = was.mounted;
          last = ap (λ b. b || list_any (λ (x : Entry). mounts machine slot reel x.stamped.command) was.later) here ∙ was.last;
          verified = was.verified;
        }
