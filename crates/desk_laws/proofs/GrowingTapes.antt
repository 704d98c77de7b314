-- Tapes grow at their ends.
use Rattle.desk_types.proofs.Common.{[], ◌&&◌, ◌++◌, ◌∙◌, ◌∷◌, ◌≡◌, All, All-head, All-tail, ap, append-nil}
use Rattle.desk_types.proofs.Common.{append_assoc, Bool, false, History, if◌then◌else◌, List, Name, refl}
use Rattle.desk_types.proofs.Common.{same, sym, tape_after, tape_of, tape_with, true}
use Rattle.desk_laws.proofs.Common.{Command, Entry, MaterialsLoaded, MaterialsSpliced, MaterialsUnloaded}
use Rattle.desk_laws.specs.TapeOrder.{restarts}

-- The first tape is the second with reels joined to its end.
abbrev GoesOn : List Name → List Name → Type 0
GoesOn after before = (joined : List Name) × (after ≡ before ++ joined)

stays : (reels : List Name) → GoesOn reels reels
stays reels = ([], sym (append-nil reels))

splice-joins : (reels : List Name) (reel : Name) → GoesOn (tape_with reels reel) reels
splice-joins [] reel = ([], refl)
splice-joins (r ∷ rs) reel = (reel ∷ [], refl)

command-joins : (machine slot : Name) (command : Command) (reels : List Name) → restarts machine slot command ≡ false → GoesOn (tape_after machine slot command reels) reels
command-joins machine slot (MaterialsSpliced m s reel) reels other = by (same m machine && same s slot)
  where
    by : (b : Bool) → GoesOn (if b then tape_with reels reel else reels) reels
    by true = splice-joins reels reel
    by false = stays reels
command-joins machine slot (MaterialsLoaded m s reel) reels other = ([], ap (λ b. if b then reel ∷ [] else reels) other ∙ sym (append-nil reels))
command-joins machine slot (MaterialsUnloaded m s) reels other = ([], ap (λ b. if b then [] else reels) other ∙ sym (append-nil reels))
command-joins machine slot _ reels other = stays reels

pub tape-joins : (G : History) (more : List Entry) (machine slot : Name) → All (λ (e : Entry). restarts machine slot e.stamped.command ≡ false) more
    → GoesOn (tape_of (more ++ G) machine slot) (tape_of G machine slot)
unfolding tape_of
tape-joins G [] machine slot others = stays (tape_of G machine slot)
tape-joins G (e ∷ more) machine slot others =
    let before = tape-joins G more machine slot (All-tail (λ (x : Entry). restarts machine slot x.stamped.command ≡ false) e more others) in
    let last = command-joins machine slot e.stamped.command (tape_of (more ++ G) machine slot)
    (All-head (λ (x : Entry). restarts machine slot x.stamped.command ≡ false) e more others) in (
      before.0 ++ last.0,
      last.1 ∙ ap (λ reels. reels ++ last.0) before.1 ∙ append_assoc (tape_of G machine slot) before.0 last.0,
    )
