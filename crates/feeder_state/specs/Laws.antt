-- Why the laws of the facts hold for a state.
use Rattle.std.proofs.Common.{◌≡◌, ◌∙◌, ◌∷◌, ◌||◌, [], ap, Bool, false, List, nat_lt, refl, subst, true}
use Rattle.std.specs.List.{filter, list_any}
use Rattle.desk_types.proofs.Common.{cond, same, same-refl}
use Rattle.desk_types.specs.Id.{Name}
use Rattle.desk_types.specs.History.{Basis, History}
use Rattle.desk_types.specs.Judged.{IsJudged}
use Rattle.desk_types.specs.Pieces.{left_of, live_on}
use Rattle.desk_types.specs.declared.rules.Rules.TheVariants.{Two}
use Rattle.desk_laws.proofs.Common.{judged-by-two}
use Rattle.desk_laws.proofs.{Mounts.has, PicksOfOneSlot.live-pieces}
use Rattle.feeder_state.specs.State.{IsState, Represents}
use Rattle.feeder_state.specs.Tape.{tape_at}
use Rattle.feeder_state.specs.declared.desk.StateDesk.{StateDesk}

all_kept : (p : Name → Bool) (reels : List Name) → ((r : Name) → has reels r ≡ true → p r ≡ true)
    → filter p reels ≡ reels
all_kept p [] passes = refl
all_kept p (x ∷ xs) passes =
    ap (λ b. cond b (x ∷ filter p xs) (filter p xs))
    (passes x (ap (λ b. b || has xs x) (same-refl x)))
    ∙ ap (λ l. x ∷ l) (all_kept p xs (λ r there. passes r (later (same r x) (has xs r) there)))
  where
    later : (a b : Bool) → b ≡ true → (a || b) ≡ true
    later true b is = refl
    later false b is = is

pub state_judged : (desk : StateDesk) (H : History) → IsState H desk → IsJudged Two H
state_judged desk H state = judged-by-two desk.rules H state.judged

pub state_tells_live : (desk : StateDesk) (H : History) (machine slot : Name) → IsState H desk
    → filter (λ reel. nat_lt 0 (left_of H reel)) (tape_at desk.floor.tapes machine slot)
    ≡ live_on H machine slot
state_tells_live desk H machine slot state =
    ap (filter (λ reel. nat_lt 0 (left_of H reel))) (state.floor.tapes machine slot)
    ∙ all_kept (λ reel. nat_lt 0 (left_of H reel)) (live_on H machine slot)
    (live-pieces H machine slot)

pub represented_judged : (desk : StateDesk) (B : Basis) → Represents desk B
    → IsJudged B.rules B.history
represented_judged desk B is = subst (λ rules. IsJudged rules B.history) is.rules is.state.judged
