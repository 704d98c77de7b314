-- A message that is sent for the first time.
use Rattle.desk_types.proofs.Common.{[], ◌∙◌, ◌∷◌, ◌≡◌, AllByRecursion, Bool, cond, false, History, List, map}
use Rattle.desk_types.proofs.Common.{Name, None, Option, refl, same, same-sym, Some, true}
use Rattle.desk_answers.specs.Commands.{answer_under, earlier_answer}
use Rattle.desk_types.specs.{declared.command.Entry.Entry, declared.command.Stamped.Stamped}

pub first-uid : (H : History) (s : Stamped) → earlier_answer H s ≡ None → AllByRecursion (λ uid. same s.uid uid ≡ false) (map (λ (e : Entry). e.stamped.uid) H)
first-uid [] s none = tt
first-uid (e ∷ H) s none = by (same e.stamped.uid s.uid) refl none (first-uid H s)
  where
    others : List Name
    others = map (λ (x : Entry). x.stamped.uid) H

    by : (b : Bool) → same e.stamped.uid s.uid ≡ b → cond b (Some (answer_under H e s)) (earlier_answer H s) ≡ None
        → (earlier_answer H s ≡ None → AllByRecursion (λ uid. same s.uid uid ≡ false) others) → AllByRecursion (λ uid. same s.uid uid ≡ false) (e.stamped.uid ∷ others)
    by true is none rest = absurd (cc)
    by false is none rest = (same-sym s.uid e.stamped.uid ∙ is, rest none)
