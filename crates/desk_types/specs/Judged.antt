-- The histories that a desk can reach.
use Rattle.std.specs.Prelude.{◌≡◌, ℕ, ◌+◌, ◌≤◌, ⊤, None, [], ◌∷◌, length, map}
use Rattle.std.specs.List.{IsDistinct}
use Rattle.desk_types.specs.declared.command.Entry.{Entry}
use Rattle.desk_types.specs.declared.rules.Rules.{Rules}
use Rattle.desk_types.specs.Command.{IsEntry}
use Rattle.desk_types.specs.Id.{same}
use Rattle.desk_types.specs.History.{History, effective_minute}
use Rattle.desk_types.specs.Refusals.{refusal_of}

-- The rules accept the entry after H: values in range, next number, effective minute, no refusal.
pub record IsNext (rules : Rules) (H : History) (e : Entry) : Type 0 where
  pub in_range : IsEntry e
  pub number : e.number ≡ length H + 1
  pub effective : e.effective ≡ effective_minute H e.stamped.minute
  pub accepted : refusal_of rules H e.stamped ≡ None

-- The rules accept each entry after those before it.
abbrev pub IsJudged : Rules → History → Type 0
IsJudged rules [] = ⊤
IsJudged rules (e ∷ H) = IsNext rules H e × IsJudged rules H

-- The rules accept the history, no UniqueID repeats, and its length is at most the greatest number.
pub record IsLawful (rules : Rules) (greatest : ℕ) (H : History) : Type 0 where
  pub judged : IsJudged rules H
  pub uids : IsDistinct same (map (λ (e : Entry). e.stamped.uid) H)
  pub numbers : length H ≤ greatest
