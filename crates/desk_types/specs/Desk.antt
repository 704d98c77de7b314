-- The result of judging a command.
use Rattle.std.specs.Prelude.{◌≡◌, ℕ, ◌+◌, ◌≤◌, ⊤, Some, None, Result, Ok, Err, length}
use Rattle.desk_types.specs.declared.change.Change.{Change}
use Rattle.desk_types.specs.declared.command.Stamped.{Stamped}
use Rattle.desk_types.specs.declared.desk.JudgeFault.{JudgeFault}
use Rattle.desk_types.specs.declared.desk.JudgeFault.TheVariants.{Refused, NoMemory}
use Rattle.desk_types.specs.declared.limits.TheConstants.{MOST_ENTRIES}
use Rattle.desk_types.specs.declared.rules.Rules.{Rules}
use Rattle.desk_types.specs.History.{History, Basis}
use Rattle.desk_types.specs.Refusals.{refusal_of}
use Rattle.desk_types.specs.Outcome.{change_of}

-- The rules accept the command after H, and this is the change it makes.
pub record IsChange (rules : Rules) (H : History) (s : Stamped) (change : Change) : Type 0 where
  pub accepted : refusal_of rules H s ≡ None
  pub value : change ≡ change_of H s

-- The result of judging a command: its change, its refusal, or out of memory.
abbrev pub IsJudgement : Rules → History → Stamped → Result Change JudgeFault → Type 0
IsJudgement rules H s (Ok change) = IsChange rules H s change
IsJudgement rules H s (Err (Refused refusal)) = refusal_of rules H s ≡ Some refusal
IsJudgement rules H s (Err NoMemory) = ⊤

-- The desk represents some history with room for n more entries.
abbrev pub HasRoom : {D : Type 0} → (D → Basis → Type 0) → D → ℕ → Type 0
HasRoom Stands desk n = (B : Basis) × Stands desk B × (length B.history + n ≤ MOST_ENTRIES)
