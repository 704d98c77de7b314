-- The contents of an owner of a history, and its handling of a command.
use Rattle.std.specs.Prelude.{◌≡◌, ⊤, ℕ}
use Rattle.desk_types.specs.declared.command.Stamped.{Stamped}
use Rattle.desk_types.specs.declared.rules.Rules.{Rules}
use Rattle.desk_types.specs.History.{History}
use Rattle.desk_answers.specs.declared.answer.Answer.{Answer}
use Rattle.desk_answers.specs.declared.answer.Answer.TheVariants.{Unavailable}
use Rattle.desk_answers.specs.Commands.{command_answer, command_after}

-- The rules, the greatest number of an entry, and the accepted entries.
pub record Ledger : Type 0 where
  pub rules : Rules
  pub greatest : ℕ
  pub history : History

-- The answer is the definition's or Unavailable.
abbrev pub IsAnswer : Ledger → Stamped → Answer → Type 0
IsAnswer L s Unavailable = ⊤
IsAnswer L s answer = answer ≡ command_answer L.rules L.greatest L.history s

-- The ledger after an answered command, unchanged after Unavailable.
abbrev pub ledger_after : Ledger → Stamped → Answer → Ledger
ledger_after L s Unavailable = L
ledger_after L s answer = record L { history = command_after L.rules L.greatest L.history s }

-- If the owner's storage has not lied, then for each ledger represented before, it now represents
-- one that differs only in its history, which satisfies `Fact`.
abbrev pub ForLists : {S : Type 0} → (S → Ledger → Type 0) → (S → Type 0) → S → S
    → (Ledger → History → Type 0) → Type 0
ForLists Stands Trusts old new Fact = (G : Ledger) → Stands old G → Trusts new
    → (H : History) × Stands new (record G { history = H }) × Fact G H
