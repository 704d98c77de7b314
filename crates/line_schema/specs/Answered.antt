-- What a command leaves of the history of a store.
use Rattle.std.specs.Prelude.{◌≡◌, IfOk, IsTrue, None, OnErr, OnOk, Result}
use Rattle.sqlite_trees.specs.declared.store.Store.{Ghosts}
use Rattle.sqlite_trees.specs.Tree.{Trees}
use Rattle.sqlite.specs.State.{HasCleanDisk, Survives}
use Rattle.desk_types.specs.declared.command.Stamped.{Stamped}
use Rattle.desk_types.specs.History.{History, Basis, accept}
use Rattle.desk_answers.specs.declared.answer.Answer.{Answer}
use Rattle.desk_answers.specs.Commands.{earlier_answer}
use Rattle.desk_answers.specs.Ledger.{IsAnswer}
use Rattle.state_rows.specs.Kept.{KeptRows}
use Rattle.line_tables.specs.Rows.{HoldsAt}
use Rattle.line_replay.specs.Rows.{ledger_tables}
use Rattle.line_schema.specs.declared.store.LineStore.{LineStore}
use Rattle.line_schema.specs.declared.unavailable.Unavailable.{Unavailable}
use Rattle.line_schema.specs.Stands.{HasRows, Kept, Leaves, ShowsTables, Stands, kept_after, ledger, state_of, with_command}

module _ {S D : Type 0} (g : Ghosts S) (StandsFor : D → Basis → Type 0)
    (kept_rows : D → KeptRows) (old new : LineStore S D) (L : Kept) where
  -- The answer is the history's, or Unavailable. The store represents the history afterwards. The
  -- tables are those of that history unless the connection is shut, and so are the rows of a
  -- loaded desk.
  -- A crash leaves the command whole or not at all, and an accepted command always.
  pub record Answers (s : Stamped) (answer : Answer) : Type 0 where
    pub is : IsAnswer (ledger L) s answer
    pub stands : Stands g StandsFor new (kept_after L s answer)
    pub tables : ShowsTables g new (kept_after L s answer)
    pub rows : HasRows kept_rows old L.history
        → HasRows kept_rows new (kept_after L s answer).history
    pub crash : (trees : Trees) → (state_of g new).may_leave trees
        → Leaves L s answer ((state_of g old).may_leave trees) trees

  -- The call gave this answer, and the rows of a loaded desk are those of this history. Or it
  -- failed, and the history is unchanged.
  pub record AnswersOrFails (result : Result Answer Unavailable) (told : Answer)
      (next : History) : Type 0 where
    pub answer : IfOk result (λ answer. answer ≡ told)
    pub err : OnErr result (Stands g StandsFor new L)
    pub rows : HasRows kept_rows old L.history → OnOk result (HasRows kept_rows new next)
    pub rows_stay : HasRows kept_rows old L.history
        → OnErr result (HasRows kept_rows new L.history)

-- The command is new to the history, if the disk is honest and the tables are the store's own.
abbrev pub IsFirst : {S D : Type 0} → Ghosts S → LineStore S D → Kept → Stamped → Type 0
IsFirst g store L s =
    HasCleanDisk (state_of g store) → IsTrue L.own → earlier_answer L.history s ≡ None

-- A new command was accepted and its tables committed, or the call failed. A crash leaves the
-- tables of before or these; if it was accepted, only these.
pub record Commits {S D : Type 0} (g : Ghosts S) (StandsFor : D → Basis → Type 0)
    (old new : LineStore S D) (L : Kept) (result : Result Answer Unavailable)
    (s : Stamped) : Type 0 where
  pub ok : IsFirst g new L s → OnOk result (Stands g StandsFor new (with_command L s))
  pub survives : IsTrue L.own → Survives (state_of g old) (state_of g new)
      (HoldsAt (ledger_tables L.greatest (accept L.history s)))
  pub alone : HasCleanDisk (state_of g new) → IsTrue L.own
      → OnOk result ((trees : Trees) → (state_of g new).may_leave trees
      → HoldsAt (ledger_tables L.greatest (accept L.history s)) trees)
