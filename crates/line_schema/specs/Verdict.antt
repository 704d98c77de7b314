-- A command that is judged first and committed later, with entries about it.
use Rattle.std.specs.Prelude.{◌≡◌, ◌++◌, ◌<◌, ⊤, IsSomeAnd, IsTrue, List, length, None, OnErr, OnOk, Result}
use Rattle.sqlite_trees.specs.declared.store.Store.{Ghosts}
use Rattle.sqlite_trees.specs.Tree.{Trees}
use Rattle.sqlite.specs.State.{HasCleanDisk, Survives}
use Rattle.desk_types.specs.declared.change.Change.{Change}
use Rattle.desk_types.specs.declared.command.Stamped.{Stamped}
use Rattle.desk_types.specs.declared.rules.Rules.TheVariants.{Two}
use Rattle.desk_types.specs.Desk.{IsChange}
use Rattle.desk_types.specs.History.{Basis}
use Rattle.desk_types.specs.Outcome.{after_command, reply_to}
use Rattle.desk_answers.specs.declared.answer.Answer.{Answer}
use Rattle.desk_answers.specs.Commands.{command_after, command_answer, earlier_answer, judged_answer}
use Rattle.line_book.specs.declared.row.BookRow.{BookRow}
use Rattle.line_schema.specs.declared.store.LineStore.{LineStore}
use Rattle.line_schema.specs.declared.store.verdict.Verdict.{Verdict}
use Rattle.line_schema.specs.declared.store.verdict.Verdict.TheVariants.{Accepts, Answered}
use Rattle.line_schema.specs.declared.unavailable.Unavailable.{Unavailable}
use Rattle.line_schema.specs.Answered.{IsFirst}
use Rattle.line_schema.specs.Book.{LeavesBook, StandsWith}
use Rattle.line_schema.specs.Frames.{LetsOthersBe}
use Rattle.line_schema.specs.Stands.{Kept, Stands, state_of, with_command}

-- The rules accept the command, which is new to the history and has room, and this is its change.
pub record IsAccepted (L : Kept) (s : Stamped) (change : Change) : Type 0 where
  pub first : earlier_answer L.history s ≡ None
  pub room : length L.history < L.greatest
  pub is : IsChange Two L.history s change

-- Either the answer is final and the history stays, or the command would be accepted.
abbrev pub IsVerdict : Kept → Stamped → Verdict → Type 0
IsVerdict L s (Answered answer) = (answer ≡ command_answer Two L.greatest L.history s)
    × (command_after Two L.greatest L.history s ≡ L.history)
IsVerdict L s (Accepts change) = IsAccepted L s change

-- The same of a command that is new and has room, by the desk alone.
abbrev pub IsVerdictAtHand : Kept → Stamped → Verdict → Type 0
IsVerdictAtHand L s (Answered answer) =
    (answer ≡ judged_answer L.history s (reply_to Two L.history s))
    × (after_command Two L.history s ≡ L.history)
IsVerdictAtHand L s (Accepts change) =
    (length L.history < L.greatest) × IsChange Two L.history s change

-- There is room, and the loaded desk judged the change.
pub record CanCommit {S D : Type 0} (StandsFor : D → Basis → Type 0) (store : LineStore S D)
    (change : Change) : Type 0 where
  pub room : store.count < store.greatest
  pub judged : IsSomeAnd store.working (λ w. (B : Basis) → StandsFor w.desk B
      → IsChange B.rules B.history change.stamped change)

abbrev pub IsReady : {S D : Type 0} → (D → Basis → Type 0) → LineStore S D → Verdict → Type 0
IsReady StandsFor store (Answered answer) = ⊤
IsReady StandsFor store (Accepts change) = CanCommit StandsFor store change

-- A call that may load the desk. The store represents a history: the same one, with the same
-- entries, if the disk is honest and the tables are the store's own. A crash leaves nothing new.
pub record KeepsBoth {S D : Type 0} (g : Ghosts S) (StandsFor : D → Basis → Type 0)
    (old new : LineStore S D) : Type 0 where
  pub kept : (L : Kept) × Stands g StandsFor new L
  pub stands : (L : Kept) (entries : List BookRow) → StandsWith g StandsFor old L entries
      → HasCleanDisk (state_of g new) → IsTrue L.own → StandsWith g StandsFor new L entries
  pub survives : Survives (state_of g old) (state_of g new) (λ _. ⊥)
  pub others : LetsOthersBe (state_of g old) (state_of g new)

-- The command was accepted and committed together with the entries, or the call failed and neither
-- is committed. A crash leaves both in one file, or the same as before; if the command was accepted,
-- only both.
pub record CommitsBoth {S D : Type 0} (g : Ghosts S) (StandsFor : D → Basis → Type 0)
    (old new : LineStore S D) (L : Kept) (result : Result Answer Unavailable) (s : Stamped)
    (news entries : List BookRow) : Type 0 where
  pub ok : IsFirst g new L s
      → OnOk result (StandsWith g StandsFor new (with_command L s) (entries ++ news))
  pub err : OnErr result (StandsWith g StandsFor new L entries)
  pub survives : IsTrue L.own → Survives (state_of g old) (state_of g new)
      (LeavesBook (with_command L s) (entries ++ news))
  pub alone : HasCleanDisk (state_of g new) → IsTrue L.own
      → OnOk result ((trees : Trees) → (state_of g new).may_leave trees
      → LeavesBook (with_command L s) (entries ++ news) trees)
