-- The history that a store represents, its answer to a command, and the tables that a crash may
-- leave.
use Rattle.std.specs.Prelude.{◌≡◌, ◌⊎◌, ◌≤◌, ◌<◌, ℕ, Bool, false, None, is_some, Option, IfSome, IsTrue, MatchBool, length, Result, Ok, Err}
use Rattle.sqlite_trees.specs.declared.store.Store.{Ghosts}
use Rattle.sqlite_trees.specs.Tree.{Trees}
use Rattle.sqlite.specs.State.{State, HasCleanDisk}
use Rattle.sqlite.specs.Held.{Held, state}
use Rattle.desk_types.specs.declared.command.Stamped.{Stamped}
use Rattle.desk_types.specs.declared.limits.TheConstants.{MOST_ENTRIES}
use Rattle.desk_types.specs.declared.rules.Rules.TheVariants.{Two}
use Rattle.desk_types.specs.History.{History, Basis, basis, accept}
use Rattle.desk_types.specs.Judged.{IsJudged, IsLawful}
use Rattle.desk_types.specs.Refusals.{refusal_of}
use Rattle.desk_laws.specs.Consistent.{IsConsistent}
use Rattle.desk_answers.specs.declared.answer.Answer.{Answer}
use Rattle.desk_answers.specs.declared.answer.Answer.TheVariants.{Accepted, Unavailable}
use Rattle.desk_answers.specs.Commands.{earlier_answer}
use Rattle.desk_answers.specs.Ledger.{Ledger, ledger_after}
use Rattle.state_rows.specs.Kept.{KeptRows}
use Rattle.line_tables.specs.Rows.{Holds, HoldsAt}
use Rattle.line_replay.specs.Rows.{ledger_tables}
use Rattle.line_replay.specs.Expected.{AreKept}
use Rattle.line_schema.specs.declared.store.LineStore.{LineStore}
use Rattle.line_schema.specs.declared.unavailable.Unavailable.{Unavailable as Fault}
use Rattle.line_traces.specs.declared.working.Working.{Working}
use Rattle.line_traces.specs.Working.{IsWorking}

-- A store as contracts see it: the greatest number, the accepted entries, and whether the tables
-- are its own, first in the file.
pub record Kept : Type 0 where
  pub greatest : ℕ
  pub history : History
  pub own : Bool

-- The disk has failed or refused since its files were opened.
abbrev pub HasFailed : State → Type 0
HasFailed s = 0 < s.faults

-- On an honest disk the connection is open, or the disk has failed or refused.
abbrev pub StaysOpen : State → Type 0
StaysOpen s = HasCleanDisk s → IsTrue s.is_open ⊎ HasFailed s

-- The working state is one of the history by rules Two, if it is loaded.
abbrev pub WorksFor : {D : Type 0} → (D → Basis → Type 0) → Option (Working D)
    → History → Type 0
WorksFor StandsFor working H = IfSome working (λ w. IsWorking StandsFor w (basis Two H))

-- The store represents the history by rules Two, which is judged and consistent. So does its
-- working state, if it is loaded. Its connection is open, or the disk has failed. If the tables are
-- its own and the disk is honest, the history is lawful and the committed tables are its tables.
pub record Stands {S D : Type 0} (g : Ghosts S) (StandsFor : D → Basis → Type 0)
    (store : LineStore S D) (L : Kept) : Type 0 where
  pub greatest : store.greatest ≡ L.greatest
  pub bound : L.greatest ≤ MOST_ENTRIES
  pub count : store.count ≡ length L.history
  pub within : length L.history ≤ L.greatest
  pub judged : IsJudged Two L.history
  pub consistent : IsConsistent L.history
  pub working : WorksFor StandsFor store.working L.history
  pub mode : store.conn.in_transaction ≡ false
  pub stays_open : StaysOpen (state g store.conn)
  pub lawful : HasCleanDisk (state g store.conn) → IsTrue L.own → IsLawful Two L.greatest L.history
  pub tables : HasCleanDisk (state g store.conn) → IsTrue L.own
      → IsTrue (state g store.conn).is_open
      → Holds (state g store.conn).committed (ledger_tables L.greatest L.history)

-- The disk has failed or refused, and the connection is shut.
abbrev pub IsShut : State → Type 0
IsShut s = HasFailed s × (s.is_open ≡ false)

-- If the disk is honest and the tables are the store's own, every table is that of the history,
-- unless the connection is shut. A fault after which it is open excuses no table.
abbrev pub ShowsTables : {S D : Type 0} → Ghosts S → LineStore S D → Kept → Type 0
ShowsTables g store L = HasCleanDisk (state g store.conn) → IsTrue L.own
    → Holds (state g store.conn).committed (ledger_tables L.greatest L.history)
    ⊎ IsShut (state g store.conn)

-- The store's connection, and its contents.
abbrev pub conn_of : {S D : Type 0} → LineStore S D → Held S
conn_of store = store.conn

abbrev pub state_of : {S D : Type 0} → Ghosts S → LineStore S D → State
state_of g store = state g store.conn

-- A fact about each history that a store represented, if its disk is still honest and its tables
-- are its own.
abbrev pub ForKept : {S D : Type 0} → Ghosts S → (D → Basis → Type 0)
    → LineStore S D → LineStore S D → (Kept → Type 0) → Type 0
ForKept g StandsFor old new Fact = (L : Kept) → Stands g StandsFor old L
    → HasCleanDisk (state_of g new) → IsTrue L.own → Fact L

-- Whether the working state is loaded, or the store must rebuild it from its tables.
abbrev pub has_desk : {S D : Type 0} → LineStore S D → Bool
has_desk store = is_some store.working

-- The rows of a loaded desk are those of the history's state tables, with the numbers of its
-- commands. So they are the rows of a file that holds the history, apart from placements.
abbrev pub HasRows : {S D : Type 0} → (D → KeptRows) → LineStore S D → History → Type 0
HasRows kept_rows store H = IfSome store.working (λ w. AreKept (kept_rows w.desk) H)

-- The history with the command accepted.
abbrev pub with_command : Kept → Stamped → Kept
with_command L s = record L { history = accept L.history s }

-- The store as an owner of a history, by rules Two.
abbrev pub ledger : Kept → Ledger
ledger L = record { rules = Two; greatest = L.greatest; history = L.history }

-- The history after this answer to the command.
abbrev pub kept_after : Kept → Stamped → Answer → Kept
kept_after L s answer = record L { history = (ledger_after (ledger L) s answer).history }

-- Out of memory and a fault of the database are answered Unavailable.
abbrev pub answer_in : Result Answer Fault → Answer
answer_in (Ok answer) = answer
answer_in (Err fault) = Unavailable

-- The command is not refused, and there is room for it.
pub record IsAcceptable (L : Kept) (s : Stamped) : Type 0 where
  pub accepted : refusal_of Two L.history s ≡ None
  pub room : length L.history < L.greatest

-- The tables that a crash may leave after a new command. If it was accepted: only the tables with
-- it. If it was not answered: the earlier ones or, if the command is acceptable, those. Otherwise:
-- the earlier ones.
abbrev pub NewlyLeaves : Kept → Stamped → Answer → Type 0 → Trees → Type 0
NewlyLeaves L s (Accepted n text) before trees =
    HoldsAt (ledger_tables L.greatest (accept L.history s)) trees
NewlyLeaves L s Unavailable before trees =
    before ⊎ (IsAcceptable L s × HoldsAt (ledger_tables L.greatest (accept L.history s)) trees)
NewlyLeaves L s _ before trees = before

-- A repeated command does not change which tables a crash may leave.
abbrev pub Leaves : Kept → Stamped → Answer → Type 0 → Trees → Type 0
Leaves L s answer before trees =
    MatchBool (is_some (earlier_answer L.history s)) before (NewlyLeaves L s answer before trees)
