-- The line of a book and a desk.
use Rattle.desk_types.proofs.Common.{◌≡◌, arith, Basis, Bool, Err, IfErr, IfOk, IsTrue, length, None, Ok, Option, refl, Result, Some, subst, sym, ℕ}
use Rattle.desk_types.specs.declared.rules.Rules.TheVariants.{Two}
use Rattle.desk_types.specs.Desk.{HasRoom}
use Rattle.desk_types.specs.History.{basis}
use Rattle.line_tables.proofs.Common.{Database, Ghosts, HasCleanDisk, is_ours, KeepsCommit, State}
use Rattle.line_book_store.specs.declared.fault.BookFault.{BookFault}
use Rattle.line_schema.specs.declared.store.LineStore.{LineStore}
use Rattle.line_schema.specs.Stands.{Kept, Stands, WorksFor}
use Rattle.line_schema.specs.Traces.{working_of}
use Rattle.line_traces.specs.declared.working.Working.{Working}
use Rattle.line_file.specs.declared.fault.ListFault.{ListFault}
use Rattle.line_file.specs.declared.fault.ListFault.TheVariants.{History as AtHistory, Book as AtBook}
use Rattle.line_file.specs.declared.lists.Found.{Found}
use Rattle.line_file.specs.declared.store.Line.{Line}
use Rattle.book_store.specs.Opened.{HasPlace}
use Rattle.line_file.specs.Lines.{IsLineOf, IsListFault, line_of, ReadsFault}
use Rattle.line_file.specs.Lists.{AreTold, ReadsLists, HoldsRows, IsBookFault, IsNamed, IsSound}
use Rattle.line_file.proofs.Results.{fault-before}
use Rattle.line_tables.specs.Calls.{Reads}
use Rattle.line_tables.specs.Rows.{Holds}
use Rattle.line_replay.specs.Rows.{ledger_tables}

pub line-is : {D : Type 0} (StandsFor : D → Basis → Type 0) (L : Kept) (commands : ℕ) (with_rows : Bool)
    (Sound : Type 0) (old : State) (lists : Result Found BookFault) (working : Option (Working D))
    → IfOk lists (ReadsLists L with_rows Sound old)
    → WorksFor StandsFor working L.history → commands ≡ length L.history
    → IfOk (line_of commands lists working) (IsLineOf StandsFor L with_rows Sound old)
line-is StandsFor L commands with_rows Sound old (Err f) working is works counted = tt
line-is StandsFor L commands with_rows Sound old (Ok lists) None is works counted = tt
line-is StandsFor L commands with_rows Sound old (Ok lists) (Some w) is works counted =
    record { desk = works.stands; count = counted; lists = is }

pub fault-is : {D : Type 0} (L : Kept) (commands : ℕ) (old : State)
    (lists : Result Found BookFault) (working : Option (Working D))
    → IfErr lists (IsBookFault (length L.history) old)
    → IfErr (line_of commands lists working) (IsListFault L old)
fault-is L commands old (Err f) working is = is
fault-is L commands old (Ok lists) None is = refl
fault-is L commands old (Ok lists) (Some w) is = tt

pub has-room : {S D : Type 0} (g : Ghosts S) (StandsFor : D → Basis → Type 0) (store : LineStore S D) (L : Kept)
    (commands : ℕ) (lists : Result Found BookFault) (working : Option (Working D))
    → Stands g StandsFor store L → working ≡ working_of store
    → IfOk (line_of commands lists working) (λ line. HasRoom StandsFor line.desk 0)
has-room g StandsFor store L commands (Err f) working stands same = tt
has-room g StandsFor store L commands (Ok lists) None stands same = tt
has-room g StandsFor store L commands (Ok lists) (Some w) stands same =
    let works = subst (λ k. WorksFor StandsFor k L.history) (sym same) stands.working in
    (basis Two L.history, works.stands, omega (arith, stands.within, stands.bound))

-- ---- by a connection that was opened before

pub line-before : {D : Type 0} (StandsFor : D → Basis → Type 0) (L : Kept) (with_rows : Bool) (old mid new : State)
    → (HasCleanDisk new → KeepsCommit old mid) → (HasCleanDisk new → IsTrue new.is_open → IsTrue mid.is_open)
    → (line : Line D) → IsLineOf StandsFor L with_rows (IsSound new) mid line
    → IsLineOf StandsFor L with_rows (IsSound new) old line
line-before StandsFor L with_rows old mid new kept opens line is = record {
  desk = is.desk;
  count = is.count;
  lists = record {
    rows = is.lists.rows;
    notes = is.lists.notes;
    read = is.lists.read;
    named = λ sound. subst IsNamed ((kept sound.0).committed (opens sound.0 sound.1)) (is.lists.named sound);
    book = λ sound. subst (λ (db : Database). HasPlace db → HoldsRows db is.lists.rows)
        ((kept sound.0).committed (opens sound.0 sound.1)) (is.lists.book sound);
    guard = is.lists.guard;
    told = λ sound own. subst (λ (db : Database). HasPlace db → AreTold with_rows is.lists.rows line.rows.items)
        ((kept sound.0).committed (opens sound.0 sound.1)) (is.lists.told sound own);
  };
}

pub fault-first : (L : Kept) (old mid : State) (fault : ListFault) → KeepsCommit old mid → IsTrue mid.is_open
    → Reads old (λ db. Holds db (ledger_tables L.greatest L.history))
    → IsListFault L mid fault → ReadsFault old fault
fault-first L old mid (AtHistory fault) kept is_open reads is =
    subst (λ f. ReadsFault old (AtHistory f)) (sym is) (tt, tt)
fault-first L old mid (AtBook fault) kept is_open reads is =
    (L, reads, fault-before (length L.history) old mid fault kept is_open is)
