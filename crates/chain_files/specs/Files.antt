-- The files of a recall: their contents, and why there is no answer.
use Rattle.std.specs.Prelude.{◌≡◌, ◌<◌, ◌⊎◌, ◌↔◌, ⊤, ℕ, Bool, true, false, Option, Some, None, List, [], ◌∷◌, ◌++◌, get_or, length, map, string_bytes, All, Vec}
use Rattle.sqlite_disk.specs.declared.Disk as disk
use Rattle.sqlite_disk.specs.declared.Files.{Files}
use Rattle.sqlite_disk.specs.declared.start.Start as start
use Rattle.sqlite_wal.specs.Files.{outcomes}
use Rattle.sqlite_wal.specs.Reads.{AreClean}
use Rattle.sqlite_wal.specs.Recovery.{Image}
use Rattle.sqlite.specs.Files.{image_of}
use Rattle.std.specs.Global.{Global}
use Rattle.std.specs.Option.{option_to_list}
use Rattle.csv.specs.declared.writer.Writer.{Writer}
use Rattle.desk_types.specs.declared.rules.Rules.TheVariants.{Two}
use Rattle.desk_types.specs.History.{History, IsPrefix}
use Rattle.desk_types.specs.Judged.{IsLawful}
use Rattle.desk_laws.specs.Consistent.{IsConsistent}
use Rattle.feeder_state.specs.declared.desk.StateDesk.{StateDesk}
use Rattle.feeder_state.specs.contracts.desk.StateDeskDesk.TheImpl.{ghosts as state}
use Rattle.line_tables.specs.Rows.{Tables}
use Rattle.line_replay.specs.Rows.{ledger_tables}
use Rattle.line_schema.specs.declared.fault.OpenFault.{OpenFault}
use Rattle.line_schema.specs.declared.fault.OpenFault.TheVariants as open_fault
use Rattle.chain_stores.specs.declared.looking.Looked.{Looked}
use Rattle.chain_files.specs.declared.chain.Older.{Older}
use Rattle.chain_files.specs.declared.chain.Taken.{Taken}
use Rattle.chain_files.specs.declared.marks.Links.{Links}
use Rattle.chain_files.specs.declared.marks.Wanted.{Wanted}
use Rattle.chain_stores.specs.Begin.{IsBegunWith, IsMarkOf}
use Rattle.chain_files.specs.Marks.{AreLinked, IsLinked, IsWanted, WantsNext}
use Rattle.chain_stores.specs.Look.{Says}
use Rattle.desk_file.specs.Files.{HasOursFirst, HasTables, IsWhole}
use Rattle.desk_file.specs.Refused.{IsFaultFor}
use Rattle.desk_commands.specs.Closed.{Close, whole, failed, RefusesTo}
use Rattle.trace_reports.specs.Csv.{HasWritten}
use Rattle.desk_laws.specs.Chain.{DeskFile, IsChain}
use Rattle.chain_check.specs.declared.chain.Chain.{Chain}
use Rattle.chain_check.specs.declared.question.Question.{Question}
use Rattle.chain_check.specs.Chained.{IsReason, IsSoFar}
use Rattle.chain_check.specs.Rows.{answer_over, asked_of, facts_of, rows_in, rows_text}
use Rattle.chain_files.specs.declared.chain.Fault.{Fault}
use Rattle.chain_files.specs.declared.chain.Fault.TheVariants.{Refused, BegunFrom, NotBegun, Differs}
use Rattle.chain_files.specs.declared.chain.Stopped.{Stopped}
use Rattle.chain_files.specs.declared.closed.ClosedChain.{ClosedChain}

-- ---- the closed files

-- What each file with one of these paths held when it was opened.
abbrev pub placed : (List ℕ → ℕ → Image) → List (List ℕ) → ℕ → Image
placed image paths place = image (get_or paths place []) place

-- The first to be closed comes first.
abbrev pub files_in : {D : Type 0} → ClosedChain D → List (Files D)
files_in closed = map (λ (f, _). f) closed.files.items

-- No disk lied until its file was closed, and each file held only a desk's tables, or those first.
pub record AreHonest {D : Type 0} (g : disk.Ghosts D) (image : ℕ → Image)
    (closed : List (Files D)) : Type 0 where
  pub clean : All (λ (f : Files D). AreClean g f.log f.db) closed
  pub ours : (place : ℕ) → place < length closed → HasOursFirst (image place)

abbrev pub close_of : Bool → Close
close_of true = whole
close_of false = failed

-- The files hold these tables without a log, now and after any crash.
abbrev pub StillHold : {D : Type 0} → disk.Ghosts D → Files D → Tables → Type 0
StillHold g f tables = (image : Image)
    → (image ≡ image_of g f) ⊎ outcomes g f.log f.db image → IsWhole tables image

-- The files held the tables of this lawful history when they were opened, and still do.
abbrev pub HoldHistory : {D : Type 0} → disk.Ghosts D → Image → Files D → History → Type 0
HoldHistory g image f H = (greatest : ℕ) × HasTables image (ledger_tables greatest H)
    × StillHold g f (ledger_tables greatest H) × IsLawful Two greatest H × IsConsistent H

-- Each of these files holds its history. The newest comes first.
abbrev pub HoldEach : {D : Type 0} → disk.Ghosts D → (ℕ → Image) → List (Files D) → List DeskFile
    → Type 0
HoldEach g image [] [] = ⊤
HoldEach g image (f ∷ closed) (file ∷ older) =
    HoldHistory g (image (length older)) f file.whole × HoldEach g image closed older
HoldEach g image _ _ = ⊥

-- The oldest first.
abbrev pub oldest_first : {X : Type 0} → List X → List X
oldest_first [] = []
oldest_first (x ∷ older) = oldest_first older ++ x ∷ []

-- ---- one file

-- The files held a history, and this was seen in it.
abbrev pub HoldsSaid : {D : Type 0} → disk.Ghosts D → Image → Question → Files D
    → Looked StateDesk → Type 0
HoldsSaid g image question f looked = (H : History) × HoldHistory g image f H
    × Says state.Stands H question looked

-- One more file was closed. If its disk never lied, this was seen in the history that it held, and this is wanted of the
-- next file.
abbrev pub Takes : {D : Type 0} → disk.Ghosts D → Image → Question → Bool → List (Files D)
    → List (Files D) → Taken → Type 0
Takes {D} g image question without_marks closed closed' taken =
    (f : Files D) × (closed' ≡ closed ++ f ∷ [])
    × (AreClean g f.log f.db → HasOursFirst image → HoldsSaid g image question f taken.looked)
    × (AreClean g f.log f.db → WantsNext without_marks g f taken.wanted)

-- The start of files with these contents.
abbrev pub start_of : Image → start.Ghosts ⊤
start_of image = record { log = image.log; db = image.db; is_mixing = false }

-- A file was refused for this fault, and closed if it was opened. Either the fault is in its contents, which are unchanged
-- if its disk never lied. Or the file could not be read or closed, or memory was refused.
abbrev pub IsRefused : {D : Type 0} → disk.Ghosts D → Image → List (Files D) → List (Files D)
    → OpenFault → Type 0
IsRefused {D = D} g image closed closed' fault = (files : Option (Files D))
    × (closed' ≡ closed ++ option_to_list files)
    × ((fault ≡ open_fault.Unavailable)
    ⊎ ((how : Close) × RefusesTo how (start_of image) g files None fault))

-- The fault is in the file, unless it is missing, empty or could not be read.
abbrev pub IsFaultOf : Image → OpenFault → Type 0
IsFaultOf image fault = (fault ≡ open_fault.Unavailable)
    ⊎ (fault ≡ open_fault.NotADesk) ⊎ IsFaultFor image None fault

-- ---- the chain

-- The writer of the answer.
abbrev pub Answer : Type 0
Answer = Writer (Vec ℕ Global)

-- The chain so far is of these files.
abbrev pub Continues : Option Chain → List DeskFile → Type 0
Continues None files = files ≡ []
Continues (Some chain) files = IsSoFar chain files

-- The first UniqueID of this history names what is wanted.
abbrev pub HasWanted : Wanted → History → Type 0
HasWanted wanted H = (mark : Option (List ℕ)) × IsMarkOf H mark × IsWanted wanted mark

-- The file after these was begun with these commands of its history. Its UniqueIDs say so.
abbrev pub IsBegunBehind : List DeskFile → History → History → Type 0
IsBegunBehind [] H begun = ⊤
IsBegunBehind (before ∷ older) H begun = IsBegunWith H (length begun)

-- Each of these files but the oldest was begun with the commands that its UniqueIDs say.
abbrev pub AreBegun : List DeskFile → Type 0
AreBegun [] = ⊤
AreBegun (file ∷ older) = IsBegunBehind older file.whole file.begun × AreBegun older

-- A file with this history was added to the chain, and its rows to the text of the answer.
pub record Adds (chain : Option Chain) (older : List DeskFile) (H : History) (question : Question)
    (path : List ℕ) (text : List ℕ) (answer : Answer) : Type 0 where
  pub begun : History
  pub adds : Continues chain (record { rules = Two; begun = begun; whole = H } ∷ older)
  pub is_begin : IsBegunBehind older H begun
  pub written : HasWritten answer (text ++ rows_text (rows_in question path
      (facts_of (record { rules = Two; begun = begun; whole = H })) (asked_of question H)))

-- So many files, which were closed, are a chain, and their rows were written.
pub record SoFar {D : Type 0} (g : disk.Ghosts D) (image : ℕ → Image) (question : Question)
    (links : Links) (paths : List (List ℕ)) (closed : List (Files D)) (number : ℕ)
    (older : Older) (answer : Answer) : Type 0 where
  pub newest_first : List (Files D)
  pub order : closed ≡ oldest_first newest_first
  pub files : List DeskFile
  pub count : length files ≡ number
  pub held : HoldEach g image newest_first files
  pub chained : Continues older.chain files
  pub begun : AreBegun files
  pub linked : AreLinked links g newest_first files
  pub wants : (mark : Option (List ℕ))
      → IsWanted older.wanted mark ↔ IsLinked links g newest_first mark
  pub written : HasWritten answer (answer_over question paths files)

abbrev pub Reaches : {D : Type 0} → disk.Ghosts D → (ℕ → Image) → Question → Links
    → List (List ℕ) → List (Files D) → ℕ → Older → Answer → Type 0
Reaches g image question links paths closed number older answer = AreHonest g image closed
    → SoFar g image question links paths closed number older answer

-- All of them.
abbrev pub Recalled : {D : Type 0} → disk.Ghosts D → (List ℕ → ℕ → Image) → Question → Links
    → List (List ℕ) → List (Files D) → ℕ → Answer → Type 0
Recalled g image question links paths closed number answer =
    (older : Older)
    × Reaches g (placed image paths) question links paths closed number older answer

-- ---- why there is no answer

-- A file with history H is not added to these: its first UniqueID doesn't name what is wanted. Or the history with which it
-- was begun, by its UniqueIDs, doesn't carry on the newest.
abbrev pub Stops : (Option (List ℕ) → Type 0) → List DeskFile → History → Fault → Type 0
Stops Wants files H (Refused fault) = fault ≡ open_fault.Unavailable
Stops Wants files H (BegunFrom mark) =
    IsMarkOf H (Some (string_bytes mark)) × ¬ Wants (Some (string_bytes mark))
Stops Wants files H NotBegun = IsMarkOf H None × ¬ Wants None
Stops Wants [] H (Differs difference) = ⊥
Stops Wants (before ∷ older) H (Differs difference) =
    (B : History) × IsPrefix B H × IsBegunWith H (length B) × IsReason before.whole B difference

-- The closed files before this place are a chain, and begun as wanted. The one at it, the last that was closed, held a
-- history that doesn't carry them on, or wasn't begun as wanted.
pub record BreaksChain {D : Type 0} (g : disk.Ghosts D) (image : ℕ → Image) (links : Links)
    (closed : List (Files D)) (place : ℕ) (fault : Fault) : Type 0 where
  pub newest_first : List (Files D)
  pub before : List DeskFile
  pub f : Files D
  pub order : closed ≡ oldest_first (f ∷ newest_first)
  pub count : length before ≡ place
  pub held : HoldEach g image newest_first before
  pub chain : IsChain before
  pub linked : AreLinked links g newest_first before
  pub history : History
  pub holds : HoldHistory g (image place) f history
  pub stops : Stops (IsLinked links g newest_first) before history fault

-- The closed files before this place are a chain, and begun as wanted. The file at it was refused for this fault.
pub record StopsReading {D : Type 0} (g : disk.Ghosts D) (image : ℕ → Image) (links : Links)
    (closed : List (Files D)) (place : ℕ) (fault : OpenFault) : Type 0 where
  pub newest_first : List (Files D)
  pub before : List DeskFile
  pub count : length before ≡ place
  pub held : HoldEach g image newest_first before
  pub chain : IsChain before
  pub linked : AreLinked links g newest_first before
  pub refused : IsRefused g (image place) (oldest_first newest_first) closed fault
  pub in_file : IsFaultOf (image place) fault

abbrev pub IsStop : {D : Type 0} → disk.Ghosts D → (ℕ → Image) → Links → List (Files D) → ℕ
    → Fault → Type 0
IsStop g image links closed place (Refused fault) =
    StopsReading g image links closed place fault
    ⊎ BreaksChain g image links closed place (Refused fault)
IsStop g image links closed place fault = BreaksChain g image links closed place fault

-- Why the files are no chain: the first one at fault, and its fault.
abbrev pub IsWhyStopped : {D : Type 0} → disk.Ghosts D → (List ℕ → ℕ → Image) → Links
    → List (List ℕ) → List (Files D) → Stopped → Type 0
IsWhyStopped g image links paths closed stopped = AreHonest g (placed image paths) closed
    → IsStop g (placed image paths) links closed stopped.place stopped.fault
