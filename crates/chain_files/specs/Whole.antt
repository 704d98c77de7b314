-- The effect of a run of the program.
use Rattle.std.specs.Prelude.{◌≡◌, ◌≤◌, ◌⊎◌, ◌++◌, ℕ, true, Option, List, [], codes, length}
use Rattle.std.specs.Io.KnownBytes.{Appends}
use Rattle.sqlite_disk.specs.declared.Disk as disk
use Rattle.sqlite_disk.specs.declared.Files.{Files}
use Rattle.sqlite_wal.specs.Recovery.{Image}
use Rattle.desk_types.specs.declared.wire.Wire.{Wire}
use Rattle.desk_types.specs.Wire.{inner_of}
use Rattle.desk_answers.specs.Sent.{SendsFront}
use Rattle.desk_commands.specs.Told.{unavailable_line, Tells, TellsLine, TellsUnwritten}
use Rattle.desk_laws.specs.Chain.{DeskFile, IsChain}
use Rattle.chain_check.specs.declared.question.Question.{Question}
use Rattle.chain_check.specs.Rows.{answer_over}
use Rattle.chain_files.specs.declared.chain.Fault.{Fault}
use Rattle.chain_files.specs.declared.compared.Compared.{Compared}
use Rattle.chain_files.specs.Compared.{Finds, NoDesk, Shows, ShowsFront, placed_both}
use Rattle.chain_files.specs.declared.marks.Links.{Links}
use Rattle.chain_files.specs.Files.{AreBegun, AreHonest, HoldEach, IsStop, oldest_first, placed}
use Rattle.chain_files.specs.Marks.{AreLinked}
use Rattle.chain_files.specs.Stops.{status_of, stop_line, without_marks_line}
use Rattle.chain_files.specs.Listed.{IsBadList, IsQuestion, list_fault_text}
use Rattle.chain_files.specs.Words.{AsksForHelp, AsksForVersion, AsksOf, AsksToCompare, MeanNothing}
use Rattle.chain_files.specs.declared.listed.ListFault.{ListFault}
use Rattle.chain_files.specs.declared.words.Asked.{Asked}

-- The words ask this question of these files, by the content of the file that they name as a list.
abbrev pub AsksFor : (List ℕ → Option (List ℕ)) → List (List ℕ) → Question → Links
    → List (List ℕ) → Type 0
AsksFor holds words question links paths = (asked : Asked) × (word : List ℕ)
    × AsksOf words asked word links paths × IsQuestion (holds word) asked question

-- The files of these paths held, and still hold, lawful histories that are a chain, and this is the answer over them.
pub record IsAnswer {D : Type 0} (g : disk.Ghosts D) (image : ℕ → Image) (closed : List (Files D))
    (question : Question) (links : Links) (paths : List (List ℕ)) (text : List ℕ)
    : Type 0 where
  pub files : List DeskFile
  pub count : length files ≡ length paths
  pub chain : IsChain files
  pub begun : AreBegun files
  pub newest_first : List (Files D)
  pub order : closed ≡ oldest_first newest_first
  pub held : HoldEach g image newest_first files
  pub linked : AreLinked links g newest_first files
  pub answer : text ≡ answer_over question paths files

-- If no disk lied, this text is the answer.
abbrev pub GivesAnswer : {D : Type 0} → disk.Ghosts D → (List ℕ → ℕ → Image) → List (Files D)
    → Question → Links → List (List ℕ) → List ℕ → Type 0
GivesAnswer g image closed question links paths text = AreHonest g (placed image paths) closed
    → IsAnswer g (placed image paths) closed question links paths text

-- The last line on standard error says that marks were left aside, if they were.
abbrev pub SaysLinks : {E : Type 0} → Links → (E → Option (List ℕ)) → Wire E → Type 0
SaysLinks {E = E} links tells errors' = links.without_marks ≡ true
    → (errors : Wire E) × TellsLine tells errors errors' without_marks_line

-- The answer was written.
abbrev pub Answers : {D W E : Type 0} → disk.Ghosts D → (List ℕ → ℕ → Image) → List (Files D)
    → Question → Links → List (List ℕ) → (W → Option (List ℕ)) → (E → Option (List ℕ))
    → Wire W → Wire W → Wire E → Type 0
Answers g image closed question links paths writes tells output output' errors' = (text : List ℕ)
    × Appends (writes (inner_of output)) (writes (inner_of output')) text
    × GivesAnswer g image closed question links paths text × SaysLinks links tells errors'

-- Only its first bytes were, and standard error says so.
abbrev pub AnswersFront : {D W E : Type 0} → disk.Ghosts D → (List ℕ → ℕ → Image)
    → List (Files D) → Question → Links → List (List ℕ) → (W → Option (List ℕ))
    → (E → Option (List ℕ)) → Wire W → Wire W → Wire E → Type 0
AnswersFront {E = E} g image closed question links paths writes tells output output' errors' =
    (text : List ℕ) × SendsFront (writes (inner_of output)) (writes (inner_of output')) text
    × GivesAnswer g image closed question links paths text
    × (errors : Wire E) × TellsUnwritten tells output output' errors errors'

-- The words ask for help or the version.
abbrev pub AsksForText : List (List ℕ) → Type 0
AsksForText words = AsksForHelp words ⊎ AsksForVersion words

-- Status 1, 3 or 5: there is no answer.
abbrev pub IsStopped : ℕ → Type 0
IsStopped status = (status ≡ 1) ⊎ (status ≡ 3) ⊎ (status ≡ 5)

-- Standard error names the first file at fault, and its fault. Or memory was refused.
abbrev pub StopsAt : {D E : Type 0} → disk.Ghosts D → (List ℕ → ℕ → Image) → List (Files D) → Links
    → List (List ℕ) → (E → Option (List ℕ)) → Wire E → ℕ → Type 0
StopsAt {E = E} g image closed links paths writes errors' status =
    (errors : Wire E) × (((place : ℕ) × (fault : Fault) × (status_of fault ≡ status)
    × TellsLine writes errors errors' (stop_line paths place fault)
    × (AreHonest g (placed image paths) closed
    → IsStop g (placed image paths) links closed place fault))
    ⊎ ((status ≡ 3) × TellsLine writes errors errors' unavailable_line))

-- The line on standard error of a list that was refused, by its path.
abbrev pub list_line : List ℕ → ListFault → List ℕ
list_line path fault = codes "tracedesk-chain: " ++ (path ++ (codes ": " ++ list_fault_text fault))

-- ---- the run

-- A run, by its words, the files that it closed, and its output and standard error before and after. `image` gives the
-- contents of a file by its path and place. `holds` gives those of a list, and `may_fail` whether reading it may fail.
-- `writes` and `tells` are the bytes sent to the output and to standard error, as far as they are known.
module _ {D W E : Type 0} (g : disk.Ghosts D) (image : List ℕ → ℕ → Image)
    (holds : List ℕ → Option (List ℕ)) (may_fail : List ℕ → Type 0)
    (writes : W → Option (List ℕ)) (tells : E → Option (List ℕ)) (words : List (List ℕ))
    (closed : List (Files D)) (output output' : Wire W) (errors errors' : Wire E) where
  -- The words ask for a recall, and it was answered in this way.
  abbrev pub Recalls : (Question → Links → List (List ℕ) → Type 0) → Type 0
  Recalls Ends = (question : Question) × (links : Links) × (paths : List (List ℕ))
      × AsksFor holds words question links paths × Ends question links paths

  -- The words ask for a comparison, which found this.
  abbrev pub Compares : Compared → Type 0
  Compares found = (old : List ℕ) × (new : List ℕ)
      × AsksToCompare words old new × Finds g (placed_both image old new) closed found

  -- Status 0: the answer was written, the text that was asked for, or that the desks are alike. No file was opened for a
  -- text.
  abbrev pub Done : Type 0
  Done = Recalls (λ question links paths.
      Answers g image closed question links paths writes tells output output' errors')
      ⊎ (AsksForText words × (closed ≡ []) × (text : List ℕ)
      × Appends (writes (inner_of output)) (writes (inner_of output')) text)
      ⊎ Shows Compares writes output output' 0

  -- Status 1, 3 or 5 of a recall: there is no answer, and nothing was written.
  abbrev pub Stops : ℕ → Type 0
  Stops status = (output' ≡ output) × Recalls (λ question links paths.
      StopsAt g image closed links paths tells errors' status)

  -- Status 2: the words have no meaning, and standard error says so. No file was opened, and nothing was written.
  abbrev pub Bad : Type 0
  Bad = MeanNothing words × (closed ≡ []) × (output' ≡ output)
      × (text : List ℕ) × Tells tells errors errors' text

  -- Status 3: the list that the words name was refused, and standard error names it, and its fault. Or memory was refused.
  -- No file was opened, and nothing was written.
  abbrev pub RefusesList : Type 0
  RefusesList = (output' ≡ output) × (closed ≡ [])
      × (asked : Asked) × (word : List ℕ) × (links : Links) × (paths : List (List ℕ))
      × AsksOf words asked word links paths
      × (fault : ListFault) × IsBadList (holds word) (may_fail word) asked fault
      × (TellsLine tells errors errors' (list_line word fault)
      ⊎ TellsLine tells errors errors' unavailable_line)

  -- Status 4: the output failed, and standard error says so. Only the first bytes of the text were written.
  abbrev pub Fails : Type 0
  Fails = Recalls (λ question links paths.
      AnswersFront g image closed question links paths writes tells output output' errors')
      ⊎ (((AsksForText words × (closed ≡ []) × (text : List ℕ)
      × SendsFront (writes (inner_of output)) (writes (inner_of output')) text)
      ⊎ ShowsFront Compares writes output output')
      × TellsUnwritten tells output output' errors errors')

  -- The effect of a run, by its exit status.
  pub record RunsAs (exit : ℕ) : Type 0 where
    pub status : exit ≤ 5
    pub done : exit ≡ 0 → Done
    -- A desk differs from what the one before it left.
    pub differs : exit ≡ 1 → Stops exit ⊎ Shows Compares writes output output' exit
    pub bad : exit ≡ 2 → Bad
    pub no_desk : exit ≡ 3
        → Stops exit ⊎ RefusesList ⊎ NoDesk Compares tells output output' errors errors'
    pub failed : exit ≡ 4 → Fails
    -- A file wasn't begun from the one before it.
    pub not_begun : exit ≡ 5 → Stops exit
