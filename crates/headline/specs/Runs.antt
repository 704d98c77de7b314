-- Runs one after another, on the same two files.
use Rattle.std.specs.Prelude.{◌≡◌, ◌⊎◌, ⊤, ℕ, List, [], ◌∷◌, ◌++◌, Option}
use Rattle.sqlite_wal.specs.Recovery.{Image}
use Rattle.sqlite_trees.specs.Tree.{Trees}
use Rattle.sqlite.specs.Files.{HoldsDatabase}
use Rattle.desk_types.specs.declared.rules.Rules.TheVariants.{Two}
use Rattle.desk_types.specs.History.{History}
use Rattle.desk_types.specs.Judged.{IsLawful}
use Rattle.desk_answers.specs.Ledger.{Ledger}
use Rattle.desk_laws.specs.Consistent.{IsConsistent}
use Rattle.gateway_http.specs.Requests.{Reports}
use Rattle.line_tables.specs.Rows.{Tables, HoldsAt}
use Rattle.line_replay.specs.Rows.{ledger_tables}
use Rattle.desk_file.specs.Files.{Begins, HasOursFirst, IsWhole}
use Rattle.headline.specs.Calls.{AnswersByTheList, Call}

-- The end of a run: it closed its files, or crashed.
pub data Ending : Type 0 where
  closed : Ending
  crashed : Ending

-- A run: its files' contents at the start, the requested greatest number, its calls, its end, and the files' contents
-- then.
pub record Run : Type 0 where
  pub first : Image
  pub make : Option ℕ
  pub calls : List Call
  pub ending : Ending
  pub last : Image

-- The files hold these tables. Closed files hold them without a log.
abbrev pub EndsWith : Ending → Tables → Image → Type 0
EndsWith closed tables image = IsWhole tables image
EndsWith crashed tables image =
    (trees : Trees) × HoldsAt tables trees × ∥ HoldsDatabase image trees ∥₁

-- The history of a desk of rules Two.
abbrev pub by_two : ℕ → History → Ledger
by_two greatest H = record { rules = Two; greatest = greatest; history = H }

-- The run began with the history H of its files, and each of its calls was answered by the history that the previous
-- one left. It ended with the history H', whose tables its files then held.
pub record IsRunFrom (reports : Reports) (run : Run) (greatest : ℕ) (H H' : History) : Type 0 where
  pub begins : Begins run.first run.make greatest H
  pub lawful_first : IsLawful Two greatest H
  pub answers : AnswersByTheList reports (by_two greatest H) run.calls H'
  pub lawful : IsLawful Two greatest H'
  pub consistent : IsConsistent H'
  pub ends : EndsWith run.ending (ledger_tables greatest H') run.last

-- If the files held only the tables of a desk, or no table at all, the run continued from their history.
abbrev pub IsRun : Reports → Run → Type 0
IsRun reports run =
    HasOursFirst run.first → (greatest : ℕ) × (H : History) × (H' : History)
    × IsRunFrom reports run greatest H H'

-- The run was refused its files: it made no call, and kept the tables of whatever history they held.
abbrev pub KeepsList : Run → Type 0
KeepsList run =
    (run.calls ≡ [])
    × ((greatest : ℕ) (H : History) (trees : Trees) → ∥ HoldsDatabase run.first trees ∥₁
    → HoldsAt (ledger_tables greatest H) trees
    → EndsWith run.ending (ledger_tables greatest H) run.last)

-- Each run began on the files as the previous one left them, and continued from their history or kept it.
abbrev pub AreRuns : Reports → Image → List Run → Type 0
AreRuns reports image [] = ⊤
AreRuns reports image (run ∷ runs) =
    (run.first ≡ image) × (IsRun reports run ⊎ KeepsList run) × AreRuns reports run.last runs

-- Two runs combined: the combined run begins like the first, makes the calls of both, and ends like the second.
abbrev pub run_then : Run → Run → Run
run_then run next =
    record run { calls = run.calls ++ next.calls; ending = next.ending; last = next.last }

-- A run and all later ones combined.
abbrev pub as_one : Run → List Run → Run
as_one run [] = run
as_one run (next ∷ runs) = as_one (run_then run next) runs
