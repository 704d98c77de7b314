-- The program's contracts give a run in the sense of these definitions.
use Rattle.desk_types.proofs.Common.{[], ◌∷◌, History, List, Option, refl, Some, subst, true, ℕ}
use Rattle.line_tables.proofs.Common.{Database, HasCleanDisk, Holds, HoldsAt, HoldsDatabase, over_files}
use Rattle.line_tables.proofs.Common.{State, Trees}
use Rattle.desk_answers.specs.Ledger.{Ledger}
use Rattle.desk_commands.specs.{Clients.Exchange, Closed.IsRefusedTo, Closed.RunsTo}
use Rattle.desk_commands.specs.{Closed.whole, OpenRuns.AnswersReport}
use Rattle.desk_commands.specs.{OpenRuns.StaysSame, Runs.RunsOn, Runs.ServesEach}
use Rattle.desk_commands.specs.{declared.left.ToClose.TheVariants.Desk}
use Rattle.desk_file.specs.Files.{IsFoundIn}
use Rattle.feeder_state.specs.declared.desk.StateDesk.{StateDesk}
use Rattle.gateway_http.specs.Reports.{report_of}
use Rattle.headline.proofs.CallsInTurn.{goes_on, trusts_back}
use Rattle.headline.specs.{Calls.AnswersByTheList, Calls.Call, Calls.Feeds, Calls.Imports}
use Rattle.headline.specs.{Calls.Call.asked, Calls.Call.fed, Calls.Call.imported}
use Rattle.headline.specs.{Closed.ClosesTo, Closed.connections_of, Closed.GivesCalls, Closed.ReadsClean}
use Rattle.headline.specs.{Closed.run_of, Crashed.CrashesTo, Crashed.killed_run_of, Crashed.MakesCalls}
use Rattle.headline.specs.{Crashed.StandsForList, Runs.by_two, Runs.IsRun, Runs.KeepsList}
use Rattle.line_replay.specs.Rows.{ledger_tables}
use Rattle.line_schema.specs.{Stands.state_of, declared.fault.OpenFault.OpenFault}
use Rattle.line_schema.specs.{declared.store.LineStore.LineStore}
use Rattle.sqlite_disk.specs.declared.Files.{Files}
use Rattle.sqlite_store.specs.declared.store.FileStore.{FileStore}
use Rattle.sqlite_wal.specs.{Files.image_at, Recovery.Image}
use Rattle.sqlite_disk.specs.declared.Disk as disk
use Rattle.sqlite_disk.specs.declared.start.Start as start

module _ {T D : Type 0} {g : disk.Ghosts D} (first : start.Ghosts T) (make : Option ℕ) (desk : LineStore (FileStore D g) StateDesk) (files : Files D) (image : Image) where
  pub is_run : (Fact : Ledger → History → Type 0) (calls : List Call) → ((G : Ledger) (H : History) → Fact G H → AnswersByTheList report_of G calls H)
      → RunsOn first make (Desk desk) Fact → ClosesTo desk files image → IsRun report_of (run_of first make calls image)
  is_run Fact calls tells runs (closes, was_clean, clean, left) alone =
      let (greatest, H, begins, lawful, H', stands, fact) = runs was_clean alone in (
        greatest,
        H,
        H',
        record {
          begins = begins;
          lawful_first = lawful;
          answers = tells (by_two greatest H) H' fact;
          lawful = stands.lawful was_clean refl;
          consistent = stands.consistent;
          ends = closes (record { greatest = greatest; history = H'; own = true }) stands refl clean image left;
        },
      )

-- A whole run, by its files.
module _ {T D : Type 0} (g : disk.Ghosts D) (first : start.Ghosts T) (make : Option ℕ) (files : Files D) (image : Image) where
  pub is_whole_run : (Fact : Ledger → History → Type 0) (calls : List Call) → ((G : Ledger) (H : History) → Fact G H → AnswersByTheList report_of G calls H)
      → RunsTo whole first g (Some files) make Fact → ReadsClean g files image → IsRun report_of (run_of first make calls image)
  is_whole_run Fact calls tells runs is alone =
      let (greatest, H, begins, lawful, H', lawful_after, consistent, holds, fact) = runs is.clean alone in (
        greatest,
        H,
        H',
        record {
          begins = begins;
          lawful_first = lawful;
          answers = tells (by_two greatest H) H' fact;
          lawful = lawful_after;
          consistent = consistent;
          ends = holds image is.reads;
        },
      )

pub serves_each : (exchanges : List Exchange) (G : Ledger) (H : History) → ServesEach exchanges G H → AnswersByTheList report_of G (connections_of exchanges) H
serves_each [] G H same = same
serves_each (e ∷ es) G H (H₁, one, rest) = (H₁, one, serves_each es (record G { history = H₁ }) H rest)

-- Facts that answer calls give what every such fact gives.
pub gives_calls : (Gives : (Ledger → History → Type 0) → List Call → Type 0)
    → ((Fact : Ledger → History → Type 0) (calls : List Call) → ((G : Ledger) (H : History) → Fact G H → AnswersByTheList report_of G calls H) → Gives Fact calls) → GivesCalls Gives
gives_calls Gives gives = record {
  feeds = λ input out out' ended. gives (λ G H. Feeds G input out out' ended H) (fed input out out' ended ∷ []) (λ G H fact. (H, fact, refl));
  serves = λ exchanges. gives (ServesEach exchanges) (connections_of exchanges) (serves_each exchanges);
  reports = λ target told. gives (AnswersReport report_of target told) (asked target told ∷ []) (λ G H fact. (H, (fact.1, fact.0), refl));
  imports = λ import bytes out out' ended. gives (λ G H. Imports G import bytes out out' ended H) (imported import bytes out out' ended ∷ []) (λ G H fact. (H, fact, refl));
  stays = gives StaysSame [] (λ G H same. same);
}

-- A run whose open desk was dropped.
module _ {T D : Type 0} {g : disk.Ghosts D} (first : start.Ghosts T) (make : Option ℕ) (desk : LineStore (FileStore D g) StateDesk) (files : Files D) (image : Image) where
  pub is_crashed_run : (Fact : Ledger → History → Type 0) (calls : List Call) → ((G : Ledger) (H : History) → Fact G H → AnswersByTheList report_of G calls H)
      → RunsOn first make (Desk desk) Fact → CrashesTo desk files image → IsRun report_of (killed_run_of first make calls image)
  is_crashed_run Fact calls tells runs (leaves, was_clean, on, clean, left) alone =
      let (greatest, H, begins, lawful, H', stands, fact) = runs was_clean alone in (
        greatest,
        H,
        H',
        record {
          begins = begins;
          lawful_first = lawful;
          answers = tells (by_two greatest H) H' fact;
          lawful = stands.lawful was_clean refl;
          consistent = stands.consistent;
          ends = leaves (record { greatest = greatest; history = H'; own = true }) stands refl on clean image left;
        },
      )

-- Calls on the opened desk are calls from the initial history of the run.
module _ {T D : Type 0} {g : disk.Ghosts D} (first : start.Ghosts T) (make : Option ℕ) (opened last : LineStore (FileStore D g) StateDesk) (calls : List Call) where
  pub called : RunsOn first make (Desk opened) StaysSame → MakesCalls opened calls last → RunsOn first make (Desk last) (λ G H. AnswersByTheList report_of G calls H)
  called runs made clean alone =
      let was_clean = trusts_back report_of StandsForList (λ d. HasCleanDisk (state_of over_files d)) calls opened last made clean in
      let (greatest, H, begins, lawful, H₁, stands, same) = runs was_clean alone in
      let (H', after, answers) = goes_on report_of StandsForList (λ d. HasCleanDisk (state_of over_files d)) calls opened last made (by_two greatest H₁) (refl, stands) clean in
      (greatest, H, begins, lawful, H', after.1, subst (λ (it : History). AnswersByTheList report_of (by_two greatest it) calls H') same answers)

abbrev pub FindsTables : Type 0
FindsTables = (image : Image) (trees : Trees) (greatest : ℕ) (H : History) → ∥ HoldsDatabase image trees ∥₁ → HoldsAt (ledger_tables greatest H) trees
    → (db : Database) → IsFoundIn image db → Holds db (ledger_tables greatest H)

-- A run whose files were refused keeps their history.
module _ {T D : Type 0} (finds : FindsTables) (g : disk.Ghosts D) (first : start.Ghosts T) (make : Option ℕ) (files : Files D) (image : Image) where
  pub keeps : (StandsIn : OpenFault → Type 0) (Commits : State → Trees → Type 0) (MakesNone : Type 0) (fault : OpenFault) → IsRefusedTo whole first g (Some files) StandsIn Commits MakesNone fault
      → ReadsClean g files image → KeepsList (run_of first make [] image)
  keeps StandsIn Commits MakesNone fault refuses is = (
    refl,
    λ greatest H trees database holds.
        let (db, found, alone) = (refuses.0 is.clean).1 in
        (db.trees, (db, finds (image_at first) trees greatest H database holds db found, found.sound, refl), alone image is.reads),
  )
