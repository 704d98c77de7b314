-- The files that a command left open, after they are closed.
use Rattle.desk_types.proofs.Common.{∥∥₁_map, ⊤, ◌∙◌, ◌≡◌, ◌⊎◌, ap, arith, cases_Bool, History, inl, inr}
use Rattle.desk_types.proofs.Common.{IsTrue, length, None, Option, refl, Some, subst, sym, true, ℕ}
use Rattle.line_tables.proofs.Common.{Database, file_state, HasCleanDisk, Held, LeavesMigrated, One, Opens}
use Rattle.line_tables.proofs.Common.{over_files, State, Trees}
use Rattle.desk_answers.specs.Ledger.{Ledger}
use Rattle.desk_commands.specs.Closed.{AuditsTo, Close, ClosesConn, ClosesLeft, failed, HoldsDesk, HoldsFound}
use Rattle.desk_commands.specs.Closed.{IsRefusedTo, IsUnreadTo, MigratesTo, RefusesTo, RefusesToMigrateTo, RunsTo}
use Rattle.desk_commands.specs.Closed.{whole}
use Rattle.desk_commands.specs.Runs.{Audits, Migrates, Refuses, RefusesToMigrate, RunsOn}
use Rattle.desk_commands.specs.declared.left.ToClose.{ToClose}
use Rattle.desk_commands.specs.declared.left.ToClose.TheVariants.{Desk, Migrated, Nothing, Refused}
use Rattle.desk_file.proofs.FirstLists.{found}
use Rattle.desk_file.specs.Files.{IsFoundIn, IsLeft}
use Rattle.desk_file.specs.Refused.{idle_state, IsFaultFor, IsFaultIn, IsRefused, IsUnchangedSince}
use Rattle.desk_file.specs.Refused.{LeavesMade, RefusesRun}
use Rattle.desk_file.specs.Unread.{IsUnreadAt}
use Rattle.desk_file.specs.declared.refusal.RefusedFile.{RefusedFile}
use Rattle.feeder_state.specs.contracts.desk.StateDeskDesk.TheImpl.{ghosts as state}
use Rattle.feeder_state.specs.declared.desk.StateDesk.{StateDesk}
use Rattle.line_replay.specs.Rows.{ledger_tables}
use Rattle.line_schema.specs.Stands.{conn_of, Kept, Stands}
use Rattle.line_schema.specs.declared.fault.OpenFault.{OpenFault}
use Rattle.line_schema.specs.declared.fault.OpenFault.TheVariants.{NotADesk, Unavailable}
use Rattle.line_schema.specs.declared.store.LineStore.{LineStore}
use Rattle.sqlite.specs.Closing.{HoldsAlone, IsCopied}
use Rattle.sqlite_disk.specs.declared.Files.{Files}
use Rattle.sqlite_store.specs.Laws.{settled_at}
use Rattle.sqlite_store.specs.declared.store.FileStore.{FileStore}
use Rattle.sqlite_wal.proofs.LogLemmas.{SeenMayStay}
use Rattle.sqlite_wal.specs.Files.{image_at}
use Rattle.sqlite_wal.specs.Reads.{AreClean}
use Rattle.sqlite_wal.specs.Recovery.{Image}
use Rattle.std.proofs.lemmas.Bool.{both_ways}
use Rattle.std.specs.Prelude.{IsSomeAnd, MatchOption}
use Rattle.sqlite_disk.specs.declared.Disk as disk
use Rattle.sqlite_disk.specs.declared.start.Start as start

-- The files of a desk after a close that failed.
desk_left : {D : Type 0} {g : disk.Ghosts D} (d : LineStore (FileStore D g) StateDesk) (f : Files D) (L : Kept) → IsLeft (conn_of d) f → Stands over_files state.Stands d L → IsTrue L.own
    → HoldsDesk failed g f (ledger_tables L.greatest L.history)
desk_left d f L left stands own = elim (cases_Bool (file_state (conn_of d)).is_open) [
  | inl on ↦ inl (λ image reads.
      ∥∥₁_map (left.holds image reads) (λ found. (found.0, ((file_state (conn_of d)).committed, stands.tables left.was_clean own on, (left.was_live on).1, found.1.last on), found.2)))
  | inr shut ↦ inr (
    conn_of d,
    record { shut = shut; failed = elim (stands.stays_open left.was_clean) [ inl on ↦ absurd (both_ways _ shut on) | inr faults ↦ faults ]; left = left },
  )
]

-- What a crash may leave of an open is so of the database that it finds.
abbrev pub IsCalm : (State → Trees → Type 0) → Type 1
IsCalm Commits = (s : State) → Opens s → (trees : Trees) → Commits s trees → Commits (idle_state s.committed) trees

calm_made : (make : Option ℕ) → IsCalm (LeavesMade make)
calm_made None s opens trees made = absurd made
calm_made (Some greatest) s opens trees made = record {
  was_open = refl;
  holds = λ bare. made.holds (ap (λ (db : Database). db.schema) opens.clean ∙ bare);
}

calm_migrated : IsCalm LeavesMigrated
calm_migrated s opens trees left = record { was_open = refl; holds = left.holds }

-- The files that were refused, after a close that failed.
found_left : {D : Type 0} {g : disk.Ghosts D} (stays : SeenMayStay g) (conn first : Held (FileStore D g)) (f : Files D) (image : Image) (Commits : State → Trees → Type 0) → IsCalm Commits
    → IsLeft conn f → IsUnchangedSince image Commits first conn → HoldsFound failed g f image Commits
found_left stays conn first f image Commits calm left since =
    let early : HasCleanDisk (file_state first) = omega (arith, since.survives.clean, left.was_clean) in
    let (opened, finds) = since.opened early in (
      (file_state first).committed,
      found image (file_state first) finds opened.0 opened.1,
      λ at reads.
          ∥∥₁_map (left.holds at reads) (λ it. (
            it.0,
            elim (since.survives.crash left.was_clean it.0 it.1.may) [
              | inl before ↦ inl (settled_at first.store stays it.0 opened.0.is_open before)
              | inr commits ↦ inr (calm (file_state first) opened.0 it.0 commits)
            ],
            it.2,
          )),
    )

module _ {T D : Type 0} {g : disk.Ghosts D} (first : start.Ghosts T) where
  pub runs_to : (how : Close) (left : ToClose D g) (files : Option (Files D)) (make : Option ℕ) (Fact : Ledger → History → Type 0) → ClosesLeft how left files
      → RunsOn first make left Fact → RunsTo how first g files make Fact
  runs_to how Nothing files make Fact closed runs = absurd runs
  runs_to whole (Desk d) (Some f) make Fact closed runs = λ clean alone.
      let was_clean = (closed.1 clean).was_clean in
      let (greatest, H, begins, lawful, H', stands, fact) = runs was_clean alone in
      (greatest, H, begins, lawful, H', stands.lawful was_clean refl, stands.consistent, closed.0 (record { greatest = greatest; history = H'; own = true }) stands refl clean, fact)
  runs_to whole (Desk d) None make Fact closed runs = absurd closed
  runs_to failed (Desk d) (Some f) make Fact closed runs = λ clean alone.
      let left = closed clean in
      let (greatest, H, begins, lawful, H', stands, fact) = runs left.was_clean alone in
      (greatest, H, begins, lawful, H', stands.lawful left.was_clean refl, stands.consistent, desk_left d f (record { greatest = greatest; history = H'; own = true }) left stands refl, fact)
  runs_to failed (Desk d) None make Fact closed runs = absurd closed
  runs_to how (Migrated conn) files make Fact closed runs = absurd runs
  runs_to how (Refused r) files make Fact closed runs = absurd runs

  pub audits_to : (how : Close) (left : ToClose D g) (files : Option (Files D)) (count : ℕ) → ClosesLeft how left files → Audits first left count → AuditsTo how first g files count
  audits_to how Nothing files count closed audits = absurd audits
  audits_to how (Desk d) files count closed audits = runs_to how (Desk d) files None (λ G H. (H ≡ G.history) × (count ≡ length H)) closed audits.1
  audits_to how (Migrated conn) files count closed audits = absurd audits
  audits_to how (Refused r) files count closed audits = absurd audits

  pub migrates_to : (how : Close) (left : ToClose D g) (files : Option (Files D)) → ClosesLeft how left files → Migrates first left → MigratesTo how first g files
  migrates_to how Nothing files closed migrates = absurd migrates
  migrates_to how (Desk d) files closed migrates = absurd migrates
  migrates_to whole (Migrated conn) (Some f) closed migrates = λ clean alone.
      let was_clean = (closed.1 clean).was_clean in
      let (greatest, H, was, holds, left) = migrates was_clean alone in
      (greatest, H, was, closed.0 (ledger_tables greatest H) (λ _ _. holds) clean)
  migrates_to whole (Migrated conn) None closed migrates = absurd closed
  migrates_to failed (Migrated conn) (Some f) closed migrates = λ clean alone.
      let it = closed clean in
      let (greatest, H, was, holds, left) = migrates it.was_clean alone in
      (greatest, H, was, λ image reads. ∥∥₁_map (it.holds image reads) (λ found. (found.0, left found.0 found.1.may, found.2)))
  migrates_to failed (Migrated conn) None closed migrates = absurd closed
  migrates_to how (Refused r) files closed migrates = absurd migrates

  holds_found : (conn : Held (FileStore D g)) (f : Files D) (image : Image) → IsCopied conn f
      → (HasCleanDisk (file_state conn) → IsTrue (file_state conn).is_open → IsFoundIn image (file_state conn).committed) → (Commits : State → Trees → Type 0) → HoldsFound whole g f image Commits
  holds_found conn f image copied found Commits = (
    (file_state conn).committed,
    found copied.was_clean copied.was_open,
    λ at. elim [
      | inl seen ↦ subst (λ (i : Image). HoldsAlone i (file_state conn).committed.trees) (sym seen) copied.seen
      | inr left ↦ copied.left at left
    ],
  )

  module _ (stays : SeenMayStay g) (StandsIn : OpenFault → Type 0) (Commits : State → Trees → Type 0)
      (calm : IsCalm Commits) (MakesNone : Type 0) where
    abbrev Is : RefusedFile D g → Type 0
    Is = IsRefused (image_at first) StandsIn Commits MakesNone

    -- The database was refused, and its connection closed.
    refused_to : (how : Close) (fault : OpenFault) (conn : Held (FileStore D g)) (unread : Option (Files D))
        (f : Files D) → ClosesConn how conn f → Is (record { fault = fault; file = Some conn; unread = unread })
        → IsRefusedTo how first g (Some f) StandsIn Commits MakesNone fault
    refused_to whole fault conn unread f closed is = (
      λ clean.
          let copied = closed.1 clean in
          (is.fault copied.was_clean, holds_found conn f (image_at first) copied is.found Commits),
      is.never,
    )
    refused_to failed fault conn unread f closed is = (
      λ clean.
          let left = closed clean in
          (is.fault left.was_clean, found_left stays conn is.since.0 f (image_at first) Commits calm left is.since.1),
      is.never,
    )

    refused_or_unread : (how : Close) (fault : OpenFault) (file : Option (Held (FileStore D g)))
        (unread files : Option (Files D))
        → ClosesLeft how (Refused (record { fault = fault; file = file; unread = unread })) files
        → Is (record { fault = fault; file = file; unread = unread })
        → IsRefusedTo how first g files StandsIn Commits MakesNone fault ⊎ IsUnreadTo first g files fault
    refused_or_unread how fault None None files closed is = inl (
      subst (λ (o : Option (Files D)). MatchOption o ((fault ≡ Unavailable) ⊎ ((fault ≡ NotADesk) × MakesNone))
          (λ f. AreClean g f.log f.db → StandsIn fault × HoldsFound how g f (image_at first) Commits))
          (sym closed) (is.unopened refl),
      is.never,
    )
    refused_or_unread how fault None (Some f) files closed is =
        let Left : Option (Files D) → Type 0 = λ o. IsSomeAnd o (IsUnreadAt g (image_at first)) in
        inr (is.unread.0, subst Left (sym closed) is.unread.2)
    refused_or_unread how fault (Some conn) unread None closed is = absurd closed
    refused_or_unread how fault (Some conn) unread (Some f) closed is =
        inl (refused_to how fault conn unread f closed is)

  pub refuses_to : SeenMayStay g → (how : Close) (left : ToClose D g) (files : Option (Files D)) (make : Option ℕ)
      (fault : OpenFault) → ClosesLeft how left files → Refuses first make left fault
      → RefusesTo how first g files make fault ⊎ IsUnreadTo first g files fault
  refuses_to stays how Nothing files make fault closed refuses = absurd refuses
  refuses_to stays how (Desk d) files make fault closed refuses = absurd refuses
  refuses_to stays how (Migrated conn) files make fault closed refuses = absurd refuses
  refuses_to stays how (Refused r) files make fault closed refuses =
      subst (λ (it : OpenFault). RefusesTo how first g files make it ⊎ IsUnreadTo first g files it) refuses.0
      (refused_or_unread stays (IsFaultFor (image_at first) make) (LeavesMade make) (calm_made make) (make ≡ None)
      how r.fault r.file r.unread files closed refuses.1)

  pub refuses_to_migrate : SeenMayStay g → (how : Close) (left : ToClose D g) (files : Option (Files D))
      (fault : OpenFault) → ClosesLeft how left files → RefusesToMigrate first left fault
      → RefusesToMigrateTo how first g files fault ⊎ IsUnreadTo first g files fault
  refuses_to_migrate stays how Nothing files fault closed refuses = absurd refuses
  refuses_to_migrate stays how (Desk d) files fault closed refuses = absurd refuses
  refuses_to_migrate stays how (Migrated conn) files fault closed refuses = absurd refuses
  refuses_to_migrate stays how (Refused r) files fault closed refuses =
      subst (λ (it : OpenFault). RefusesToMigrateTo how first g files it ⊎ IsUnreadTo first g files it) refuses.0
      (refused_or_unread stays (IsFaultIn (image_at first) One) LeavesMigrated calm_migrated ⊤
      how r.fault r.file r.unread files closed refuses.1)

  -- A run that may make no desk refused the database.
  pub refuses_run_to : SeenMayStay g → (how : Close) (fault : OpenFault) (conn : Held (FileStore D g)) (f : Files D)
      → ClosesConn how conn f
      → RefusesRun (image_at first) None (record { fault = fault; file = Some conn; unread = None })
      → RefusesTo how first g (Some f) None fault
  refuses_run_to stays how fault conn f closed is =
      refused_to stays (IsFaultFor (image_at first) None) (LeavesMade None) (calm_made None)
      (◌≡◌ {A = Option ℕ} None None) how fault conn None f closed is
