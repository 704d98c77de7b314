-- The effect of a run on the desk in its files, by its open files or by those that it closed.
use Rattle.std.specs.Prelude.{◌≡◌, ◌⊎◌, ℕ, Option, None}
use Rattle.sqlite_disk.specs.declared.Disk as disk
use Rattle.sqlite_disk.specs.declared.Files.{Files}
use Rattle.sqlite_disk.specs.declared.start.Start as start
use Rattle.desk_types.specs.History.{History}
use Rattle.desk_answers.specs.Ledger.{Ledger}
use Rattle.line_schema.specs.declared.fault.OpenFault.{OpenFault}
use Rattle.desk_commands.specs.declared.left.ToClose.{ToClose}
use Rattle.desk_commands.specs.declared.left.ToClose.TheVariants as left
use Rattle.desk_commands.specs.Runs as run
use Rattle.desk_commands.specs.Closed.{Close, AuditsTo, IsUnreadTo, MigratesTo, RefusesTo, RefusesToMigrateTo, RunsTo}

pub record Ways : Type 1 where
  -- No file was opened.
  pub OpensNone : Type 0
  -- The run began with the history of its files, for which a desk may be made up to this number, and this relates that
  -- history to the one after it.
  pub Runs : Option ℕ → (Ledger → History → Type 0) → Type 0
  -- An audit found this number of commands.
  pub Audits : ℕ → Type 0
  -- A file was migrated from version 1 to version 2.
  pub Migrates : Type 0
  -- The files were refused for this fault by a run that may make a desk up to this number.
  pub Refuses : Option ℕ → OpenFault → Type 0
  -- A migration refused them for this fault.
  pub RefusesToMigrate : OpenFault → Type 0

-- For a run with this open, in files with these initial contents.
abbrev pub ways_when_open : {T D : Type 0} {g : disk.Ghosts D} → start.Ghosts T → ToClose D g → Ways
ways_when_open first it = record {
  OpensNone = it ≡ left.Nothing;
  Runs = λ make Fact. run.RunsOn first make it Fact;
  Audits = run.Audits first it;
  Migrates = run.Migrates first it;
  Refuses = λ make. run.Refuses first make it;
  RefusesToMigrate = run.RefusesToMigrate first it;
}

-- For a run that closed these files, completely or not.
abbrev pub ways_when_closed : {T D : Type 0} → Close → start.Ghosts T → disk.Ghosts D
    → Option (Files D) → Ways
ways_when_closed how first g files = record {
  OpensNone = files ≡ None;
  Runs = λ make Fact. RunsTo how first g files make Fact;
  Audits = AuditsTo how first g files;
  Migrates = MigratesTo how first g files;
  Refuses = λ make fault.
      RefusesTo how first g files make fault ⊎ IsUnreadTo first g files fault;
  RefusesToMigrate = λ fault.
      RefusesToMigrateTo how first g files fault ⊎ IsUnreadTo first g files fault;
}
