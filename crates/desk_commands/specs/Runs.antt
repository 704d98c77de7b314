-- The effect of a run on a desk, from its initial history.
use Rattle.std.specs.Prelude.{◌≡◌, ◌⊎◌, ⊤, ℕ, List, [], ◌++◌, Option, None, true, length, codes}
use Rattle.sqlite_disk.specs.declared.Disk as disk
use Rattle.sqlite_disk.specs.declared.start.Start as start
use Rattle.sqlite_wal.specs.Files.{image_at}
use Rattle.sqlite.specs.State.{HasCleanDisk}
use Rattle.sqlite.specs.Files.{file_state, over_files}
use Rattle.desk_types.specs.declared.rules.Rules.TheVariants.{Two}
use Rattle.desk_types.specs.History.{History}
use Rattle.desk_types.specs.Judged.{IsLawful}
use Rattle.desk_laws.specs.Consistent.{IsConsistent}
use Rattle.desk_answers.specs.Ledger.{Ledger}
use Rattle.feeder_state.specs.contracts.desk.StateDeskDesk.TheImpl.{ghosts as state}
use Rattle.line_schema.specs.declared.fault.OpenFault.{OpenFault}
use Rattle.line_schema.specs.Opening.{fault_text}
use Rattle.line_schema.specs.Stands.{Kept, Stands, state_of}
use Rattle.desk_file.specs.Files.{Begins, HasOursFirst, MigratedFrom}
use Rattle.desk_file.specs.Refused.{RefusesMigration, RefusesRun}
use Rattle.gateway_http.specs.Requests.{request_rule}
use Rattle.desk_commands.specs.Told.{unavailable_line}
use Rattle.desk_commands.specs.Clients.{Exchange}
use Rattle.desk_commands.specs.Connections.{AnswersEach}
use Rattle.gateway_http.specs.Reports.{report_of}
use Rattle.desk_commands.specs.declared.left.ToClose.{ToClose}
use Rattle.desk_commands.specs.declared.left.ToClose.TheVariants.{Desk, Migrated, Refused}

-- A desk of rules Two that has accepted nothing.
abbrev pub fresh : ℕ → Ledger
fresh greatest = record { rules = Two; greatest = greatest; history = [] }

-- Lines on a new desk in memory: the fact relates its empty history to the one after them.
abbrev pub RunsInMemory : ℕ → (Ledger → History → Type 0) → Type 0
RunsInMemory greatest Fact = (H : History) × IsConsistent H × Fact (fresh greatest) H

-- If the disk did not lie and the file held only the desk's tables, the open desk went from their history to one that
-- the fact gives. A run begins with tables of version 2 or with none, so a file of version 1 gives no answers.
abbrev pub RunsOn : {T D : Type 0} {g : disk.Ghosts D} → start.Ghosts T → Option ℕ → ToClose D g
    → (Ledger → History → Type 0) → Type 0
RunsOn first make (Desk d) Fact =
    HasCleanDisk (state_of over_files d) → HasOursFirst (image_at first)
    → (greatest : ℕ) × (H : History) × Begins (image_at first) make greatest H
    × IsLawful Two greatest H
    × (H' : History)
    × Stands over_files state.Stands d
    (record { greatest = greatest; history = H'; own = true })
    × Fact (record { rules = Two; greatest = greatest; history = H }) H'
RunsOn first make _ Fact = ⊥

-- An audit found this number of commands, the length of a judged history, even if the disk lied. If it did not lie, and
-- the file held only the desk's tables, this is the history at the start of the run.
abbrev pub Audits : {T D : Type 0} {g : disk.Ghosts D} → start.Ghosts T → ToClose D g → ℕ → Type 0
Audits first (Desk d) count =
    ((L : Kept) × Stands over_files state.Stands d L × (count ≡ length L.history))
    × RunsOn first None (Desk d) (λ G H. (H ≡ G.history) × (count ≡ length H))
Audits first _ count = ⊥

-- A file was migrated. If its disk did not lie, and it held only the desk's tables, its connection holds those of its
-- history by version 2, and a crash leaves only these.
abbrev pub Migrates : {T D : Type 0} {g : disk.Ghosts D} → start.Ghosts T → ToClose D g → Type 0
Migrates first (Migrated conn) =
    HasCleanDisk (file_state conn) → HasOursFirst (image_at first)
    → MigratedFrom (image_at first) conn
Migrates first _ = ⊥

-- A run that may make a desk up to this number refused the files for this fault.
abbrev pub Refuses : {T D : Type 0} {g : disk.Ghosts D} → start.Ghosts T → Option ℕ → ToClose D g
    → OpenFault → Type 0
Refuses first make (Refused r) fault = (r.fault ≡ fault) × RefusesRun (image_at first) make r
Refuses first make _ fault = ⊥

-- A migration refused them.
abbrev pub RefusesToMigrate : {T D : Type 0} {g : disk.Ghosts D} → start.Ghosts T → ToClose D g
    → OpenFault → Type 0
RefusesToMigrate first (Refused r) fault = (r.fault ≡ fault) × RefusesMigration (image_at first) r
RefusesToMigrate first _ fault = ⊥

-- A command on a desk leaves the desk, a refused file, or nothing.
abbrev pub LeavesDesk : {D : Type 0} {g : disk.Ghosts D} → ToClose D g → Type 0
LeavesDesk (Migrated conn) = ⊥
LeavesDesk _ = ⊤

-- A migration leaves the file, migrated or refused.
abbrev pub LeavesFile : {D : Type 0} {g : disk.Ghosts D} → ToClose D g → Type 0
LeavesFile (Desk d) = ⊥
LeavesFile _ = ⊤

-- Connections were answered, each by the history that the previous one left.
abbrev pub ServesEach : List Exchange → Ledger → History → Type 0
ServesEach = AnswersEach (request_rule report_of)

-- The line that says why the desk's file was refused.
abbrev pub refusal_line : OpenFault → List ℕ
refusal_line fault = codes "tracedesk: " ++ fault_text fault

-- Why nothing is answered. The files were refused, and their fault or Unavailable is printed; or memory was refused,
-- which is printed, and this remains.
abbrev pub HasNoDesk : (OpenFault → Type 0) → Type 0 → (List ℕ → Type 0) → Type 0
HasNoDesk IsRefused IsLeft Told =
    ((fault : OpenFault) × IsRefused fault × (Told (refusal_line fault) ⊎ Told unavailable_line))
    ⊎ (IsLeft × Told unavailable_line)
