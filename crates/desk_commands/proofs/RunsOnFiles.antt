-- A run on a desk in a file.
use Rattle.desk_types.proofs.Common.{◌≡◌, History, length, None, Option, refl, subst, sym, true, ℕ}
use Rattle.desk_laws.proofs.Common.{Two}
use Rattle.line_tables.proofs.Common.{HasCleanDisk, over_files}
use Rattle.desk_answers.specs.Ledger.{ForLists, Ledger}
use Rattle.desk_commands.specs.{OpenRuns.StaysSame, Runs.Audits, Runs.RunsOn}
use Rattle.desk_commands.specs.{declared.left.ToClose.TheVariants.Desk}
use Rattle.desk_file.specs.Files.{Begins, HasOursFirst}
use Rattle.feeder_state.specs.{contracts.desk.StateDeskDesk.TheImpl.ghosts as state}
use Rattle.feeder_state.specs.{declared.desk.StateDesk.StateDesk}
use Rattle.line_schema.specs.{Stands.Kept, Stands.Stands, Stands.state_of, declared.store.LineStore.LineStore}
use Rattle.sqlite_store.specs.declared.store.FileStore.{FileStore}
use Rattle.sqlite_wal.specs.Files.{image_at}
use Rattle.sqlite_disk.specs.declared.Disk as disk
use Rattle.sqlite_disk.specs.declared.start.Start as start

-- The store of a file represents the history by rules Two, with its own tables.
abbrev pub IsKept : {D : Type 0} {g : disk.Ghosts D} → LineStore (FileStore D g) StateDesk → Ledger → Type 0
IsKept store G = (G.rules ≡ Two) × Stands over_files state.Stands store (record { greatest = G.greatest; history = G.history; own = true })

pub runs_on : {T D : Type 0} {g : disk.Ghosts D} (first : start.Ghosts T) (make : Option ℕ) (old new : LineStore (FileStore D g) StateDesk) (Fact : Ledger → History → Type 0)
    → (HasCleanDisk (state_of over_files new) → HasCleanDisk (state_of over_files old))
    → (HasCleanDisk (state_of over_files old) → HasOursFirst (image_at first) → (greatest : ℕ) × (H : History) × Begins (image_at first) make greatest H
    × Stands over_files state.Stands old (record { greatest = greatest; history = H; own = true }))
    → ForLists IsKept (λ store. HasCleanDisk (state_of over_files store)) old new Fact → RunsOn first make (Desk new) Fact
runs_on first make old new Fact trusts begins goes clean alone =
    let b = begins (trusts clean) alone in
    let after = goes (record { rules = Two; greatest = b.0; history = b.1 }) (refl, b.3) clean in
    (b.0, b.1, b.2, b.3.lawful (trusts clean) refl, after.0, after.1.1, after.2)

pub stays : {T D : Type 0} {g : disk.Ghosts D} (first : start.Ghosts T) (make : Option ℕ) (old new : LineStore (FileStore D g) StateDesk) → new ≡ old
    → (HasCleanDisk (state_of over_files old) → HasOursFirst (image_at first) → (greatest : ℕ) × (H : History) × Begins (image_at first) make greatest H
    × Stands over_files state.Stands old (record { greatest = greatest; history = H; own = true }))
    → RunsOn first make (Desk new) StaysSame
stays first make old new same begins =
    subst (λ (store : LineStore (FileStore _ _) StateDesk). RunsOn first make (Desk store) StaysSame) (sym same)
    (runs_on first make old old StaysSame (λ clean. clean) begins (λ G stands clean. (G.history, stands, refl)))

pub audits : {T D : Type 0} {g : disk.Ghosts D} (first : start.Ghosts T) (store : LineStore (FileStore D g) StateDesk) (count : ℕ)
    → (L : Kept) × Stands over_files state.Stands store L
    → (HasCleanDisk (state_of over_files store) → HasOursFirst (image_at first) → (greatest : ℕ) × (H : History) × Begins (image_at first) None greatest H
    × Stands over_files state.Stands store (record { greatest = greatest; history = H; own = true }))
    → ((L : Kept) → Stands over_files state.Stands store L → count ≡ length L.history) → Audits first (Desk store) count
audits first store count stands begins counts = (
  (stands.0, stands.1, counts stands.0 stands.1),
  λ clean alone.
      let b = begins clean alone in
      (b.0, b.1, b.2, b.3.lawful clean refl, b.1, b.3, (refl, counts (record { greatest = b.0; history = b.1; own = true }) b.3)),
)
