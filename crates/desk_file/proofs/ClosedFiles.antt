-- A desk's files after a close.
use Rattle.desk_types.proofs.Common.{∥∥₁_map, ◌∙◌, ◌≡◌, ◌⊎◌, arith, Basis, inl, inr, IsTrue, refl, subst, sym}
use Rattle.line_tables.proofs.Common.{file_state, HasCleanDisk, Held, Holds, IsLive, no_doubt, Trees}
use Rattle.desk_file.specs.Files.{Closes, KeepsTables, Leaves, MayRead, ReadsAs}
use Rattle.line_replay.specs.Rows.{ledger_tables}
use Rattle.line_schema.specs.{Stands.conn_of, declared.store.LineStore.LineStore}
use Rattle.sqlite.specs.{Closing.HoldsAlone, Closing.IsCopied, Files.image_of, Files.IsClosed}
use Rattle.sqlite.specs.{Held.AreDatabases}
use Rattle.sqlite_disk.specs.declared.Files.{Files}
use Rattle.sqlite_pool.proofs.{ResealLemmas.adopts_of, StateLemmas.clean_is, StateLemmas.may_leave_is}
use Rattle.sqlite_pool.proofs.{StateLemmas.size_is_allowed}
use Rattle.sqlite_store.specs.{FileStore.files as store_files, FileStore.reading, FileStore.recovers}
use Rattle.sqlite_store.specs.{FileStore.schema_in, FileStore.state, FileStore.view, Laws.settled_at}
use Rattle.sqlite_store.specs.{declared.store.FileStore.FileStore}
use Rattle.sqlite_trees.specs.View.{IsClean}
use Rattle.sqlite_wal.proofs.LogLemmas.{SeenMayStay}
use Rattle.sqlite_wal.specs.{Files.outcomes, Reads.AreClean, Recovery.Image}
use Rattle.std.proofs.Math.Logic.{∥∥₁_elim}
use Rattle.sqlite_disk.specs.declared.Disk as disk

alone_in : {D : Type 0} {g : disk.Ghosts D} (conn : Held (FileStore D g)) (files : Files D) (image : Image) → IsCopied conn files
    → (image ≡ image_of g files) ⊎ outcomes g files.log files.db image → HoldsAlone image (file_state conn).committed.trees
alone_in conn files image copied (inl seen) = subst (λ (i : Image). HoldsAlone i (file_state conn).committed.trees) (sym seen) copied.seen
alone_in conn files image copied (inr left) = copied.left image left

pub keeps : {D : Type 0} {g : disk.Ghosts D} (conn : Held (FileStore D g)) (files : Files D) → IsLive (file_state conn) → (AreClean g files.log files.db → IsCopied conn files) → KeepsTables conn files
keeps conn files live copied tables holds clean image left =
    let c = copied clean in
    ((file_state conn).committed.trees, ((file_state conn).committed, holds c.was_clean c.was_open, (live c.was_open).1, refl), alone_in conn files image c left)

-- `opens_again` of the kit, without the numbers of the listing: no clause keeps those when a close fails.
reads_again : {D : Type 0} {g : disk.Ghosts D} (it : FileStore D g) → AreDatabases (recovers it) → (image : Image) → (state it).may_leave image → ∥ ((trees : Trees) × recovers it trees × ReadsAs trees image) ∥₁
reads_again it sound image may = ∥∥₁_elim it.safe squash₁ (λ all.
    let found = all image may in
    let trees = reading it found.0 in
    let allowed : recovers it trees = (image, found.0, may, ∣ found.1 ∣₁, refl) in
    let schema = sound trees allowed in
    ∥∥₁_elim (size_is_allowed it.pool) squash₁ (λ size. ∥∥₁_map found.2 (λ ours. let left : (x : Trees) × recovers it x × ReadsAs x image = (
      trees,
      allowed,
      record {
        size = (state it).page_size;
        allowed = size;
        pages = found.0;
        wanted = schema_in it found.0;
        schema = schema.0;
        found = adopts_of _ image found.0 found.1;
        file = ours.file;
        reads = refl;
        sound = schema.1;
      },
    ) in left)))

outcome : {D : Type 0} (g : disk.Ghosts D) → SeenMayStay g → (files : Files D) (image : Image) → MayRead g files image → outcomes g files.log files.db image
outcome g stays files image (inl seen) = subst (λ (i : Image). outcomes g files.log files.db i) (sym seen) (stays files.log, stays files.db)
outcome g stays files image (inr left) = left

pub leaves : {D : Type 0} {g : disk.Ghosts D} → SeenMayStay g → (conn : Held (FileStore D g)) (last : FileStore D g) (files : Files D) → (files.log, files.db) ≡ store_files last → IsLive (file_state conn) → IsClosed conn last → Leaves conn files
leaves {g = g} stays conn last files same live closed clean =
    let sure = subst (λ p. AreClean g p.0 p.1) same clean in
    let none : IsClean (view last) = no_doubt _ (clean_is last.pool ∙ sure) in
    record {
      was_clean = omega (arith, closed.quiet.clean, none);
      was_live = live;
      holds = λ image reads.
          let may = may_leave_is last.pool image sure (subst (λ p. outcomes g p.0 p.1 image) same (outcome g stays files image reads)) in
          ∥∥₁_map (reads_again last (closed.sound none) image may) (λ found.
          let before = closed.quiet.outcomes found.0 found.1 in
          (found.0, record { may = before; last = λ on. settled_at conn.store stays found.0 on before }, found.2));
    }

pub closes : {D E : Type 0} {g : disk.Ghosts D} (StandsFor : E → Basis → Type 0) (desk : LineStore (FileStore D g) E) (conn : Held (FileStore D g)) (files : Files D)
    → conn ≡ conn_of desk → KeepsTables conn files → Closes StandsFor desk files
closes StandsFor desk conn files same kept L stands own clean image left =
    let holds = subst (λ h. HasCleanDisk (file_state h) → IsTrue L.own → IsTrue (file_state h).is_open → Holds (file_state h).committed (ledger_tables L.greatest L.history))
    (sym same) stands.tables in
    kept (ledger_tables L.greatest L.history) (λ was_clean was_open. holds was_clean own was_open) clean image left
