-- Files that were only read, and closed again.
use Rattle.desk_types.proofs.Common.{∥∥₁_map, ◌∙◌, ◌≡◌, arith, inl, inr, IsTrue, subst, sym}
use Rattle.line_tables.proofs.Common.{Database, file_state, HasCleanDisk, Held, Trees}
use Rattle.desk_file.proofs.FirstLists.{found}
use Rattle.desk_file.specs.Files.{IsFoundIn, IsLeft, MayRead, ReadsAs}
use Rattle.desk_file.specs.Refused.{IsUnchangedSince}
use Rattle.sqlite.specs.Closing.{HoldsAlone, IsCopied}
use Rattle.sqlite_disk.specs.declared.Disk as disk
use Rattle.sqlite_disk.specs.declared.Files.{Files}
use Rattle.sqlite_store.specs.Laws.{settled_at}
use Rattle.sqlite_store.specs.declared.store.FileStore.{FileStore}
use Rattle.sqlite_wal.proofs.LogLemmas.{SeenMayStay}
use Rattle.sqlite_wal.specs.Recovery.{Image}
use Rattle.line_file.specs.Files.{StillHold}

module _ {F : Type 0} {g : disk.Ghosts F} (image : Image) (first conn : Held (FileStore F g)) (f : Files F)
    (since : IsUnchangedSince image (λ _ _. ⊥) first conn) where
  clean-first : HasCleanDisk (file_state conn) → HasCleanDisk (file_state first)
  clean-first clean = omega (arith, since.survives.clean, clean)

  -- The database that the first connection found.
  pub found-first : HasCleanDisk (file_state conn) → IsFoundIn image (file_state first).committed
  found-first clean =
      let (opened, finds) = since.opened (clean-first clean) in
      found image (file_state first) finds opened.0 opened.1

  pub kept-whole : IsCopied conn f
      → (db : Database) × IsFoundIn image db × StillHold g f db.trees
  kept-whole copied =
      let same = (since.kept copied.was_clean).committed copied.was_open in (
        (file_state first).committed,
        found-first copied.was_clean,
        inl (λ at may.
            let alone : HoldsAlone at (file_state conn).committed.trees = elim may [
              | inl seen ↦ subst (λ (i : Image). HoldsAlone i (file_state conn).committed.trees) (sym seen) copied.seen
              | inr left ↦ copied.left at left
            ] in
            subst (λ (db : Database). HoldsAlone at db.trees) same alone),
      )

  pub kept-left : SeenMayStay g → IsLeft conn f
      → (db : Database) × IsFoundIn image db × StillHold g f db.trees
  kept-left stays left =
      let opened = (since.opened (clean-first left.was_clean)).0 in (
        (file_state first).committed,
        found-first left.was_clean,
        inr (λ at may. ∥∥₁_map (left.holds at may) (λ it.
            let was : (file_state first).may_leave it.0 = elim (since.survives.crash left.was_clean it.0 it.1.may) [
              | inl before ↦ before
              | inr none ↦ absurd none
            ] in
            subst (λ (trees : Trees). ReadsAs trees at)
            (settled_at first.store stays it.0 opened.0.is_open was) it.2)),
      )
