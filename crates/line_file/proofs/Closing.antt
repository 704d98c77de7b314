-- What was read of files that were closed again.
use Rattle.desk_types.proofs.Common.{◌≡◌, Basis, Bool, Err, IfErr, IfOk, inl, inr, Ok, refl, Result, subst, sym}
use Rattle.line_tables.proofs.Common.{Database, file_state, HasCleanDisk, Held, over_files, ReadsOnly}
use Rattle.desk_types.specs.Desk.{HasRoom}
use Rattle.desk_file.specs.Files.{IsFoundIn}
use Rattle.desk_file.specs.Found.{FindsAs}
use Rattle.desk_file.specs.Refused.{IsUnchangedSince}
use Rattle.sqlite.specs.Closing.{IsCopied}
use Rattle.sqlite.specs.Files.{IsOpened}
use Rattle.sqlite_disk.specs.declared.Disk as disk
use Rattle.sqlite_disk.specs.declared.Files.{Files}
use Rattle.sqlite_store.specs.declared.store.FileStore.{FileStore}
use Rattle.sqlite_wal.proofs.LogLemmas.{SeenMayStay}
use Rattle.sqlite_wal.specs.Reads.{AreClean}
use Rattle.sqlite_wal.specs.Recovery.{Image}
use Rattle.line_file.specs.declared.fault.ListFault.{ListFault}
use Rattle.line_file.specs.declared.store.Line.{Line}
use Rattle.line_file.specs.Files.{Closes, FindsFault, FindsLine, StillHold}
use Rattle.line_file.specs.Lines.{ReadsFault, ReadsLine}
use Rattle.line_file.specs.Lists.{IsSound}
use Rattle.line_file.proofs.Found.{fault-of, line-in, named-in}
use Rattle.line_file.proofs.Kept.{kept-left, kept-whole}

module _ {F : Type 0} {g : disk.Ghosts F} (image : Image) (first conn : Held (FileStore F g)) (f : Files F)
    (opened : HasCleanDisk (file_state first) → IsOpened first × FindsAs image (file_state first))
    (reads : ReadsOnly over_files first conn) where
  since : IsUnchangedSince image (λ _ _. ⊥) first conn
  since = record { opened = opened; kept = reads.kept; survives = reads.survives }

  pub keeps : SeenMayStay g → {X : Type 0} (line told : Result X ListFault) → Closes line conn told f
      → AreClean g f.log f.db → (db : Database) × IsFoundIn image db × StillHold g f db.trees
  keeps stays line told (inl (same, copies)) clean = kept-whole image first conn f since (copies clean)
  keeps stays line told (inr (same, leaves)) clean = kept-left image first conn f since stays (leaves clean)

  by-line : {D : Type 0} (StandsFor : D → Basis → Type 0) (with_rows : Bool) (told : Result (Line D) ListFault)
      → IfOk told (ReadsLine StandsFor with_rows (IsSound (file_state conn)) (file_state first))
      → (AreClean g f.log f.db → IsCopied conn f) → IfOk told (FindsLine StandsFor with_rows g image f)
  by-line StandsFor with_rows (Ok line) is copies =
      λ clean. let copied = copies clean in (
        named-in image first conn f since copied StandsFor with_rows line is,
        λ place. line-in image first conn f since copied place StandsFor with_rows line is,
      )
  by-line StandsFor with_rows (Err fault) is copies = tt

  pub finds-line : {D : Type 0} (StandsFor : D → Basis → Type 0) (with_rows : Bool)
      (line told : Result (Line D) ListFault) → Closes line conn told f
      → IfOk line (ReadsLine StandsFor with_rows (IsSound (file_state conn)) (file_state first))
      → IfOk told (FindsLine StandsFor with_rows g image f)
  finds-line StandsFor with_rows line told (inl (same, copies)) is =
      by-line StandsFor with_rows told (subst (λ r. IfOk r (ReadsLine StandsFor with_rows (IsSound (file_state conn))
      (file_state first))) (sym same) is) copies
  finds-line StandsFor with_rows line told (inr (same, leaves)) is =
      subst (λ r. IfOk r (FindsLine StandsFor with_rows g image f)) (sym same) tt

  by-fault : {X : Type 0} (told : Result X ListFault)
      → (IsSound (file_state conn) → IfErr told (ReadsFault (file_state first)))
      → (AreClean g f.log f.db → IsCopied conn f) → IfErr told (FindsFault g image f)
  by-fault (Ok line) is copies = tt
  by-fault (Err fault) is copies = λ clean place.
      let copied = copies clean in
      fault-of image first conn f since copied place fault (is (copied.was_clean, copied.was_open))

  pub finds-fault : {X : Type 0} (line told : Result X ListFault) → Closes line conn told f
      → (IsSound (file_state conn) → IfErr line (ReadsFault (file_state first)))
      → IfErr told (FindsFault g image f)
  finds-fault line told (inl (same, copies)) is =
      by-fault told (subst (λ r. IsSound (file_state conn) → IfErr r (ReadsFault (file_state first))) (sym same) is)
      copies
  finds-fault line told (inr (same, leaves)) is =
      subst (λ r. IfErr r (FindsFault g image f)) (sym same) (λ clean place. inl refl)

pub room : {F D : Type 0} {g : disk.Ghosts F} (StandsFor : D → Basis → Type 0) (line told : Result (Line D) ListFault)
    (conn : Held (FileStore F g)) (f : Files F) → Closes line conn told f
    → IfOk line (λ l. HasRoom StandsFor l.desk 0) → IfOk told (λ l. HasRoom StandsFor l.desk 0)
room StandsFor line told conn f (inl (same, copies)) is =
    subst (λ r. IfOk r (λ l. HasRoom StandsFor l.desk 0)) (sym same) is
room StandsFor line told conn f (inr (same, leaves)) is =
    subst (λ r. IfOk r (λ l. HasRoom StandsFor l.desk 0)) (sym same) tt
