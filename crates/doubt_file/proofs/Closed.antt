-- What was found in files that were closed again.
use Rattle.desk_types.proofs.Common.{Err, IfOk, inl, inr, Ok, Result, subst, sym, ℕ}
use Rattle.line_tables.proofs.Common.{file_state, HasCleanDisk, Held, over_files, ReadsOnly}
use Rattle.desk_file.specs.Found.{FindsAs}
use Rattle.desk_file.specs.Refused.{IsUnchangedSince}
use Rattle.sqlite.specs.Closing.{IsCopied}
use Rattle.sqlite.specs.Files.{IsOpened}
use Rattle.sqlite_disk.specs.declared.Disk as disk
use Rattle.sqlite_disk.specs.declared.Files.{Files}
use Rattle.sqlite_store.specs.declared.store.FileStore.{FileStore}
use Rattle.sqlite_wal.specs.Reads.{AreClean}
use Rattle.sqlite_wal.specs.Recovery.{Image}
use Rattle.std.specs.Global.{Global}
use Rattle.std.specs.Prelude.{Vec}
use Rattle.line_doubt.specs.declared.reason.Doubt.{Doubt}
use Rattle.line_file.specs.declared.fault.ListFault.{ListFault}
use Rattle.line_file.specs.Files.{Closes}
use Rattle.line_file.specs.Lists.{IsSound}
use Rattle.doubt_file.proofs.Found.{doubts-in, named-in}
use Rattle.doubt_file.specs.{Doubts.FindsDoubts, Files.TellsDoubts}

module _ {F : Type 0} {g : disk.Ghosts F} (image : Image) (first conn : Held (FileStore F g)) (f : Files F)
    (opened : HasCleanDisk (file_state first) → IsOpened first × FindsAs image (file_state first))
    (reads : ReadsOnly over_files first conn) (within : ℕ) where
  since : IsUnchangedSince image (λ _ _. ⊥) first conn
  since = record { opened = opened; kept = reads.kept; survives = reads.survives }

  by-doubts : (told : Result (Vec Doubt Global) ListFault)
      → IfOk told (λ found. FindsDoubts within (IsSound (file_state conn)) (file_state first) found.items)
      → (AreClean g f.log f.db → IsCopied conn f)
      → IfOk told (λ found. TellsDoubts within g image f found.items)
  by-doubts (Ok found) is copies = λ clean.
      let copied = copies clean in (
        named-in image first conn f since copied within found.items is,
        doubts-in image first conn f since copied within found.items is,
      )
  by-doubts (Err fault) is copies = tt

  pub finds-doubts : (found told : Result (Vec Doubt Global) ListFault) → Closes found conn told f
      → IfOk found (λ found. FindsDoubts within (IsSound (file_state conn)) (file_state first) found.items)
      → IfOk told (λ found. TellsDoubts within g image f found.items)
  finds-doubts found told (inl (same, copies)) is =
      by-doubts told (subst (λ r. IfOk r (λ found. FindsDoubts within (IsSound (file_state conn)) (file_state first)
      found.items)) (sym same) is) copies
  finds-doubts found told (inr (same, leaves)) is =
      subst (λ r. IfOk r (λ found. TellsDoubts within g image f found.items)) (sym same) tt
