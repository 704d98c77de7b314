-- The pieces in doubt by the lists in files, by their contents at the opening.
use Rattle.desk_types.proofs.Common.{◌∙◌, List, ℕ}
use Rattle.line_tables.proofs.Common.{Database, file_state, Held}
use Rattle.desk_file.specs.Refused.{IsUnchangedSince}
use Rattle.sqlite.specs.Closing.{IsCopied}
use Rattle.sqlite_disk.specs.declared.Disk as disk
use Rattle.sqlite_disk.specs.declared.Files.{Files}
use Rattle.sqlite_store.specs.declared.store.FileStore.{FileStore}
use Rattle.sqlite_wal.specs.Recovery.{Image}
use Rattle.line_doubt.specs.declared.reason.Doubt.{Doubt}
use Rattle.line_file.proofs.Found.{named-ours, ours-there, sound, there}
use Rattle.line_file.specs.Files.{HasListsFirst, IsNamedIn}
use Rattle.line_file.specs.Lists.{IsSound}
use Rattle.doubt_file.specs.{Doubts.FindsDoubts, Files.AreDoubtsIn}

module _ {F : Type 0} {g : disk.Ghosts F} (image : Image) (first conn : Held (FileStore F g)) (f : Files F)
    (since : IsUnchangedSince image (λ _ _. ⊥) first conn) (copied : IsCopied conn f) (within : ℕ)
    (found : List Doubt) (finds : FindsDoubts within (IsSound (file_state conn)) (file_state first) found) where
  abbrev db : Database
  db = (file_state first).committed

  pub named-in : IsNamedIn image
  named-in =
      (db, there image first conn f since copied, finds.is.named (sound image first conn f since copied))

  pub doubts-in : HasListsFirst image → AreDoubtsIn within image found
  doubts-in place =
      let opened = there image first conn f since copied in
      let fine = sound image first conn f since copied in
      let here = place db opened in
      record {
        db = db;
        opened = opened;
        greatest = finds.L.greatest;
        history = finds.L.history;
        rows = finds.is.rows;
        notes = finds.is.notes;
        lists = record {
          tables = (finds.tables fine).are (ours-there db here);
          book = finds.is.book fine here;
          read = finds.is.read;
        };
        explained = finds.is.explained fine (finds.own ∙ named-ours db here);
      }
