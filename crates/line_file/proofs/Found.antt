-- The line or the fault of files, by their contents at the opening.
use Rattle.desk_types.proofs.Common.{◌∙◌, ◌≡◌, ap, arith, Basis, Bool, Err, IfErr, IfOk, inl, inr, length, Ok, Result, subst, sym, true, ℕ}
use Rattle.line_tables.proofs.Common.{Database, file_state, HasCleanDisk, Held, is_ours, IsOurs, Two}
use Rattle.desk_file.proofs.RefusedFiles.{fault_in}
use Rattle.desk_file.specs.Files.{IsFoundIn}
use Rattle.desk_file.specs.Refused.{IsUnchangedSince}
use Rattle.line_tables.proofs.Ours.{is_ours_of}
use Rattle.line_book_store.specs.Book.{layout_of}
use Rattle.line_book_store.specs.declared.fault.BookFault.{BookFault}
use Rattle.line_schema.specs.declared.fault.OpenFault.{OpenFault}
use Rattle.book_store.proofs.Finding.{shelf_there}
use Rattle.book_store.specs.Opened.{HasPlace}
use Rattle.sqlite.specs.Closing.{IsCopied}
use Rattle.sqlite_disk.specs.declared.Disk as disk
use Rattle.sqlite_disk.specs.declared.Files.{Files}
use Rattle.sqlite_store.specs.declared.store.FileStore.{FileStore}
use Rattle.sqlite_wal.specs.Recovery.{Image}
use Rattle.line_tables.specs.Line.{alone as only-ours}
use Rattle.line_file.specs.declared.fault.ListFault.{ListFault}
use Rattle.line_file.specs.declared.fault.ListFault.TheVariants.{History as AtHistory, Book as AtBook}
use Rattle.line_file.specs.declared.store.Line.{Line}
use Rattle.line_file.specs.Files.{HasListsFirst, IsFaultOf, IsLineIn, IsNamedIn}
use Rattle.line_book.specs.Rows.{first_reading}
use Rattle.line_book_store.proofs.ReadEntries.{read-count}
use Rattle.line_file.specs.Lines.{ReadsFault, ReadsLine}
use Rattle.line_file.specs.Lists.{IsBookFault, IsSound}
use Rattle.line_file.proofs.Kept.{found-first}

-- The file has the desk's tables, and nothing before them.
pub ours-there : (db : Database) → HasPlace db → IsOurs db.schema
ours-there db (inl shelf) = record { rules = Two; layout = layout_of shelf.0; same = shelf.1 }
ours-there db (inr only) = record { rules = Two; layout = only-ours only.0; same = only.1 }

pub named-ours : (db : Database) → HasPlace db → is_ours db.schema ≡ true
named-ours db (inl shelf) = is_ours_of db.schema (layout_of shelf.0) shelf.1
named-ours db (inr only) = is_ours_of db.schema (only-ours only.0) only.1

module _ {F : Type 0} {g : disk.Ghosts F} (image : Image) (first conn : Held (FileStore F g)) (f : Files F)
    (since : IsUnchangedSince image (λ _ _. ⊥) first conn) (copied : IsCopied conn f) where
  abbrev db : Database
  db = (file_state first).committed

  pub sound : IsSound (file_state conn)
  sound = (copied.was_clean, copied.was_open)

  pub there : IsFoundIn image db
  there = found-first image first conn f since copied.was_clean

  pub named-in : {D : Type 0} (StandsFor : D → Basis → Type 0) (with_rows : Bool) (line : Line D)
      → ReadsLine StandsFor with_rows (IsSound (file_state conn)) (file_state first) line → IsNamedIn image
  named-in StandsFor with_rows line reads = (db, there, reads.is.lists.named sound)

  pub line-in : HasListsFirst image → {D : Type 0} (StandsFor : D → Basis → Type 0) (with_rows : Bool) (line : Line D)
      → ReadsLine StandsFor with_rows (IsSound (file_state conn)) (file_state first) line
      → IsLineIn StandsFor with_rows image line
  line-in place StandsFor with_rows line reads =
      let here = place db there in
      let own = reads.own ∙ named-ours db here in
      let lists = reads.is.lists in
      let many = read-count (first_reading (length reads.L.history)) line.lists.reading lists.rows lists.notes
      lists.read in
      record {
        db = db;
        found = there;
        greatest = reads.L.greatest;
        history = reads.L.history;
        rows = lists.rows;
        notes = lists.notes;
        lists = record {
          tables = (reads.tables sound).are (ours-there db here);
          book = lists.book sound here;
          read = (line.lists.reading, lists.read);
        };
        desk = reads.is.desk;
        guard = lists.guard sound own;
        count = reads.is.count;
        entries = omega (arith, many.0, many.1);
        told = lists.told sound own here;
      }

  pub fault-of : HasListsFirst image → (fault : ListFault) → ReadsFault (file_state first) fault
      → IsFaultOf image fault
  fault-of place (AtHistory fault) is =
      inr (fault_in image first conn (λ _ _. ⊥) (λ clean. (since.opened clean).0) (λ clean. (since.opened clean).1)
      since.kept since.survives Two fault (λ _. is.0) is.1 copied.was_clean)
  fault-of place (AtBook fault) (L, reads, is) = book-fault is
    where
      book-fault : IsBookFault (length L.history) (file_state first) fault → IsFaultOf image (AtBook fault)
      book-fault (inl none) = inl none
      book-fault (inr (inl misplaced)) = inr (db, there, inl misplaced)
      book-fault (inr (inr (named, inl none))) = inl none
      book-fault (inr (inr (named, inr (n, wrong, stops)))) =
          let here = place db there in
          let shelf = shelf_there db here named in
          inr (
            db,
            there,
            inr (
              n,
              wrong,
              record {
                greatest = L.greatest;
                history = L.history;
                tables = reads.are (ours-there db here);
                shelf = shelf.0;
                named = shelf.1;
                stops = stops.are shelf.0 shelf.1;
              },
            ),
          )
