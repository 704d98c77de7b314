-- Files in which no database could be opened.
use Rattle.desk_types.proofs.Common.{◌≡◌, ◌∙◌, inl, inr, refl, subst, sym}
use Rattle.desk_file.specs.Found.{IsNew}
use Rattle.desk_file.specs.Unread.{IsUnread}
use Rattle.sqlite.proofs.FileLemmas.{same_image}
use Rattle.sqlite.specs.{Closing.files_left, Files.BeginsWell, Files.image_of, Files.IsCleanLeft}
use Rattle.sqlite.specs.{Files.IsNothing, Files.LeavesFiles, Files.NamesSize, Files.SaysSums}
use Rattle.sqlite.specs.{Files.AreFoundIn, Files.HoldsDatabase}
use Rattle.sqlite.specs.declared.file.Leftover.{Leftover}
use Rattle.sqlite.specs.declared.file.Leftover.TheVariants as left
use Rattle.sqlite_disk.specs.declared.Files.{Files}
use Rattle.sqlite_pool.proofs.StateLemmas.{clean_is}
use Rattle.sqlite_pool.specs.Stored.{IsUnreadable, StandsAs, stored_size}
use Rattle.sqlite_store.specs.Unopened.{state_of}
use Rattle.sqlite_wal.specs.{Files.outcomes, Reads.AreClean, Reads.OnlyReads, Recovery.Image}
use Rattle.sqlite_disk.specs.declared.Disk as disk

clean-left : {D : Type 0} {g : disk.Ghosts D} (rest : Leftover D g)
    → AreClean g (files_left rest).0 (files_left rest).1 → IsCleanLeft rest
clean-left (left.Files files) clean = clean
clean-left (left.Unopened it) clean = clean_is it.pool ∙ clean
clean-left (left.Store it) clean = clean_is it.pool ∙ clean

-- What is left of files that were only read first.
module _ {D : Type 0} {g : disk.Ghosts D} (first read : Files D) (log : OnlyReads g first.log read.log)
    (db : OnlyReads g first.db read.db) where
  same : image_of g read ≡ image_of g first
  same = same_image log db

  back : (image : Image) → outcomes g read.log read.db image → outcomes g first.log first.db image
  back image out = (log.crash image.log out.0, db.crash image.db out.1)

  leaves : (rest : Leftover D g) → LeavesFiles read rest → LeavesFiles first rest
  leaves (left.Files now) left = λ image out. back image (left image out)
  leaves (left.Unopened now) (inl (nothing, way)) = inl (
    subst IsNothing same nothing,
    λ image may. elim (way image may) [
      | inl out ↦ inl (back image out)
      | inr made ↦ inr made
    ],
  )
  leaves (left.Unopened now) (inr (some, names, begins, sums, kept)) = inr (
    λ none. some (subst IsNothing (sym same) none),
    subst (λ i. NamesSize i (stored_size (state_of now).page_size)) same names,
    subst (BeginsWell (stored_size (state_of now).page_size)) same begins,
    λ summed. subst (SaysSums (stored_size (state_of now).page_size)) same (sums summed),
    λ image may.
        let it = kept image may in
        record {
          same = elim it.same [
            | inl out ↦ inl (back image out)
            | inr stands ↦ inr (subst (λ i. StandsAs (state_of now).page_size i image) same stands)
          ];
          unread = λ none. back image (it.unread (subst (IsUnreadable (state_of now).page_size) (sym same) none));
          something = λ not. it.something (λ out. not (back image out));
        },
  )
  leaves (left.Store it) left = λ trees may.
      let found = left trees may in (
        subst (λ i. AreFoundIn i trees) same found.0,
        λ held holds. found.1 held (subst (λ i. HoldsDatabase i held) (sym same) holds),
      )

  pub only-read : IsUnread g first read
  only-read = record { rest = left.Files read; files = refl; unharmed = λ _. inr back }

  pub left-by : (rest : Leftover D g) (last : Files D) → (last.log, last.db) ≡ files_left rest
      → (IsCleanLeft rest → LeavesFiles read rest) → IsUnread g first last
  left-by rest last is unharmed = record {
    rest = rest;
    files = is;
    unharmed = λ clean.
        inr (leaves rest (unharmed (clean-left rest (subst (λ p. AreClean g p.0 p.1) is clean))));
  }

-- Files in which no database had been made.
pub left-new : {D : Type 0} (g : disk.Ghosts D) (first last : Files D)
    → (AreClean g last.log last.db → IsNew (image_of g first)) → IsUnread g first last
left-new g first last new = record { rest = left.Files last; files = refl; unharmed = λ clean. inl (new clean) }

pub untouched : {D : Type 0} (g : disk.Ghosts D) (files : Files D) → IsUnread g files files
untouched g files = record { rest = left.Files files; files = refl; unharmed = λ _. inr (λ _ out. out) }
