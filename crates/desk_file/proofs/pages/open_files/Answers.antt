use Rattle.desk_types.proofs.Common.{◌∙◌, ◌≡◌, ap, arith, false, inl, inr, rules, subst, sym}
use Rattle.line_tables.proofs.Common.{file_state, HoldsDatabase, no_doubt}
use Rattle.desk_file.{proofs.Making.new_holds_none, specs.Found.IsNew}
use Rattle.desk_file.proofs.UnreadFiles.{left-by, left-new, only-read}
use Rattle.sqlite.{proofs.FileLemmas.same_image, specs.Files.AreFoundIn, specs.Files.image_of}
use Rattle.sqlite.{specs.Files.IsEmpty}
use Rattle.sqlite_pool.{proofs.StateLemmas.clean_is, specs.Opening.IsBlankFile, specs.Stored.used_size}
use Rattle.sqlite_store.specs.FileStore.{view as shown}
use Rattle.sqlite_trees.proofs.Doubt.{clean_of as sure}
use Rattle.sqlite_wal.specs.PageSize.{bytes_of}
use Rattle.sqlite_wal.specs.Reads.{AreClean}
use Rattle.desk_file.proofs.pages.open_files.Goals as goal

pub over-requires : goal.over-requires
over-requires g c = λ none. (c.in-Ok.ensures.made (sure _ none)).fresh

pub returns-in-Ok-over-clause-found : goal.returns-in-Ok-over-clause-found
returns-in-Ok-over-clause-found g c = λ now.
    let made = c.in-Ok.ensures.made (sure (shown c.in-Ok.store).is_clean (omega (arith, c.in-Ok-over.ensures.clean, now))) in
    let size : bytes_of c.unwrap-size.result ≡ 1024 = search rules in
    let image = image_of g.D.Disk c.args.files in
    let blank : IsBlankFile (used_size (bytes_of c.unwrap-size.result) false) image = (c.in-Ok-true.ensures.ok made.honest).0 c.in-Ok-true.field-0-test in
    let new : IsNew image = subst (λ n. IsBlankFile n image) size blank in
    let trees = sym (ap (λ d. d.trees) (c.in-Ok-over.ensures.opens now).0.clean) ∙ c.in-Ok-over.ensures.trees now in
    record { holds = λ db held. absurd (new_holds_none image db new held); reads = inr (new, subst IsEmpty (sym trees) made.empty) }

pub returns-in-Ok-open_files-clause-found : goal.returns-in-Ok-open_files-clause-found
returns-in-Ok-open_files-clause-found g c = λ now.
    let found = c.in-Ok-open_files.ensures.found now in
    let same = same_image c.in-Ok-false.ensures.log c.in-Ok-false.ensures.db in
    record {
      holds = λ db held. found.holds db (subst (λ i. HoldsDatabase i db) (sym same) held);
      reads = inl (subst (λ i. AreFoundIn i (file_state c.in-Ok-open_files.conn).committed.trees) same found.reads);
    }

pub returns-in-Err-new_store-clause-unread : goal.returns-in-Err-new_store-clause-unread
returns-in-Err-new_store-clause-unread g c =
    let image = image_of g.D.Disk c.args.files in
    let size : bytes_of c.unwrap-size.result ≡ 1024 = search rules in
    left-new g.D.Disk c.args.files c.in-Err-new_store.files (λ clean.
    let honest = c.in-Err-new_store.ensures.left clean in
    subst (λ n. IsBlankFile n image) size ((c.in-Ok-true.ensures.ok honest).0 c.in-Ok-true.field-0-test))

pub returns-in-Err-over-clause-unread : goal.returns-in-Err-over-clause-unread
returns-in-Err-over-clause-unread g c =
    let image = image_of g.D.Disk c.args.files in
    let size : bytes_of c.unwrap-size.result ≡ 1024 = search rules in
    left-new g.D.Disk c.args.files c.close.result (λ clean.
    let still = clean_is c.in-Err-over.store.pool ∙ subst (λ p. AreClean g.D.Disk p.0 p.1) c.close.ensures clean in
    let none = no_doubt _ still in
    let made = c.in-Ok.ensures.made
    (sure (shown c.in-Ok.store).is_clean (omega (arith, c.in-Err-over.ensures.unharmed.clean, none))) in
    subst (λ n. IsBlankFile n image) size ((c.in-Ok-true.ensures.ok made.honest).0 c.in-Ok-true.field-0-test))

pub returns-in-Err-open_files-clause-unread : goal.returns-in-Err-open_files-clause-unread
returns-in-Err-open_files-clause-unread g c =
    left-by c.args.files c.probe_blank.new.files c.in-Ok-false.ensures.log c.in-Ok-false.ensures.db
    c.in-Err-open_files.left c.into_files.result c.into_files.ensures c.in-Err-open_files.ensures.unharmed

pub returns-in-Err-clause-unread : goal.returns-in-Err-clause-unread
returns-in-Err-clause-unread g c =
    only-read c.args.files c.probe_blank.new.files c.probe_blank.ensures.log c.probe_blank.ensures.db
