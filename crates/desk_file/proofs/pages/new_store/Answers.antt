use Rattle.desk_types.proofs.Common.{◌∙◌, ap, subst, subst₂, sym}
use Rattle.line_tables.proofs.Common.{no_doubt}
use Rattle.sqlite.proofs.OpenLemmas.{pool_files}
use Rattle.sqlite_pool.proofs.StateLemmas.{clean_is}
use Rattle.sqlite_store.specs.{Listed.catalog_rows, Listing.listed_from}
use Rattle.sqlite_wal.specs.Reads.{are_clean, AreClean}
use Rattle.desk_file.proofs.pages.new_store.Goals as goal

pub returns-in-Ok-create-clause-made : goal.returns-in-Ok-create-clause-made
returns-in-Ok-create-clause-made g c = λ clean.
    let began = c.in-Ok in
    let e = c.in-Ok-create.ensures in
    record {
      honest = sym ((pool_files began.fresh.pool).1 ∙ ap (λ f. are_clean g.D.Disk f.0 f.1) began.ensures.files) ∙ e.honest clean;
      fresh = record { sound = e.ready.sound (no_doubt _ clean); numbered = e.numbered; clean = e.ready.clean; unmarked = e.ready.unmarked };
      empty = (λ tree low. ap (λ d. d tree) e.ready.clean ∙ e.empty clean tree low, rw clean (catalog_rows _ _ _ ∙ ap (listed_from 0) (e.schema ∙ began.ensures.none)));
    }

pub returns-in-Err-clause-left : goal.returns-in-Err-clause-left
returns-in-Err-clause-left g c clean = subst₂ (AreClean g.D.Disk) c.in-Err.ensures.back.0 c.in-Err.ensures.back.1 clean

pub returns-in-Err-create-clause-left : goal.returns-in-Err-create-clause-left
returns-in-Err-create-clause-left g c clean =
    let fresh = c.in-Ok.fresh in
    let still = clean_is c.in-Err-create.left.pool ∙ subst (λ p. AreClean g.D.Disk p.0 p.1) c.close.ensures clean in
    let began = clean_is fresh.pool ∙ ap (λ f. are_clean g.D.Disk f.0 f.1) c.in-Ok.ensures.files in
    sym began ∙ c.in-Err-create.ensures.falls still
