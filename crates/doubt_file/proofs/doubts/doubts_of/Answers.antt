use Rattle.desk_types.proofs.Common.{[], ◌∙◌, ◌≡◌, ap, arith, false, IfOk-weaker, inl, inr, IsTrue, length, Ok, refl}
use Rattle.desk_types.proofs.Common.{subst, sym, true}
use Rattle.line_tables.proofs.Common.{HasCleanDisk}
use Rattle.line_book.specs.Rows.{first_reading}
use Rattle.line_book_store.specs.Names.{has_book}
use Rattle.line_doubt.specs.Reasons.{AreExplained}
use Rattle.line_file.specs.Lists.{IsSound}
use Rattle.line_schema.specs.Stands.{state_of}
use Rattle.book_store.proofs.Finding.{alone_there, shelf_there}
use Rattle.doubt_file.proofs.Results.{ok-if}
use Rattle.doubt_file.proofs.doubts.doubts_of.Goals as goal

pub returns-then-not-has-clause-ok : goal.returns-then-not-has-clause-ok
returns-then-not-has-clause-ok g c L stands =
    let old = state_of g.S.Store c.args.store.now in
    let Sound = IsSound (state_of g.S.Store c.doubts_with.new.store) in
    let named : Sound → has_book old.committed.schema.tables ≡ Ok false = λ sound.
    let was : IsTrue old.is_open = (c.doubts_with.ensures.reads.reads.kept sound.0).was_open sound.1 in
    sym (c.has_book.ensures.committed L stands was) ∙ c.in-Ok.is ∙ ap Ok c.if-not-has.true in
    IfOk-weaker c.doubts_with.result _ _
    (λ found explained. record {
      rows = [];
      notes = [];
      read = (first_reading (length L.history), refl);
      named = λ sound. (false, named sound);
      book = λ sound place. inr (alone_there old.committed place (named sound), refl);
      explained = λ sound own. explained (sound, own);
    })
    (ok-if c.doubts_with.result (Sound × IsTrue L.own) _ (λ h. c.doubts_with.ensures.doubts L stands h.0.0 h.1))

pub returns-clause-ok : goal.returns-clause-ok
returns-clause-ok g c L stands =
    let old = state_of g.S.Store c.args.store.now in
    let mid = state_of g.S.Store c.entries_of.new.store in
    let new = state_of g.S.Store c.doubts_with-2.new.store in
    let early : HasCleanDisk new → HasCleanDisk mid = λ clean. omega
    (arith, c.doubts_with-2.ensures.reads.reads.survives.clean, clean) in
    let was = c.in_ok-book.ensures.ok L stands in
    let named : IsSound new → has_book old.committed.schema.tables ≡ Ok true = λ sound.
    let then : IsTrue mid.is_open = (c.doubts_with-2.ensures.reads.reads.kept sound.0).was_open sound.1 in
    let first : IsTrue old.is_open = (c.entries_of.ensures.reads.reads.kept (early sound.0)).was_open then in
    sym (c.has_book.ensures.committed L stands first) ∙ c.in-Ok.is ∙ ap Ok c.if-not-has.false in
    let here = c.entries_of.ensures.reads.stands L stands in
    IfOk-weaker c.doubts_with-2.result _ _
    (λ found explained. record {
      rows = was.rows;
      notes = c.in_ok-book.book.items;
      read = was.read;
      named = λ sound. (true, named sound);
      book = λ sound place.
          let shelf = shelf_there old.committed place (named sound) in
          inl ((was.all (early sound.0)).holds shelf.0 shelf.1);
      explained = λ sound own. subst (λ notes. AreExplained L.history notes c.args.within found.items)
          c.deref.ensures.value (explained (sound, own));
    })
    (ok-if c.doubts_with-2.result (IsSound new × IsTrue L.own) _
    (λ h. c.doubts_with-2.ensures.doubts L here h.0.0 h.1))
