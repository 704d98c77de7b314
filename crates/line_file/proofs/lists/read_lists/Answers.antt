use Rattle.desk_types.proofs.Common.{[], ◌∙◌, ◌≡◌, ap, err_from_is_err_and, false, IfOk-weaker, inl, inr, IsTrue, length, Ok, refl, sym, true}
use Rattle.line_book_store.specs.Names.{has_book}
use Rattle.line_schema.specs.Stands.{state_of}
use Rattle.book_store.proofs.Finding.{alone_there, err_weaker, shelf_there}
use Rattle.book_store.proofs.InTurn.{store_same}
use Rattle.line_file.proofs.Windows.{none_told}
use Rattle.line_file.specs.Lists.{IsSound}
use Rattle.line_file.proofs.lists.read_lists.Goals as goal

pub returns-in-Err-clause-err : goal.returns-in-Err-clause-err
returns-in-Err-clause-err g c L stands sound =
    inr (inl (sym (c.has_book.ensures.committed L stands sound.1) ∙ c.in-Err.is))

pub returns-in-Err-clause-reads : goal.returns-in-Err-clause-reads
returns-in-Err-clause-reads g c = store_same g.S.Store g.D.Desk.Stands c.args.store.now

pub returns-then-has-clause-ok : goal.returns-then-has-clause-ok
returns-then-has-clause-ok g c L stands =
    let old = state_of g.S.Store c.args.store.now in
    let named : IsTrue old.is_open → has_book old.committed.schema.tables ≡ Ok true = λ was.
    sym (c.has_book.ensures.committed L stands was) ∙ c.in-Ok.is ∙ ap Ok c.if-has.true in
    IfOk-weaker c.read_book.result _ _
    (λ found both.
    let is = both.is in record {
      rows = is.rows;
      notes = is.notes;
      read = is.read;
      named = λ sound. (true, named ((c.read_book.ensures.reads.reads.kept sound.0).was_open sound.1));
      book = λ sound place.
          let all = is.all sound.0 in
          let shelf = shelf_there old.committed place (named all.was_open) in
          inl (all.holds shelf.0 shelf.1);
      guard = λ sound. is.guard sound.0;
      told = λ sound own place.
          let was = (is.all sound.0).was_open in
          both.told sound.0 own was (shelf_there old.committed place (named was));
    })
    (c.read_book.ensures.ok L stands)

pub returns-then-has-clause-err : goal.returns-then-has-clause-err
returns-then-has-clause-err g c L stands sound =
    let old = state_of g.S.Store c.args.store.now in
    let was : IsTrue old.is_open = (c.read_book.ensures.reads.reads.kept sound.0).was_open sound.1 in
    err_weaker c.read_book.result _ _
    (λ fault is. inr (inr (sym (c.has_book.ensures.committed L stands was) ∙ c.in-Ok.is ∙ ap Ok c.if-has.true, is)))
    (c.read_book.ensures.err L stands sound.0)

pub returns-clause-ok : goal.returns-clause-ok
returns-clause-ok g c L stands =
    let old = state_of g.S.Store c.args.store.now in
    let Sound = IsSound (state_of g.S.Store c.read_history.new.store) in
    let named : Sound → has_book old.committed.schema.tables ≡ Ok false = λ sound.
    let was : IsTrue old.is_open = (c.read_history.ensures.reads.reads.kept sound.0).was_open sound.1 in
    sym (c.has_book.ensures.committed L stands was) ∙ c.in-Ok.is ∙ ap Ok c.if-has.false in
    let is = c.in_ok-lists.ensures.ok L stands in record {
      rows = [];
      notes = [];
      read = is.0;
      named = λ sound. (false, named sound);
      book = λ sound place. inr (alone_there old.committed place (named sound), refl);
      guard = is.1;
      told = λ sound own place. none_told c.args.with_rows c.new.result.items c.new.ensures.items;
    }

pub returns-in_err-lists-clause-err : goal.returns-in_err-lists-clause-err
returns-in_err-lists-clause-err g c L stands sound =
    let told = err_from_is_err_and c.from_residual.result c.from_residual.ensures.1 in
    rw (told.1, told.2) (inl c.in_err-lists.ensures.err)
