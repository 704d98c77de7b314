use Rattle.desk_types.proofs.Common.{[], ◌++◌, ◌∷◌, ◌≡◌, arith, inl, err_from_is_err_and, inr, length, refl, subst, sym}
use Rattle.line_book.specs.Rows.{first_reading}
use Rattle.line_schema.specs.Book.{disowned}
use Rattle.line_book_store.specs.Checking.{AreRead}
use Rattle.book_store.proofs.Cleaning.{clean_still}
use Rattle.book_store.proofs.Ending.{ends_told}
use Rattle.book_store.proofs.Noting.{next_note, next_row, one_more, row_follows}
use Rattle.book_store.specs.Accepted.{RefusesRow}
use Rattle.book_store.specs.Ended.{with_note}
use Rattle.book_store.proofs.store.BookStore.note.Goals as goal

pub returns-clause-noted : goal.returns-clause-noted
returns-clause-noted g c L was clean own =
    let row = c.args.row.now in
    let n = c.in_ok-entry.entry in
    let is = c.in_ok-entry.ensures.read.0 in
    let next = next_row _ L.rows L.notes c.args.self.now.reading was.read row n is in
    let placed : n.after ≡ length L.kept.history = omega
    (arith, c.in_ok-entry.ensures.placed, c.count.ensures L.kept was.both.stands) in
    record {
      ok = (
        with_note L row n,
        (n, is, refl),
        record {
          both = c.in_ok-note.ensures.ok L.kept L.rows was.both next;
          read = subst (λ r. AreRead (first_reading (length L.kept.history)) (L.rows ++ row ∷ [])
              (L.notes ++ n ∷ []) r) (sym c.in_ok-entry.ensures.read.1)
              (one_more _ L.rows L.notes c.args.self.now.reading was.read row n is);
          guard = c.take_in.ensures L.kept.history L.notes was.guard
              (next_note _ L.rows L.notes c.args.self.now.reading was.read L.kept.history row n is placed);
        },
        λ trees may. inl (c.in_ok-note.ensures.alone L.kept L.rows was.both next own clean trees may),
      );
      err = tt;
      crash = λ trees may. elim ((c.note.ensures.crash L.kept L.rows was.both next own).crash clean trees may)
          [ inl before ↦ inl before | inr left ↦ inr (tt, with_note L row n, (n, is, refl), left) ];
    }

pub returns-in_err-note-clause-noted : goal.returns-in_err-note-clause-noted
returns-in_err-note-clause-noted g c L was clean own =
    let row = c.args.row.now in
    let n = c.in_ok-entry.entry in
    let is = c.in_ok-entry.ensures.read.0 in
    let next = next_row _ L.rows L.notes c.args.self.now.reading was.read row n is in
    let told = err_from_is_err_and c.from_residual-in_err-note.result c.from_residual-in_err-note.ensures.1 in
    ends_told g.S.Store g.D.Desk.Stands c.args.self.now (record c.args.self.now { store = c.note.new.self }) L _
    told.0 told.1 _ (record {
      ok = tt;
      err = record { both = c.in_err-note.ensures.err L.kept L.rows was.both; read = was.read; guard = was.guard };
      crash = λ trees may. elim ((c.note.ensures.crash L.kept L.rows was.both next own).crash clean trees may)
          [ inl before ↦ inl before | inr left ↦ inr (tt, with_note L row n, (n, is, refl), left) ];
    })

pub returns-in_err-entry-clause-refused : goal.returns-in_err-entry-clause-refused
returns-in_err-entry-clause-refused g c L stands =
    let before = c.args.self.now.reading in
    let row = c.args.row.now in
    let told = err_from_is_err_and c.from_residual.result c.from_residual.ensures.1 in
    let fault = c.in_err-entry.field-0.0 in
    rw (told.1, told.2) (subst (λ k. RefusesRow before k row fault) (c.count.ensures L stands)
    c.in_err-entry.ensures.err)

pub returns-in_err-note-clause-refused : goal.returns-in_err-note-clause-refused
returns-in_err-note-clause-refused g c L stands =
    let told = err_from_is_err_and c.from_residual-in_err-note.result c.from_residual-in_err-note.ensures.1 in
    rw (told.1, told.2) tt

pub returns-clause-clean : goal.returns-clause-clean
returns-clause-clean g c clean =
    clean_still g.S.Store g.D.Desk.Stands c.args.self.now.store c.note.new.self _ (c.args.row.now ∷ []) (
      (row_follows c.args.self.now.reading c.args.row.now c.in_ok-entry.entry c.in_ok-entry.ensures.read.0).0,
      tt,
    ) (λ L rows was on own. (_, c.note.ensures.crash L rows was on.0 own)) c.requires.serves.0
    c.requires.serves.1 clean

pub returns-in_err-note-clause-clean : goal.returns-in_err-note-clause-clean
returns-in_err-note-clause-clean g c clean =
    clean_still g.S.Store g.D.Desk.Stands c.args.self.now.store c.note.new.self _ (c.args.row.now ∷ []) (
      (row_follows c.args.self.now.reading c.args.row.now c.in_ok-entry.entry c.in_ok-entry.ensures.read.0).0,
      tt,
    ) (λ L rows was on own. (_, c.note.ensures.crash L rows was on.0 own)) c.requires.serves.0
    c.requires.serves.1 clean

pub returns-in_err-note-clause-serves : goal.returns-in_err-note-clause-serves
returns-in_err-note-clause-serves g c = (
  disowned c.requires.serves.0,
  c.note.ensures.kept c.requires.serves.0
      c.requires.serves.1,
)

pub returns-clause-serves : goal.returns-clause-serves
returns-clause-serves g c = (disowned c.requires.serves.0, c.note.ensures.kept c.requires.serves.0 c.requires.serves.1)
