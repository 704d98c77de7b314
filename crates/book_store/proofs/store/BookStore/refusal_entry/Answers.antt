use Rattle.desk_types.proofs.Common.{◌∙◌, ap, basis, stored_text, sym}
use Rattle.desk_laws.proofs.Common.{Two}
use Rattle.line_book.specs.declared.note.Matter.{Matter}
use Rattle.line_entries.specs.declared.entry.Place.{Place}
use Rattle.line_entries.specs.{Refusal.refused, Rows.note_at}
use Rattle.book_store.proofs.Entering.{none_is, some_is}
use Rattle.book_store.specs.Noted.{place_in}
use Rattle.book_store.proofs.store.BookStore.refusal_entry.Goals as goal

pub returns-in_default-2-clause-entry : goal.returns-in_default-2-clause-entry
returns-in_default-2-clause-entry g c L was clean own =
    let s = c.args.stamped.now in
    let H = L.kept.history in
    let lists = c.ready.ensures.stands L was clean own in
    let made = c.in_ok-matter.ensures (basis Two H) (c.in-Some.ensures.stands L.kept lists.both.stands) in
    none_is (refused H s.command c.args.answer.now) (λ (m : Matter). note_at (place_in L) m (stored_text s.command))
    (sym made ∙ c.in_default-2.is)

pub returns-clause-entry : goal.returns-clause-entry
returns-clause-entry g c L was clean own =
    let s = c.args.stamped.now in
    let H = L.kept.history in
    let lists = c.ready.ensures.stands L was clean own in
    let made = c.in_ok-matter.ensures (basis Two H) (c.in-Some.ensures.stands L.kept lists.both.stands) in
    let m = c.in-Some-2.matter in
    some_is (refused H s.command c.args.answer.now) (λ (m : Matter). note_at (place_in L) m (stored_text s.command)) m
    c.in_ok-refusal_note.field-0 (sym made ∙ c.in-Some-2.is)
    (c.in_ok-refusal_note.ensures.note
    ∙ ap (λ (p : Place). note_at p m (stored_text s.command)) (c.in_ok-place.ensures L lists))
