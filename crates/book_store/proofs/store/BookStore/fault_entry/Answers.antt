use Rattle.desk_types.proofs.Common.{◌∙◌, ap, sym}
use Rattle.line_book.specs.declared.note.Matter.{Matter}
use Rattle.line_entries.specs.declared.entry.Place.{Place}
use Rattle.line_entries.specs.{Rows.note_at, Told.told_text, Unread.faulty}
use Rattle.book_store.proofs.Entering.{none_is, some_is}
use Rattle.book_store.specs.Noted.{place_in}
use Rattle.book_store.proofs.store.BookStore.fault_entry.Goals as goal

pub returns-in_default : goal.returns-in_default
returns-in_default g c L was = none_is (faulty c.args.told.now c.args.fault.now) (λ (m : Matter). note_at (place_in L) m
    (told_text c.args.told.now)) (sym c.in_ok-matter.ensures ∙ c.in_default.is)

pub returns : goal.returns
returns g c L was =
    let told = c.args.told.now in
    let m = c.in-Some.matter in
    some_is (faulty told c.args.fault.now) (λ (m : Matter). note_at (place_in L) m (told_text told)) m
    c.in_ok-fault_note.field-0 (sym c.in_ok-matter.ensures ∙ c.in-Some.is)
    (c.in_ok-fault_note.ensures.note ∙ ap (λ (p : Place). note_at p m (told_text told)) (c.in_ok-place.ensures L was))
