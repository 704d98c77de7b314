use Rattle.desk_types.proofs.Common.{[], ◌∙◌, ◌≡◌, ap, err_from_is_err_and, sym, true}
use Rattle.line_entries.specs.declared.entry.Place.{Place}
use Rattle.line_entries.specs.Rows.{note_at}
use Rattle.book_store.proofs.Ending.{ends_err, ends_failed, ends_ok, ends_told, failed_by}
use Rattle.book_store.proofs.Entering.{no_message, said_next, says_entry}
use Rattle.book_store.specs.Noted.{place_in}
use Rattle.book_store.specs.Said.{may_say, Says}
use Rattle.book_store.proofs.store.BookStore.say.Goals as goal

pub returns-in_err-place-clause-said : goal.returns-in_err-place-clause-said
returns-in_err-place-clause-said g c L was clean own =
    let failed = err_from_is_err_and c.from_residual.result c.from_residual.ensures.1 in
    failed_by g.S.Store g.D.Desk.Stands c.args.self.now c.args.self.now L _ failed.0 failed.1 _ (λ trees may. may) was

pub returns-then-not-may_say-clause-said : goal.returns-then-not-may_say-clause-said
returns-then-not-may_say-clause-said g c L was clean own = ends_failed g.S.Store g.D.Desk.Stands c.args.self.now
    c.args.self.now L _ _ (λ trees may. may) was

pub returns-in_err-write-clause-said : goal.returns-in_err-write-clause-said
returns-in_err-write-clause-said g c L was clean own =
    let m = c.args.matter in
    let told = c.args.told.now in
    let there : c.in_ok-place.place ≡ place_in L = c.in_ok-place.ensures L was in
    let may : may_say m (place_in L).number ≡ true = ap (λ (p : Place). may_say m p.number) (sym there)
    ∙ sym c.may_say.ensures ∙ c.if-not-may_say.false in
    let same = c.plain_note-entry.ensures.note ∙ ap (λ (p : Place). note_at p m []) there in
    let next = said_next L told m c.plain_note-entry.result may same
    (c.plain_note-entry.ensures.told (no_message m _ may) told) in
    let failed = err_from_is_err_and c.from_residual-in_err-write.result c.from_residual-in_err-write.ensures.1 in
    ends_told g.S.Store g.D.Desk.Stands c.args.self.now _ L _ failed.0 failed.1 _
    (ends_err g.S.Store g.D.Desk.Stands c.args.self.now _ L _ failed.0 _ (Says L m told)
    (λ x M adds. (
      c.in_ok-place.place.number,
      says_entry L M m told c.in_ok-place.place c.plain_note-entry.result there
          same adds,
    )) (c.in_err-write.ensures.written L was clean own next))

pub returns-clause-said : goal.returns-clause-said
returns-clause-said g c L was clean own =
    let m = c.args.matter in
    let told = c.args.told.now in
    let there : c.in_ok-place.place ≡ place_in L = c.in_ok-place.ensures L was in
    let may : may_say m (place_in L).number ≡ true = ap (λ (p : Place). may_say m p.number) (sym there)
    ∙ sym c.may_say.ensures ∙ c.if-not-may_say.false in
    let same = c.plain_note-entry.ensures.note ∙ ap (λ (p : Place). note_at p m []) there in
    let next = said_next L told m c.plain_note-entry.result may same
    (c.plain_note-entry.ensures.told (no_message m _ may) told) in
    ends_ok g.S.Store g.D.Desk.Stands c.args.self.now _ L _ _ _ (Says L m told)
    (λ x M adds. says_entry L M m told c.in_ok-place.place c.plain_note-entry.result there same adds)
    (c.in_ok-write.ensures.written L was clean own next)
