use Rattle.desk_types.proofs.Common.{◌∙◌, ◌≡◌, ap, IfOk-weaker, List, Name, tape_of}
use Rattle.line_book.specs.Guard.{IsGuard, tape_at}
use Rattle.line_members.specs.{Accepted.accepted, Comparison.Tapes}
use Rattle.book_store.proofs.{AddingFindings.rows_as, Loading.some_there}
use Rattle.book_store.specs.Noted.{sender_of}
use Rattle.book_store.proofs.store.BookStore.finding_rows.Goals as goal

pub returns : goal.returns
returns g c L stands =
    let H = L.kept.history in
    let told = c.args.told.now in
    let change = c.args.change.now in
    let guard = c.in-Some.guard in
    let is = some_there c.args.self.now.guard guard (IsGuard H L.notes) c.in-Some.is stands.guard in
    let tapes : tape_at guard.tapes ≡ tape_of H = λ i machine slot. is.tapes machine slot i in
    let found = c.as_slice.ensures.value ∙ c.in_ok-found.ensures
    ∙ ap (λ (tapes : Tapes). accepted told tapes change) tapes in
    let sender = c.sender_of-sender.ensures ∙ ap sender_of c.stamped.ensures in
    IfOk-weaker c.rows_of.result _ _
    (λ rows are. rows_as _ _ _ _ _ _ rows.items (c.in_ok-place.ensures L stands) found sender are) c.rows_of.ensures
