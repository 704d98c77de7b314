use Rattle.desk_types.proofs.Common.{◌∙◌, ◌≡◌, basis, length, rules}
use Rattle.desk_laws.proofs.Common.{Two}
use Rattle.line_book.specs.Guard.{IsGuard}
use Rattle.book_store.proofs.Loading.{some_there}
use Rattle.book_store.proofs.store.BookStore.state.Goals as goal

pub returns-clause-text : goal.returns-clause-text
returns-clause-text g c L was clean own =
    let H = L.kept.history in
    let lists = c.ready.ensures.stands L was clean own in
    let guard = some_there c.ready.new.self.guard c.in-Some-guard.guard (IsGuard H L.notes) c.in-Some-guard.is
    lists.guard in
    let same : c.from-number.result ≡ c.count.result = search rules in
    let number : c.from-number.result ≡ length H = same ∙ c.count.ensures L.kept lists.both.stands in
    let board = c.board_on.ensures H L.notes guard in
    c.in_ok-state_text.ensures (basis Two H) L.notes (c.in-Some.ensures.stands L.kept lists.both.stands) guard
    (λ i. record { number = number i; board = board i })
