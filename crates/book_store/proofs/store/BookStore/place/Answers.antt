use Rattle.desk_types.proofs.Common.{◌+◌, ◌≡◌, arith, length}
use Rattle.book_store.proofs.Noting.{notes_are}
use Rattle.book_store.proofs.store.BookStore.place.Goals as goal

pub returns-in-Some : goal.returns-in-Some
returns-in-Some g c L was =
    let entries = notes_are _ L.rows L.notes c.args.self.now.reading was.read in
    let number : c.in-Some.number ≡ length L.notes + 1 = omega (arith, entries, c.in-Some.ensures) in
    let after : c.count.result ≡ length L.kept.history = c.count.ensures L.kept was.both.stands in
    λ i. record { number = number i; after = after i; carries = 0 }
