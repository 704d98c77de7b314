use Rattle.desk_types.proofs.Common.{◌≡◌, ap, length}
use Rattle.line_book.specs.Guard.{IsGuard}
use Rattle.book_store.proofs.{Loading.some_there, Noting.notes_are}
use Rattle.book_store.proofs.store.BookStore.counts.Goals as goal

pub returns : goal.returns
returns g c L stands =
    let H = L.kept.history in
    let guard = some_there c.args.self.now.guard c.in-Some.guard (IsGuard H L.notes) c.in-Some.is stands.guard in
    let commands : c.count.result ≡ length H = c.count.ensures L.kept stands.both.stands in
    let entries : c.args.self.now.reading.entries ≡ length L.notes
    = notes_are _ L.rows L.notes c.args.self.now.reading stands.read in
    let opened = ap length (c.open_notes.ensures H L.notes guard) in
    let waiting = ap length (c.undecided.ensures H L.notes guard) in
    λ i. record { commands = commands i; entries = entries i; open_entries = opened i; undecided = waiting i }
