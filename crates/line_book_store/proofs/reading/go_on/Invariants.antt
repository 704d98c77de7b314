use Rattle.desk_types.proofs.Common.{◌+◌, ◌≡◌, take}
use Rattle.line_book_store.specs.Book.{GoOn}
use Rattle.line_book_store.proofs.reading.go_on.Given as goal

abbrev pub invariant-loop-entry : goal.invariant-loop-entry
invariant-loop-entry l = record { on : GoOn l.number (take l.entry-index l.entries); last : l.last ≡ l.number + l.entry-index }
