-- The store of the history, while it is lent.
use Rattle.std.specs.Borrow.{Fml, Lends, MutBor, RattleType}
use Rattle.sqlite_trees.specs.declared.store.Store.{Ghosts}
use Rattle.line_schema.specs.contracts.store.LineStore.{the_row as history_row}
use Rattle.line_schema.specs.declared.store.LineStore.{LineStore}
use Rattle.book_store.specs.contracts.store.BookStore.{the_row}
use Rattle.book_store.specs.declared.store.BookStore.{BookStore}

-- The same store, but for the history.
abbrev pub with_store : {S D : Type 0} → BookStore S D → LineStore S D → BookStore S D
with_store book store = record book { store = store }

-- The store ends with the history as it is when the loan ends.
abbrev pub LendsHistory : (S D : RattleType) → Ghosts S.Denot
    → MutBor (BookStore S.Denot D.Denot) → MutBor (LineStore S.Denot D.Denot) → Fml
LendsHistory S D g book lent =
    Lends (the_row S D g) (history_row S D g) book lent (with_store book.now)
