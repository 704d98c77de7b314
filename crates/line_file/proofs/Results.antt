-- Faults of a book.
use Rattle.desk_types.proofs.Common.{◌≡◌, Err, inl, inr, IsTrue, Ok, subst, true, ℕ}
use Rattle.line_tables.proofs.Common.{Database, KeepsCommit, State}
use Rattle.line_book_store.proofs.CheckedRows.{shelf_before}
use Rattle.line_book_store.specs.Checking.{StopsAt}
use Rattle.line_book_store.specs.Names.{has_book}
use Rattle.line_book_store.specs.declared.fault.BookFault.{BookFault}
use Rattle.book_store.specs.Restored.{IsWrong}
use Rattle.line_file.specs.Lists.{IsBookFault}

pub wrong-before : (commands : ℕ) (old mid : State) (fault : BookFault) → KeepsCommit old mid
    → IsWrong commands mid fault → IsWrong commands old fault
wrong-before commands old mid fault kept (inl is) = inl is
wrong-before commands old mid fault kept (inr (n, is, reads)) =
    inr (n, is, shelf_before old mid (λ rows. StopsAt commands rows n) kept reads)

-- What a later state of the same contents shows was there before.
pub fault-before : (commands : ℕ) (old mid : State) (fault : BookFault) → KeepsCommit old mid → IsTrue mid.is_open
    → IsBookFault commands mid fault → IsBookFault commands old fault
fault-before commands old mid fault kept is_open (inl is) = inl is
fault-before commands old mid fault kept is_open (inr (inl misplaced)) =
    inr (inl (subst (λ (db : Database). has_book db.schema.tables ≡ Err fault) (kept.committed is_open) misplaced))
fault-before commands old mid fault kept is_open (inr (inr (named, wrong))) =
    inr (inr (
      subst (λ (db : Database). has_book db.schema.tables ≡ Ok true) (kept.committed is_open) named,
      wrong-before commands old mid fault kept wrong,
    ))
