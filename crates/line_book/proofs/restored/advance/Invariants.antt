use Rattle.desk_types.proofs.Common.{take}
use Rattle.line_book.specs.Book.{Book}
use Rattle.line_book.specs.Guard.{IsGuard}
use Rattle.line_book.specs.Restored.{history_of}
use Rattle.line_book.proofs.restored.advance.Given as goal

-- The commands so far are taken in.
abbrev pub invariant-loop-i : goal.invariant-loop-i
invariant-loop-i l = (B : Book) → IsGuard (history_of (take l.fn.from l.fn.commands)) B l.fn.guard
    → IsGuard (history_of (take l.i l.fn.commands)) B l.guard
