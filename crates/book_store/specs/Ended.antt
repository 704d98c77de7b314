-- What a call leaves of both lists.
use Rattle.std.specs.Prelude.{◌≡◌, ◌⊎◌, ◌++◌, ◌∷◌, [], IfOk, OnErr, Result}
use Rattle.sqlite_trees.specs.declared.store.Store.{Ghosts}
use Rattle.sqlite_trees.specs.Tree.{Trees}
use Rattle.desk_types.specs.History.{Basis}
use Rattle.line_book.specs.declared.note.Note.{Note}
use Rattle.line_book.specs.declared.row.BookRow.{BookRow}
use Rattle.line_schema.specs.Book.{LeavesBook}
use Rattle.book_store.specs.declared.store.BookStore.{BookStore}
use Rattle.book_store.specs.Lists.{Lists, StandsFor, book_state}

-- The trees hold both lists, in one database.
abbrev pub LeavesLists : Lists → Trees → Type 0
LeavesLists M = LeavesBook M.kept M.rows

-- One more entry, which the row says.
abbrev pub with_note : Lists → BookRow → Note → Lists
with_note L row n = record L { rows = L.rows ++ row ∷ []; notes = L.notes ++ n ∷ [] }

-- A call that ended with this result, on an honest disk. Ok means that the store represents lists of
-- which this is true, and that they are on disk, unless they are those of before. After an error it
-- represents those of before. A crash leaves what it could leave before, or such lists whole.
pub record Ends {S D A E : Type 0} (g : Ghosts S) (Desks : D → Basis → Type 0)
    (old new : BookStore S D) (L : Lists) (result : Result A E) (Are : A → Lists → Type 0)
    : Type 0 where
  pub ok : IfOk result (λ a. (M : Lists) × Are a M × StandsFor g Desks new M
      × ((trees : Trees) → (book_state g new).may_leave trees
      → LeavesLists M trees ⊎ ((M ≡ L) × (book_state g old).may_leave trees)))
  pub err : OnErr result (StandsFor g Desks new L)
  pub crash : (trees : Trees) → (book_state g new).may_leave trees
      → (book_state g old).may_leave trees
      ⊎ ((a : A) × (M : Lists) × Are a M × LeavesLists M trees)
