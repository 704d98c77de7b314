-- What a run leaves in a line's file, and how the next one opens it.
use Rattle.std.specs.Prelude.{◌≡◌, IsTrue, length}
use Rattle.sqlite.specs.Effect.{IsDatabase}
use Rattle.sqlite.specs.State.{HasCleanDisk}
use Rattle.sqlite_trees.specs.declared.store.Store.{Ghosts}
use Rattle.sqlite_trees.specs.Tree.{Trees}
use Rattle.desk_types.specs.declared.rules.Rules.TheVariants.{Two}
use Rattle.desk_types.specs.History.{Basis}
use Rattle.desk_types.specs.Judged.{IsJudged}
use Rattle.line_book.specs.declared.reading.Reading.{Reading}
use Rattle.line_book.specs.Rows.{first_reading}
use Rattle.line_book_store.specs.Checking.{AreRead}
use Rattle.line_schema.specs.declared.store.LineStore.{LineStore}
use Rattle.line_schema.specs.Stands.{Kept, Stands, state_of}
use Rattle.book_store.specs.declared.store.BookStore.{BookStore}
use Rattle.book_store.specs.Lists.{Lists, book_state}
use Rattle.book_store.specs.Opened.{Opens}

-- Each command was judged by the ones before it, and the rows are read as these entries. So it is with all lists that a
-- store represents.
pub record AreLawful (L : Lists) : Type 0 where
  pub judged : IsJudged Two L.kept.history
  pub read : (r : Reading) × AreRead (first_reading (length L.kept.history)) L.rows L.notes r

-- The desk and then the store were opened on a file with these contents. The disk is honest, and the tables are the
-- desk's own.
pub record IsOpenedOn {S D : Type 0} (g : Ghosts S) (Desks : D → Basis → Type 0)
    (desk : LineStore S D) (store : BookStore S D) (K : Kept) (trees : Trees) : Type 0 where
  pub stands : Stands g Desks desk K
  pub own : IsTrue K.own
  pub is_open : IsTrue (state_of g desk).is_open
  pub is_honest : HasCleanDisk (state_of g desk)
  pub sound : IsDatabase (state_of g desk).committed
  pub holds : (state_of g desk).committed.trees ≡ trees
  pub opens : Opens g Desks desk store K
  pub stays_honest : HasCleanDisk (book_state g store)
