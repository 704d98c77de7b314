use Rattle.desk_types.proofs.Common.{◌∙◌, ap, IsTrue, not}
use Rattle.line_book_store.specs.Names.{has_book}
use Rattle.line_tables.proofs.Common.{Database}
use Rattle.line_schema.proofs.store.LineStore.has_book.Goals as goal

pub returns-clause-committed : goal.returns-clause-committed
returns-clause-committed g c L stands is_open =
    let auto : IsTrue c.is_autocommit-settled.result = c.is_autocommit-settled.ensures.value ∙ ap not stands.mode in
    c.has_book.ensures ∙ ap (λ (db : Database). has_book db.schema.tables) (c.is_autocommit-settled.ensures.settled auto is_open)
