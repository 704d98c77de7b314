use Rattle.desk_types.proofs.Common.{IfOk-weaker, inl, inr, refl}
use Rattle.book_store.proofs.Finding.{err_weaker}
use Rattle.line_commands.proofs.ListsOpened.{err-both}
use Rattle.line_schema.specs.Book.{new_kept}
use Rattle.desk_types.specs.declared.limits.TheConstants.{MOST_ENTRIES}
use Rattle.line_tables.proofs.Common.{file_state}
use Rattle.line_commands.proofs.lists.desk_of.Goals as goal

pub returns-then-empty-clause-found : goal.returns-then-empty-clause-found
returns-then-empty-clause-found g c =
    IfOk-weaker c.create_with_book.result _ _
    (λ desk made. (new_kept MOST_ENTRIES (file_state c.args.conn), inr (made, refl), made.stands.stands))
    c.create_with_book.ensures.made

pub returns-then-empty-clause-refused : goal.returns-then-empty-clause-refused
returns-then-empty-clause-refused g c =
    err_weaker c.create_with_book.result _ _ (λ e left. inr left) c.create_with_book.ensures.unmade

pub returns-else-empty-clause-found : goal.returns-else-empty-clause-found
returns-else-empty-clause-found g c =
    IfOk-weaker c.open.result _ _ (λ desk opens. (opens.0, inl opens.1, opens.1.stands)) c.open.ensures.opened

pub returns-else-empty-clause-refused : goal.returns-else-empty-clause-refused
returns-else-empty-clause-refused g c =
    err-both c.open.result _ _ _ (λ e fault reads. inl (fault, reads)) c.open.ensures.fault c.open.ensures.refused
