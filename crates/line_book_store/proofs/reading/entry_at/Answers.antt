use Rattle.desk_types.proofs.Common.{◌∙◌, ◌≡◌, ap, None, Option, rules, Some}
use Rattle.line_tables.proofs.Common.{Row, state}
use Rattle.line_book_store.proofs.Found.{entry_found, none_found}
use Rattle.line_book_store.specs.Book.{entry_columns}
use Rattle.line_book_store.proofs.reading.entry_at.Goals as goal

pub returns-in_ok-entry_of-in-Some-clause-found : goal.returns-in_ok-entry_of-in-Some-clause-found
returns-in_ok-entry_of-in-Some-clause-found g c clean =
    entry_found c.args.number (state g.S.Store c.args.conn.now) _ c.in_ok-entry_of-in-Some.field-0 (search rules) (c.in_ok-row.ensures.found clean)

pub returns-in-None-clause-found : goal.returns-in-None-clause-found
returns-in-None-clause-found g c clean =
    none_found c.args.number (state g.S.Store c.args.conn.now) _ (search rules) (c.in_ok-row.ensures.found clean)
