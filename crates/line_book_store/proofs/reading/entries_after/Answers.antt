use Rattle.desk_types.proofs.Common.{◌+◌, ◌≡◌, arith, ints, map, pos, rules}
use Rattle.line_book_store.proofs.Found.{window_found}
use Rattle.line_book_store.specs.Book.{entry_columns, GoOn}
use Rattle.line_book_store.proofs.reading.entries_after.Goals as goal

pub returns-then-go_on-clause-window : goal.returns-then-go_on-clause-window
returns-then-go_on-clause-window g c clean =
    let same : c.in_ok-rows.rows.items ≡ map entry_columns c.in_ok-entries.entries.items = search rules in
    let on : GoOn c.args.number c.in_ok-entries.entries.items = search rules in
    window_found g.S.Store c.args.number (c.args.number + c.args.most) _ _ c.args.conn.now _ (search (arith, ints)) (search (arith, ints)) (c.in_ok-rows.ensures.shown clean) c.in_ok-entries.entries.items same on
