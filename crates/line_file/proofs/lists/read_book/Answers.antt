use Rattle.desk_types.proofs.Common.{◌∙◌, ◌≡◌, ap, arith, false, length, map, rules, subst, sym, true}
use Rattle.line_tables.proofs.Common.{Database, HasCleanDisk}
use Rattle.line_book.specs.Rows.{first_reading}
use Rattle.line_book_store.proofs.ReadEntries.{read-count, read-numbers}
use Rattle.line_book_store.specs.{Book.entry_columns, Book.HoldsBook}
use Rattle.line_schema.specs.{Book.StandsWith, Stands.state_of}
use Rattle.book_store.proofs.Showing.{rows_same}
use Rattle.book_store.specs.Restored.{IsRestored}
use Rattle.line_file.proofs.Windows.{whole_window}
use Rattle.line_file.specs.Lists.{AreTold}
use Rattle.line_file.proofs.lists.read_book.Goals as goal

pub returns-then-not-with_rows-clause-ok : goal.returns-then-not-with_rows-clause-ok
returns-then-not-with_rows-clause-ok g c L stands =
    let was = c.in_ok-lists.ensures.ok L stands in
    let none : c.args.with_rows ≡ false = search rules in
    record {
      is = was;
      told = λ clean own still shelf. subst (λ b. AreTold b was.rows c.new.result.items) (sym none)
          c.new.ensures.items;
    }

pub returns-in-Ok-clause-ok : goal.returns-in-Ok-clause-ok
returns-in-Ok-clause-ok g c L stands =
    let was = c.in_ok-lists.ensures.ok L stands in
    let rows = was.rows in
    let reading = c.in_ok-lists.lists.reading in
    let first = first_reading (length L.history) in
    let mid = state_of g.S.Store c.restore.new.store in
    let new = state_of g.S.Store c.entries_after.new.self in
    let asked : c.args.with_rows ≡ true = search rules in
    let early : HasCleanDisk new → HasCleanDisk mid = λ clean. omega
    (arith, c.entries_after.ensures.reads.reads.survives.clean, clean) in
    let is : IsRestored L (HasCleanDisk new) (state_of g.S.Store c.args.store.now) c.in_ok-lists.lists = record {
      rows = rows;
      notes = was.notes;
      read = was.read;
      all = λ clean. was.all (early clean);
      guard = λ clean. was.guard (early clean);
    } in
    record {
      is = is;
      told = λ clean own still shelf.
          let both : StandsWith g.S.Store g.D.Desk.Stands c.restore.new.store L rows = record {
            stands = c.restore.ensures.reads.stands L stands;
            book = λ now owns open_now. subst (λ (db : Database). HoldsBook db rows)
                (sym ((c.restore.ensures.reads.reads.kept now).committed open_now))
                ((was.all now).holds shelf.0 shelf.1);
          } in
          let found = c.in-Ok.ensures.window L rows both own clean in
          let many = read-count first reading rows was.notes was.read in
          let on = read-numbers first reading rows was.notes was.read in
          let whole = whole_window 0 reading.entries rows on (omega (arith, many.0, many.1)) in
          subst (λ b. AreTold b rows c.in-Ok.rows.items) (sym asked)
          (rows_same c.in-Ok.rows.items rows (found ∙ ap (map entry_columns) whole));
    }
