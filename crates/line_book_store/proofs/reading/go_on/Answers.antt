use Rattle.desk_types.proofs.Common.{[], ◌++◌, ◌+◌, ◌∷◌, ◌≡◌, arith, length, length-take-le, rules, subst, sym, take, take-next}
use Rattle.line_book_store.proofs.PutEntries.{go_on}
use Rattle.line_book_store.specs.Book.{GoOn}
use Rattle.line_book_store.proofs.reading.go_on.Goals as goal

pub loop-entry-preserved : goal.loop-entry-preserved
loop-entry-preserved c =
    let was = c.loop-entry.invariant in
    let i = c.loop-entry.entry-index in
    let n = c.args.number in
    let e = c.entry-item.result in
    let is : e.number ≡ n + i + 1 = search (arith, rules) in
    let long : length (take i c.args.entries.now) ≡ i = search (arith, rules) in
    let more : take (i + 1) c.args.entries.now ≡ take i c.args.entries.now ++ e ∷ [] = take-next c.args.entries.now i e c.loop-entry-test.true c.entry-item.is in
    record {
      on = subst (GoOn n) (sym more) (go_on n (take i c.args.entries.now) e was.on (omega (arith, is, long)));
      last = search (arith, rules);
    }
