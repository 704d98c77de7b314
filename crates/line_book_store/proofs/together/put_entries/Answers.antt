use Rattle.desk_types.proofs.Common.{[], ◌++◌, ◌+◌, ◌∷◌, ◌≡◌, arith, refl, rules, subst, sym, take, take-next}
use Rattle.line_tables.proofs.Common.{HasCleanDisk, state}
use Rattle.line_tables.proofs.Frames.{reads_same, within_then}
use Rattle.line_tables.proofs.Keeps.{keeps_same}
use Rattle.line_book_store.proofs.Both.{notes_more, notes_none}
use Rattle.line_book_store.specs.Together.{NotesAll}
use Rattle.line_book_store.proofs.together.put_entries.Goals as goal

pub loop-entry-init : goal.loop-entry-init
loop-entry-init g c =
    let old = state g.S.Store c.args.tx.now.conn.now in
    record {
      noted = λ clean. notes_none old;
      within = record { same_reference = refl; kept = λ _. keeps_same old; survives = (reads_same g.S.Store c.args.tx.now.conn.now).survives };
    }

pub loop-entry-preserved : goal.loop-entry-preserved
loop-entry-preserved g c =
    let was = c.loop-entry.invariant in
    let i = c.loop-entry.entry-index in
    let e = c.entry-item.result in
    let all = c.args.entries.now in
    let old = state g.S.Store c.args.tx.now.conn.now in
    let mid = state g.S.Store c.loop-entry.tx.conn.now in
    let new = state g.S.Store c.put_entry.new.tx.conn.now in
    let early : HasCleanDisk new → HasCleanDisk mid = λ clean. omega (arith, c.put_entry.ensures.within.survives.clean, clean) in
    let more : take (i + 1) all ≡ take i all ++ e ∷ [] = take-next all i e c.loop-entry-test.true c.entry-item.is in
    record {
      noted = λ clean. subst (λ news. NotesAll news old new) (sym more) (notes_more (take i all) e old mid new (was.noted (early clean)) (c.in_ok-put_entry.ensures.done clean));
      within = within_then g.S.Store c.args.tx.now c.loop-entry.tx c.put_entry.new.tx was.within c.put_entry.ensures.within;
    }
