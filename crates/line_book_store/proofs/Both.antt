-- The book beside the desk's edits.
use Rattle.desk_types.proofs.Common.{[], ◌++◌, ◌+◌, ◌∙◌, ◌∷◌, ◌≡◌, append-nil, arith, IsPermutation, IsTrue, length, length-append, List, map, refl, subst, sym, true, ℕ}
use Rattle.line_tables.proofs.Common.{Database, Edit, Ghosts, Held, Holds, KeepsOthers, State, state, Table, Trees, Writes}
use Rattle.line_tables.proofs.Beside.{rows_stay}
use Rattle.line_tables.specs.Rows.{Tables}
use Rattle.sqlite_catalog.specs.Change.{KeepsRows}
use Rattle.line_book.specs.declared.row.BookRow.{BookRow}
use Rattle.line_book_store.specs.Book.{behind, book_schema, book_tree, entry_columns, GoOn, HoldsBook, IndexedShelf, KeepsBehind, layout_of, Notes, PlainShelf, Shelf, shown_columns}
use Rattle.line_book_store.specs.Together.{AddsBoth, LeavesTogether, NotesAll, WritesBoth}
use Rattle.std.proofs.lemmas.List.{append_assoc}

tree_kept : (shelf : Shelf) (before after : Database) → KeepsOthers before after → before.schema ≡ book_schema shelf → after.trees (book_tree shelf) ≡ before.trees (book_tree shelf)
tree_kept (IndexedShelf more) before after kept has = (kept.rows (layout_of (IndexedShelf more)) has).0
tree_kept (PlainShelf more) before after kept has = (kept.rows (layout_of (PlainShelf more)) has).0

behind_kept : (shelf : Shelf) (before after : Database) → KeepsOthers before after → before.schema ≡ book_schema shelf → KeepsRows (behind shelf) before.trees after.trees
behind_kept (IndexedShelf more) before after kept has = (kept.rows (layout_of (IndexedShelf more)) has).1
behind_kept (PlainShelf more) before after kept has = (kept.rows (layout_of (PlainShelf more)) has).1

kept_then : (tables : List Table) (a b c : Trees) → KeepsRows tables a b → KeepsRows tables b c → KeepsRows tables a c
kept_then [] a b c p q = tt
kept_then (t ∷ tables) a b c p q = (q.0 ∙ p.0, kept_then tables a b c p.1 q.1)

-- The book stays when the desk's tables change.
pub book_stays : (before after : Database) → KeepsOthers before after → (entries : List BookRow) → HoldsBook before entries → HoldsBook after entries
book_stays before after kept entries was = record {
  shelf = was.shelf;
  schema = kept.schema (layout_of was.shelf) was.schema ∙ was.schema;
  rows = subst (λ t. IsPermutation (map shown_columns t) (map entry_columns entries)) (sym (tree_kept was.shelf before after kept was.schema)) was.rows;
  numbered = was.numbered;
}

-- ---- entries, one after another

first_part : (n : ℕ) (news : List BookRow) (e : BookRow) → GoOn n (news ++ e ∷ []) → GoOn n news × (e.number ≡ n + length news + 1)
first_part n [] e on = (tt, omega (arith, on.0))
first_part n (x ∷ xs) e on = let more = first_part (n + 1) xs e on.1 in ((on.0, more.0), omega (arith, more.1))

pub notes_none : (s : State) → NotesAll [] s s
notes_none s = record {
  adds = λ tables entries desk book on. (refl, desk, subst (HoldsBook s.now) (sym (append-nil entries)) book);
  schema = λ shelf has. refl;
  behind = λ shelf has. rows_stay (behind shelf) s.now.trees;
  sound = λ tables entries desk book on is. is;
}

pub notes_more : (news : List BookRow) (e : BookRow) (old mid new : State) → NotesAll news old mid → Notes e mid new → NotesAll (news ++ e ∷ []) old new
notes_more news e old mid new all n = record {
  adds = λ tables entries desk book on.
      let parts = first_part (length entries) news e on in
      let first = all.adds tables entries desk book parts.0 in
      let then = n.done.adds tables (entries ++ news) first.1 first.2 (omega (arith, parts.1, length-append entries news)) in
      (then.0 ∙ first.0, then.1, subst (HoldsBook new.now) (append_assoc entries news (e ∷ [])) then.2);
  schema = λ shelf has. n.done.schema shelf (all.schema shelf has ∙ has) ∙ all.schema shelf has;
  behind = λ shelf has. kept_then (behind shelf) old.now.trees mid.now.trees new.now.trees (all.behind shelf has) (n.done.behind shelf (all.schema shelf has ∙ has));
  sound = λ tables entries desk book on is.
      let first = all.adds tables entries desk book (first_part (length entries) news e on).0 in
      n.sound (entries ++ news) first.2;
}

pub both_written : (edits : List Edit) (news : List BookRow) (old mid new : State) → Writes edits old mid → NotesAll news mid new → WritesBoth edits news old new
both_written edits news old mid new w n = record {
  was_open = w.was_open;
  done = record {
    adds = λ tables entries desk fresh book on.
        let first = w.done tables desk fresh in
        let then = n.adds _ entries first.1 (book_stays old.now mid.now w.others entries book) on in
        (then.0 ∙ first.0, then.1, then.2);
    behind = λ shelf has. kept_then (behind shelf) old.now.trees mid.now.trees new.now.trees (behind_kept shelf old.now mid.now w.others has) (n.behind shelf (w.others.schema (layout_of shelf) has ∙ has));
  };
  sound = λ tables entries desk fresh book on. n.sound _ entries (w.done tables desk fresh).1 (book_stays old.now mid.now w.others entries book) on (w.sound tables desk fresh);
}

module _ {S : Type 0} (g : Ghosts S) (old last : Held S) (settled : IsTrue (state g old).is_open → (state g old).now ≡ (state g old).committed) where
  pub both_made : (edits : List Edit) (news : List BookRow) → WritesBoth edits news (state g (record old { in_transaction = true })) (state g last) → AddsBoth edits news (state g old).committed (state g last).now × LeavesTogether edits news (state g old) (state g last).now.trees
  both_made edits news w =
      let same = settled w.was_open in
      let done : AddsBoth edits news (state g old).committed (state g last).now = subst (λ (db : Database). AddsBoth edits news db (state g last).now) same w.done in (
        done,
        record {
          was_open = w.was_open;
          holds = λ tables entries desk fresh book on.
              let now = done.adds tables entries desk fresh book on in
              record { db = (state g last).now; desk = now.1; book = now.2; sound = w.sound tables entries (subst (λ (db : Database). Holds db tables) (sym same) desk) fresh (subst (λ (db : Database). HoldsBook db entries) (sym same) book) on; same = refl };
          behind = done.behind;
        },
      )
