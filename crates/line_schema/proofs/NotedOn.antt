-- The history and the book of a store after the book was made, or an entry was written.
use Rattle.desk_types.proofs.Common.{[], ◌++◌, ◌∙◌, ◌∷◌, ◌≡◌, Basis, false, IsTrue, List, Option, subst, sym}
use Rattle.desk_types.proofs.Common.{true≢false}
use Rattle.line_book.specs.declared.row.BookRow.{BookRow}
use Rattle.line_book_store.specs.Book.{HoldsBook, IsAlone, LeavesNoted, LeavesOpened, Noted, Opened}
use Rattle.line_replay.specs.Rows.{ledger_tables}
use Rattle.line_schema.proofs.StandsAfter.{clean_before, read_on, still_open}
use Rattle.line_schema.specs.{Book.disowned, Book.IsNextRow, Book.LeavesBook, Book.StandsWith, Stands.Kept}
use Rattle.line_schema.specs.{Stands.Stands, Stands.WorksFor, declared.store.LineStore.LineStore}
use Rattle.line_tables.proofs.Common.{Database, Ghosts, HasCleanDisk, Holds, KeepsCommit, state, Survives, Trees}
use Rattle.line_traces.specs.{declared.working.Working.Working}
use Rattle.sqlite.proofs.StateLemmas.{survives_weaker}

-- A call that changes nothing but the connection.
pub record SameButFile {S D : Type 0} (old new : LineStore S D) : Type 0 where
  pub greatest : new.greatest ≡ old.greatest
  pub count : new.count ≡ old.count
  pub working : new.working ≡ old.working
  pub mode : old.conn.in_transaction ≡ false → new.conn.in_transaction ≡ false

module _ {S D : Type 0} (g : Ghosts S) (F : D → Basis → Type 0) (old new : LineStore S D) (same : SameButFile old new) {P : Trees → Type 0} (survives : Survives (state g old.conn) (state g new.conn) P) where
  -- The tables of the history were committed again.
  tables_on : (L : Kept) → Stands g F old L → (HasCleanDisk (state g new.conn) → IsTrue L.own → IsTrue (state g new.conn).is_open → Holds (state g new.conn).committed (ledger_tables L.greatest L.history)) → Stands g F new L
  tables_on L s tables = record {
    greatest = same.greatest ∙ s.greatest;
    bound = s.bound;
    count = same.count ∙ s.count;
    within = s.within;
    judged = s.judged;
    consistent = s.consistent;
    working = subst (λ (o : Option (Working D)). WorksFor F o L.history) (sym same.working) s.working;
    mode = same.mode s.mode;
    stays_open = still_open P survives s.stays_open;
    lawful = λ clean own. s.lawful (clean_before P survives clean) own;
    tables = tables;
  }

  -- Whatever was committed, the store represents the history in a file that it promises nothing of.
  pub kept_on : (L : Kept) → Stands g F old L → Stands g F new (disowned L)
  kept_on L s = record {
    greatest = same.greatest ∙ s.greatest;
    bound = s.bound;
    count = same.count ∙ s.count;
    within = s.within;
    judged = s.judged;
    consistent = s.consistent;
    working = subst (λ (o : Option (Working D)). WorksFor F o L.history) (sym same.working) s.working;
    mode = same.mode s.mode;
    stays_open = still_open P survives s.stays_open;
    lawful = λ clean own. absurd (true≢false (sym own));
    tables = λ clean own. absurd (true≢false (sym own));
  }

  module _ (kept : HasCleanDisk (state g new.conn) → KeepsCommit (state g old.conn) (state g new.conn)) where
    pub not_made : (L : Kept) → Stands g F old L → Stands g F new L
    not_made L s = read_on g F old new same.greatest same.count same.working same.mode survives kept L s

    pub not_noted : (L : Kept) (entries : List BookRow) → StandsWith g F old L entries → StandsWith g F new L entries
    not_noted L entries was = record {
      stands = not_made L was.stands;
      book = λ clean own is.
          subst (λ (db : Database). HoldsBook db entries) (sym ((kept clean).committed is)) (was.book (clean_before P survives clean) own ((kept clean).was_open is));
    }

-- An entry.
module _ {S D : Type 0} (g : Ghosts S) (F : D → Basis → Type 0) (old new : LineStore S D) (same : SameButFile old new) (e : BookRow) (survives : Survives (state g old.conn) (state g new.conn) (LeavesNoted e (state g old.conn))) where
  early : HasCleanDisk (state g new.conn) → HasCleanDisk (state g old.conn)
  early = clean_before (LeavesNoted e (state g old.conn)) survives

  pub noted_on : (HasCleanDisk (state g new.conn) → Noted e (state g old.conn).committed (state g new.conn).committed) → (HasCleanDisk (state g new.conn) → IsTrue (state g old.conn).is_open × IsTrue (state g new.conn).is_open)
      → (L : Kept) (entries : List BookRow) → StandsWith g F old L entries → IsNextRow e entries → StandsWith g F new L (entries ++ e ∷ [])
  noted_on done opened L entries was next =
      let both = λ (clean : HasCleanDisk (state g new.conn)) (own : IsTrue L.own). (done clean).adds (ledger_tables L.greatest L.history) entries (was.stands.tables (early clean) own (opened clean).0) (was.book (early clean) own (opened clean).0) next in
      record {
        stands = tables_on g F old new same survives L was.stands (λ clean own is. (both clean own).1);
        book = λ clean own is. (both clean own).2;
      }

  pub left_noted : (L : Kept) (entries : List BookRow) → StandsWith g F old L entries → IsNextRow e entries → IsTrue L.own → HasCleanDisk (state g old.conn) → (trees : Trees) → LeavesNoted e (state g old.conn) trees → LeavesBook L (entries ++ e ∷ []) trees
  left_noted L entries was next own clean trees left = left.holds (ledger_tables L.greatest L.history) entries (was.stands.tables clean own left.was_open) (was.book clean own left.was_open) next

  pub survives_noted : (L : Kept) (entries : List BookRow) → StandsWith g F old L entries → IsNextRow e entries → IsTrue L.own → Survives (state g old.conn) (state g new.conn) (LeavesBook L (entries ++ e ∷ []))
  survives_noted L entries was next own =
      survives_weaker (state g old.conn) (state g new.conn) _ _ (λ clean trees left. left_noted L entries was next own (early clean) trees left) survives

-- The book itself.
module _ {S D : Type 0} (g : Ghosts S) (F : D → Basis → Type 0) (old new : LineStore S D) (same : SameButFile old new) (survives : Survives (state g old.conn) (state g new.conn) (LeavesOpened (state g old.conn))) where
  before : HasCleanDisk (state g new.conn) → HasCleanDisk (state g old.conn)
  before = clean_before (LeavesOpened (state g old.conn)) survives

  pub made_on : (HasCleanDisk (state g new.conn) → Opened (state g old.conn).committed (state g new.conn).committed) → (HasCleanDisk (state g new.conn) → IsTrue (state g old.conn).is_open × IsTrue (state g new.conn).is_open)
      → (L : Kept) → Stands g F old L → IsAlone (state g old.conn).committed → StandsWith g F new L []
  made_on done opened L was alone =
      let both = λ (clean : HasCleanDisk (state g new.conn)) (own : IsTrue L.own). (done clean).opened (ledger_tables L.greatest L.history) (was.tables (before clean) own (opened clean).0) alone in
      record {
        stands = tables_on g F old new same survives L was (λ clean own is. (both clean own).0);
        book = λ clean own is. (both clean own).1;
      }

  pub left_made : (L : Kept) → Stands g F old L → IsAlone (state g old.conn).committed → IsTrue L.own → HasCleanDisk (state g old.conn) → (trees : Trees) → LeavesOpened (state g old.conn) trees → LeavesBook L [] trees
  left_made L was alone own clean trees left = left.holds (ledger_tables L.greatest L.history) (was.tables clean own left.was_open) alone

  pub survives_made : (L : Kept) → Stands g F old L → IsAlone (state g old.conn).committed → IsTrue L.own → Survives (state g old.conn) (state g new.conn) (LeavesBook L [])
  survives_made L was alone own =
      survives_weaker (state g old.conn) (state g new.conn) _ _ (λ clean trees left. left_made L was alone own (before clean) trees left) survives
