-- A disk that has lied is never honest again.
use Rattle.desk_types.proofs.Common.{[], ◌∷◌, ◌≡◌, ◌⊎◌, arith, Basis, inl, inr, IsTrue, length, List, refl}
use Rattle.desk_types.proofs.Common.{subst, suc, sym, true, zero, ℕ}
use Rattle.line_book.specs.declared.row.BookRow.{BookRow}
use Rattle.line_book_store.specs.Book.{GoOn}
use Rattle.line_schema.specs.{Book.StandsWith, Stands.Kept, Stands.Stands, Stands.state_of}
use Rattle.line_schema.specs.declared.store.LineStore.{LineStore}
use Rattle.line_tables.proofs.Common.{Ghosts, HasCleanDisk, Survives}
use Rattle.sqlite_trees.specs.View.{doubt}

rows_of : BookRow → (k : ℕ) → (rows : List BookRow) × (length rows ≡ k)
rows_of row zero = ([], refl)
rows_of row (suc k) = let more = rows_of row k in (row ∷ more.0, omega (arith, more.1))

none_or_some : (n : ℕ) → (n ≡ 0) ⊎ (n ≡ 0 → ⊥)
none_or_some zero = inl refl
none_or_some (suc n) = inr (λ is. omega (arith, is))

module _ {S D : Type 0} (g : Ghosts S) (F : D → Basis → Type 0) (old new : LineStore S D) where
  module _ (rows : List BookRow) (survives : (L : Kept) → StandsWith g F old L rows → IsTrue L.own → (P : _) ×
      Survives (state_of g old) (state_of g new) P) where
    lied : (L : Kept) → Stands g F old L → (HasCleanDisk (state_of g old) → ⊥) → HasCleanDisk (state_of g new)
        → HasCleanDisk (state_of g old)
    lied L s lies clean =
        let own : Kept = record L { own = true } in
        let all = survives own (record {
          stands = record {
            greatest = s.greatest;
            bound = s.bound;
            count = s.count;
            within = s.within;
            judged = s.judged;
            consistent = s.consistent;
            working = s.working;
            mode = s.mode;
            stays_open = s.stays_open;
            lawful = λ is _. absurd (lies is);
            tables = λ is _ _. absurd (lies is);
          };
          book = λ is _ _. absurd (lies is);
        }) refl in
        omega (arith, all.1.clean, clean)

    clean_with : (L : Kept) → Stands g F old L → HasCleanDisk (state_of g new) → HasCleanDisk (state_of g old)
    clean_with L s clean = elim (none_or_some (doubt (state_of g old).is_clean))
        [ inl is ↦ is | inr lies ↦ lied L s lies clean ]

  -- After a call that survives with these rows, whatever the book was.
  pub clean_still : (k : ℕ) (news : List BookRow) → GoOn k news → (survives : (L : Kept) (rows : List BookRow)
      → StandsWith g F old L rows → GoOn (length rows) news → IsTrue L.own → (P : _) × Survives (state_of g old)
      (state_of g new) P) → (L : Kept) → Stands g F old L → HasCleanDisk (state_of g new) → HasCleanDisk
      (state_of g old)
  clean_still k [] on survives = clean_with [] (λ L was own. survives L [] was tt own)
  clean_still k (row ∷ more) on survives =
      let rows = rows_of row k in
      clean_with rows.0 (λ L was own. survives L rows.0 was (subst (λ n. GoOn n (row ∷ more)) (sym rows.1) on) own)
