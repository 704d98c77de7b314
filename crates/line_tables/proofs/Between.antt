-- Placements within a range of rowids.
use Rattle.desk_types.proofs.Common.{[], ◌++◌, ◌∷◌, ◌≡◌, All-from_recursion, All-permutation, AllByRecursion}
use Rattle.desk_types.proofs.Common.{Bool, codes, false, flat_map, if◌then◌else◌, inl, inr, IsPermutation}
use Rattle.desk_types.proofs.Common.{List, list_all, map, recursion_from_All, refl, true, ℕ}
use Rattle.line_tables.proofs.Common.{all_weaker, Binary, col, columns, Compare, everything, Ge, Ghosts, Has}
use Rattle.line_tables.proofs.Common.{Held, holds, op2, Output, output, overlay, Query, Reads, Row, rows_in}
use Rattle.line_tables.proofs.Common.{Selects, state, Term, understood}
use Rattle.line_tables.{proofs.FindTexts.IsSelect, proofs.FindTexts.rows_from, proofs.Finds.answer_of}
use Rattle.line_tables.{proofs.Finds.rows_answer, proofs.Finds.shown_of, specs.Shown.AreOf}
use Rattle.sqlite_sql.specs.declared.ops.CompareOp.TheVariants.{Le}
use Rattle.line_tables.specs.Line as line

pub shown-in : (q : Query) (params : Row) (columns : Row → Row) → ((r : Row) → (output q (params ∷ r ∷ [])).1 ≡ columns r) → (rows : List Row) → AllByRecursion (Has (map columns rows)) (shown_of q params rows)
shown-in q params columns out [] = tt
shown-in q params columns out (r ∷ rs) = by (list_all (holds (params ∷ r ∷ [])) q.filter) (all_weaker (Has (map columns rs)) (Has (map columns (r ∷ rs))) (λ x h. inr h) (shown_of q params rs) (shown-in q params columns out rs))
  where
    by : (b : Bool) → AllByRecursion (Has (map columns (r ∷ rs))) (shown_of q params rs)
        → AllByRecursion (Has (map columns (r ∷ rs))) (map (λ (o : Output). o.1) (map (output q) ((if b then (params ∷ r ∷ []) ∷ [] else []) ++ flat_map (λ r. if list_all (holds (params ∷ r ∷ [])) q.filter then (params ∷ r ∷ []) ∷ [] else []) rs)))
    by true more = (inl (out r), more)
    by false more = more

abbrev pub select_between : List ℕ
select_between = codes "SELECT number, place, board, designator, machine, slot, reel, overdue FROM placement WHERE rowid >= ?1 AND rowid <= ?2"

abbrev between_test : List Term
between_test = op2 (Compare Ge Binary) (col 1 0) (col 0 0) ∷ op2 (Compare Le Binary) (col 1 0) (col 0 1) ∷ []

abbrev pub placement_places : List Term
placement_places = col 1 1 ∷ col 1 2 ∷ col 1 3 ∷ col 1 4 ∷ col 1 5 ∷ col 1 6 ∷ col 1 7 ∷ col 1 8 ∷ []

select_between_is : IsSelect select_between (rows_from 17 between_test placement_places) (codes "number" ∷ codes "place" ∷ codes "board" ∷ codes "designator" ∷ codes "machine" ∷ codes "slot" ∷ codes "reel" ∷ codes "overdue" ∷ [])
unfolding understood everything
select_between_is rules indexed = inl (refl, refl, (refl, refl))

pub shows-between : {S : Type 0} (g : Ghosts S) (old : Held S) (params : Row) (rows : List Row) → Selects g select_between params old rows → Reads (state g old) (AreOf line.placement rows)
shows-between g old params rows h = record {
  was_open = h.was_open;
  are = λ schema.
      let q = rows_from 17 between_test placement_places in
      let db = (state g old).committed in
      let same : IsPermutation (shown_of q params (db.trees 17)) rows = rows_answer 17 between_test placement_places (overlay db.trees []) params rows (answer_of g select_between q _ select_between_is params old rows h schema) in
      let all = shown-in q params (columns line.placement) (λ r. refl) (db.trees 17) in
      recursion_from_All (Has (rows_in line.placement db)) rows (All-permutation (Has (rows_in line.placement db)) _ rows same (All-from_recursion _ _ all));
}
