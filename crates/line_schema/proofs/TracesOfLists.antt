-- The result of a trace, for the history that a store represents.
use Rattle.desk_types.proofs.Common.{[], ◌∷◌, ◌≡◌, AllZip, arith, Basis, basis, History, IfSome, IsTrue, None}
use Rattle.desk_types.proofs.Common.{Option, refl, Some, subst, sym}
use Rattle.desk_laws.proofs.Common.{Two}
use Rattle.line_tables.proofs.Common.{Ghosts, HasCleanDisk, State, state, Survives}
use Rattle.line_replay.specs.Rows.{rows_of}
use Rattle.line_schema.specs.{Stands.Kept, Stands.Stands, Stands.WorksFor, declared.store.LineStore.LineStore}
use Rattle.line_traces.proofs.Minutes.{IsRowOf, list-held}
use Rattle.line_traces.specs.{Working.FindsOfBoth, Working.IsWorking, declared.working.Working.Working}

rows-are : (H : History) → AllZip IsRowOf H (rows_of H)
rows-are [] = tt
rows-are (e ∷ H) = ((refl, refl), rows-are H)

-- If the tables are the store's own, a result about them and the working state holds for its history.
pub told-of : {S D X : Type 0} (g : Ghosts S) (F : D → Basis → Type 0) (old : LineStore S D) (new : State) (working : Option (Working D)) (of : History → X) (found : X) → working ≡ old.working → Survives (state g old.conn) new (λ _. ⊥)
    → (HasCleanDisk new → FindsOfBoth F working of (state g old.conn) found) → (L : Kept) → Stands g F old L → HasCleanDisk new → IsTrue L.own → found ≡ of L.history
told-of g F old new working of found is survives told L stands clean own =
    let tells = told clean in
    let early : HasCleanDisk (state g old.conn) = omega (arith, survives.clean, clean) in
    let held = stands.tables early own tells.was_open in
    tells.are (record { rules = Two; layout = held.indexed; same = held.schema }) L.history (record {
      held = list-held (state g old.conn).committed L.history (rows_of L.history) stands.judged held.accepted (rows-are L.history) held.state;
      working = subst (λ w. IfSome w (λ x. IsWorking F x (basis Two L.history))) (sym is) stands.working;
    })
