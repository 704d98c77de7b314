-- The history in a database and in the working state of its line.
use Rattle.std.specs.Prelude.{◌≡◌, Option, Some, IfSome, List, ◌++◌, map}
use Rattle.sqlite.specs.Effect.{Database}
use Rattle.sqlite.specs.State.{State}
use Rattle.desk_types.specs.declared.placement.Placement.{Placement}
use Rattle.desk_types.specs.declared.rules.Rules.TheVariants.{Two}
use Rattle.desk_types.specs.History.{History, Basis, basis}
use Rattle.state_rows.specs.Lists.{IsListed, Key}
use Rattle.line_tables.specs.Calls.{Reads}
use Rattle.line_traces.specs.declared.working.Working.{Working}
use Rattle.line_traces.specs.Pieces.{piece_at}
use Rattle.line_traces.specs.Committed.{HoldsList}

-- The desk represents the basis, and the trace indexes are those of its history.
pub record IsWorking {D : Type 0} (Stands : D → Basis → Type 0) (working : Working D)
    (B : Basis) : Type 0 where
  pub stands : Stands working.desk B
  pub listed : IsListed working.lists B.history

-- The database holds the history, and so does the working state, by rules Two, if it is loaded.
pub record HoldsBoth {D : Type 0} (Stands : D → Basis → Type 0) (loaded : Option (Working D))
    (db : Database) (H : History) : Type 0 where
  pub held : HoldsList db H
  pub working : IfSome loaded (λ w. IsWorking Stands w (basis Two H))

-- The connection was open, and the result holds for the history in the committed tables and in the working state.
abbrev pub FindsOfBoth : {D X : Type 0} → (D → Basis → Type 0) → Option (Working D)
    → (History → X) → State → X → Type 0
FindsOfBoth Stands working of old found =
    Reads old (λ db. (H : History) → HoldsBoth Stands working db H → found ≡ of H)

-- The added pieces are those with these keys.
abbrev pub AddsPieces : History → List Key → List Placement → List Placement → Type 0
AddsPieces H keys before after = map Some after ≡ map Some before ++ map (piece_at H) keys
