-- The chain that was checked so far.
use Rattle.std.specs.Prelude.{List, [], ◌∷◌}
use Rattle.desk_types.specs.History.{History}
use Rattle.feeder_state.specs.declared.desk.StateDesk.{StateDesk}
use Rattle.feeder_state.specs.State.{IsState}
use Rattle.desk_laws.specs.Chain.{DeskFile, IsChain}
use Rattle.chain_check.specs.declared.difference.Difference.{Difference}
use Rattle.chain_check.specs.Difference.{IsDifference, Refutes}
use Rattle.chain_check.specs.declared.chain.Chain.{Chain}

-- The desk is that of the newest file.
abbrev pub IsNewest : StateDesk → List DeskFile → Type 0
IsNewest desk [] = ⊥
IsNewest desk (file ∷ older) = IsState file.whole desk

-- The files are a chain, and the desk is that of the newest one.
pub record IsSoFar (chain : Chain) (files : List DeskFile) : Type 0 where
  pub is_chain : IsChain files
  pub newest : IsNewest chain.newest files

-- The difference shows that the desk with history B doesn't carry on that with history G.
abbrev pub IsReason : History → History → Difference → Type 0
IsReason G B d = IsDifference G B d × Refutes G B d
