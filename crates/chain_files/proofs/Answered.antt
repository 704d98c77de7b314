-- The chain of an answer; and which statuses a run without an answer has.
use Rattle.desk_types.proofs.Common.{◌≡◌, ◌⊎◌, arith, inl, inr, List, None, Option, Some, subst, sym, ℕ}
use Rattle.desk_laws.proofs.Common.{DeskFile, IsChain}
use Rattle.chain_check.specs.declared.chain.Chain.{Chain}
use Rattle.chain_files.specs.{Files.Continues, Whole.IsStopped}

pub are-chain : (chain : Option Chain) (files : List DeskFile) → Continues chain files → IsChain files
are-chain None files none = subst (λ (fs : List DeskFile). IsChain fs) (sym none) tt
are-chain (Some chain) files is = is.is_chain

pub only-three : (status : ℕ) → (status ≡ 0) ⊎ (status ≡ 3) ⊎ (status ≡ 4) → IsStopped status → status ≡ 3
only-three status (inl zero) (inl one) = omega (arith, zero, one)
only-three status (inl zero) (inr (inl three)) = three
only-three status (inl zero) (inr (inr five)) = omega (arith, zero, five)
only-three status (inr (inl three)) stopped = three
only-three status (inr (inr four)) (inl one) = omega (arith, four, one)
only-three status (inr (inr four)) (inr (inl three)) = three
only-three status (inr (inr four)) (inr (inr five)) = omega (arith, four, five)
