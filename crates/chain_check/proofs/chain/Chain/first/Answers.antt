use Rattle.desk_types.proofs.Common.{append-nil, IsJudged, refl, subst, sym}
use Rattle.desk_laws.proofs.Common.{Rules}
use Rattle.chain_check.proofs.chain.Chain.first.Goals as goal

pub returns : goal.returns
returns c = λ H stands. record {
  is_chain = (subst (λ (r : Rules). IsJudged r H) stands.rules stands.state.judged, (H, sym (append-nil H)), refl, tt);
  newest = stands.state;
}
