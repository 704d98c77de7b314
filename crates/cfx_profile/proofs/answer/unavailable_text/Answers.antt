use Rattle.desk_types.proofs.Common.{refl}
use Rattle.serde_json.proofs.OnLiterals.{serde_json_on_literals}
use Rattle.cfx_profile.proofs.answer.unavailable_text.Goals as goal

pub returns : goal.returns
unfolding serde_json_on_literals
returns c = refl
