use Rattle.desk_types.proofs.Common.{refl}
use Rattle.serde_json.proofs.OnLiterals.{serde_json_on_literals}
use Rattle.desk_feed.proofs.line.too_long_text.Goals as goal

pub returns : goal.returns
unfolding serde_json_on_literals
returns c = refl
