-- Floor life as reports show it.
use Rattle.std.specs.Prelude.{ℕ, List, codes, decimal}
use Rattle.desk_types.specs.declared.view.Left.{Left}
use Rattle.desk_types.specs.declared.view.Left.TheVariants.{Minutes, Unlimited, Unbaked}

-- The remaining minutes, or a word if unlimited or unbaked.
abbrev pub left_text : Left → List ℕ
left_text (Minutes n) = decimal n
left_text Unlimited = codes "unlimited"
left_text Unbaked = codes "unbaked"
