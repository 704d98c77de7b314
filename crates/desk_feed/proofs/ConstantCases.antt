-- Worked cases of the crate's limits.
use Rattle.desk_types.proofs.Common.{◌≡◌, refl}
use Rattle.desk_feed.specs.declared.taking.TheConstants.{LONGEST_RAW}

pub longest_with_its_return : LONGEST_RAW ≡ 1_048_577
longest_with_its_return = refl
