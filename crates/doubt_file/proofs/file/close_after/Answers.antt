use Rattle.desk_types.proofs.Common.{inl, inr, refl}
use Rattle.doubt_file.proofs.file.close_after.Goals as goal

pub returns-in-Ok : goal.returns-in-Ok
returns-in-Ok g c = inl (refl, c.in-Ok.ensures.copied)

pub returns-in-Err : goal.returns-in-Err
returns-in-Err g c = inr (refl, c.in-Err.ensures.left)
