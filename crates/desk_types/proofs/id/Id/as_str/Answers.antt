use Rattle.desk_types.proofs.Ascii.{IsUtf8-printable}
use Rattle.desk_types.proofs.id.Id.as_str.Goals as goal

pub unreachable-requires : goal.unreachable-requires
unreachable-requires c = c.in-Err.ensures.cases.0 (IsUtf8-printable _ c.as_bytes.ensures.is_id.printable)
