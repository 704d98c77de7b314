use Rattle.desk_types.proofs.Ascii.{IsUtf8-printable, printable-marks}
use Rattle.desk_types.proofs.designator.Designator.as_str.Goals as goal

pub unreachable-requires : goal.unreachable-requires
unreachable-requires c =
    c.in-Err.ensures.cases.0 (IsUtf8-printable _ (printable-marks _ c.as_bytes.ensures.is_designator.marks))
