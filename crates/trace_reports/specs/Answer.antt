-- The texts of the answers when there is no report.
use Rattle.std.specs.Prelude.{ℕ, List}
use Rattle.cfx_profile.specs.Answer.{unavailable_text}
use Rattle.trace_reports.specs.NotFound.{not_found_text}
use Rattle.trace_reports.specs.declared.fault.ReportFault.{ReportFault}
use Rattle.trace_reports.specs.declared.fault.ReportFault.TheVariants.{NotFound, Unavailable}

-- The text of the answer to a fault.
abbrev pub fault_text : ReportFault → List ℕ
fault_text (NotFound kind) = not_found_text kind
fault_text Unavailable = unavailable_text
