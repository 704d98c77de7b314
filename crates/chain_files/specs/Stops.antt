-- The text of a fault, and the exit status.
use Rattle.std.specs.Prelude.{ℕ, List, [], ◌++◌, codes, get_or, string_bytes}
use Rattle.line_schema.specs.Opening.{fault_text}
use Rattle.chain_check.specs.Texts.{difference_text}
use Rattle.chain_files.specs.declared.chain.Fault.{Fault}
use Rattle.chain_files.specs.declared.chain.Fault.TheVariants.{Refused, BegunFrom, NotBegun, Differs}

abbrev pub stop_text : Fault → List ℕ
stop_text (Refused fault) = fault_text fault
stop_text (BegunFrom mark) = codes "begun from " ++ string_bytes mark
stop_text NotBegun = codes "begun from no file"
stop_text (Differs difference) = codes "differs " ++ difference_text difference

abbrev pub status_of : Fault → ℕ
status_of (Refused fault) = 3
status_of (BegunFrom mark) = 5
status_of NotBegun = 5
status_of (Differs difference) = 1

-- The line of a recall without marks.
abbrev pub without_marks_line : List ℕ
without_marks_line = codes "tracedesk-chain: without marks: a gap or a fork may not show"

-- The line on standard error.
abbrev pub stop_line : List (List ℕ) → ℕ → Fault → List ℕ
stop_line paths place fault =
    codes "tracedesk-chain: " ++ (get_or paths place [] ++ (codes ": " ++ stop_text fault))
