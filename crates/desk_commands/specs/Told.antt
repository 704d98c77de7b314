-- The texts that a run prints on standard output and standard error.
use Rattle.std.specs.Prelude.{◌≡◌, ◌<◌, ◌+◌, ◌⊎◌, ℕ, List, [], ◌∷◌, ◌++◌, Option, codes, decimal}
use Rattle.std.specs.Io.KnownBytes.{Appends}
use Rattle.desk_types.specs.declared.wire.Wire.{Wire}
use Rattle.desk_types.specs.Wire.{inner_of, failures_of}
use Rattle.desk_answers.specs.declared.serving.ServeFault.{ServeFault}
use Rattle.desk_answers.specs.declared.serving.ServeFault.TheVariants.{Read, Write, TooManyReads}
use Rattle.desk_answers.specs.Counts.{none_served}
use Rattle.desk_answers.specs.Sent.{SendsFront}
use Rattle.http_stream.specs.Answers.{Told}
use Rattle.http_stream.specs.declared.response.MediaType.{MediaType}
use Rattle.http_stream.specs.declared.response.MediaType.TheVariants.{Json, Csv}
use Rattle.desk_feed.specs.declared.options.BadOption.{BadOption}
use Rattle.desk_feed.specs.declared.options.BadOption.TheVariants as option

-- ---- standard output

-- The line of an audit: the number of accepted commands.
abbrev pub lawful_line : ℕ → List ℕ
lawful_line count = codes "lawful " ++ decimal count ++ codes "\n"

-- The line of a migration.
abbrev pub version_line : List ℕ
version_line = codes "version 2\n"

-- A text of this kind as printed. If it is not CSV, a line feed is added.
abbrev pub with_end : MediaType → List ℕ → List ℕ
with_end Csv text = text
with_end Json text = text ++ 10 ∷ []

-- The report in an answer, or the fault.
abbrev pub report_output : Told → List ℕ
report_output answer = with_end answer.kind answer.body

-- ---- faults

-- The line of the fault.
abbrev pub fault_line : ServeFault → List ℕ
fault_line (Read served) = codes "tracedesk: Read"
fault_line (Write served) = codes "tracedesk: Write"
fault_line (TooManyReads served) = codes "tracedesk: TooManyReads"

-- The line for memory that was refused, outside of a message.
abbrev pub unavailable_line : List ℕ
unavailable_line = codes "tracedesk: Unavailable"

-- The line for an option that can't be read.
abbrev pub option_line : BadOption → List ℕ
option_line option.Id = codes "tracedesk: Bad id"
option_line option.Source = codes "tracedesk: Bad source"
option_line option.Time = codes "tracedesk: Bad time"
option_line option.Product = codes "tracedesk: Bad product"
option_line option.Machine = codes "tracedesk: Bad machine"

-- ---- standard error

-- A text was written and nothing failed, or one write failed and only the first bytes were written.
abbrev pub Tells : {E : Type 0} → (E → Option (List ℕ)) → Wire E → Wire E → List ℕ → Type 0
Tells contents errors errors' text =
    ((failures_of errors' ≡ failures_of errors)
    × Appends (contents (inner_of errors)) (contents (inner_of errors')) text)
    ⊎ ((failures_of errors' ≡ failures_of errors + 1)
    × SendsFront (contents (inner_of errors)) (contents (inner_of errors')) text)

-- The same for a line, with its line feed.
abbrev pub TellsLine : {E : Type 0} → (E → Option (List ℕ)) → Wire E → Wire E → List ℕ → Type 0
TellsLine contents errors errors' line = Tells contents errors errors' (line ++ 10 ∷ [])

-- One write to the output failed, and standard error says so.
abbrev pub TellsUnwritten : {W E : Type 0} → (E → Option (List ℕ)) → Wire W → Wire W → Wire E
    → Wire E → Type 0
TellsUnwritten contents output output' errors errors' =
    (failures_of output' ≡ failures_of output + 1)
    × TellsLine contents errors errors' (fault_line (Write none_served))

-- Standard error says why no further connection is served: a line could not be written, as the output's count shows, or
-- none could be accepted.
abbrev pub TellsEnd : {W E : Type 0} → (E → Option (List ℕ)) → Wire W → Wire W → Wire E → Wire E
    → Type 0
TellsEnd contents output output' errors errors' =
    ((failures_of output' ≡ failures_of output)
    × TellsLine contents errors errors' (fault_line (Read none_served)))
    ⊎ ((failures_of output < failures_of output')
    × TellsLine contents errors errors' (fault_line (Write none_served)))
