-- The answers to the lines of an input.
use Rattle.std.specs.Prelude.{◌≡◌, ℕ, ◌+◌, Bool, true, false, nat_lt, List, [], ◌∷◌, ◌++◌, length, Option, IfSome, Result, Ok, Err, count_by, codes, if◌then◌else◌}
use Rattle.std.specs.List.{flat_map}
use Rattle.std.specs.Io.KnownBytes.{Appends, Consumes, IsAtEnd}
use Rattle.serde_json.specs.Written.{compact_text}
use Rattle.cfx_profile.specs.Answer.{faulty, unavailable_text}
use Rattle.desk_types.specs.declared.rules.Rules.{Rules}
use Rattle.desk_types.specs.History.{History}
use Rattle.desk_answers.specs.Ledger.{Ledger}
use Rattle.desk_answers.specs.declared.serving.Served.{Served}
use Rattle.desk_answers.specs.declared.serving.ServeFault.{ServeFault}
use Rattle.desk_answers.specs.declared.serving.ServeFault.TheVariants.{Read, Write, TooManyReads}
use Rattle.desk_types.specs.declared.limits.TheConstants.{LONGEST_INPUT}
use Rattle.desk_feed.specs.declared.message.AnswerText.{AnswerText}
use Rattle.desk_feed.specs.declared.message.Verdict.TheVariants as verdict
use Rattle.desk_feed.specs.Lines.{lines_of, ended_lines}
use Rattle.desk_feed.specs.Messages.{answer_to, list_after}
use Rattle.desk_feed.specs.Verdicts.{is_refused}
use Rattle.desk_answers.specs.Counts.{none_served}
use Rattle.desk_answers.specs.Sent.{SendsFront}

-- ---- one line

-- The text of the answer to a line over the limit.
abbrev pub too_long_text : List ℕ
too_long_text = compact_text (faulty (codes "LineTooLong"))

-- The answer to a line after H: Unavailable if marked, LineTooLong over the limit, or else the
-- message's answer.
abbrev pub line_answer : Rules → ℕ → Bool → History → List ℕ → AnswerText
line_answer rules greatest true H line =
    record { text = unavailable_text; verdict = verdict.Unavailable }
line_answer rules greatest false H line = if nat_lt LONGEST_INPUT (length line)
    then record { text = too_long_text; verdict = verdict.Unreadable }
    else answer_to rules greatest H line

-- The history after the line, changed only by messages.
abbrev pub line_after : Rules → ℕ → Bool → History → List ℕ → History
line_after rules greatest true H line = H
line_after rules greatest false H line = if nat_lt LONGEST_INPUT (length line) then H
    else list_after rules greatest H line

-- ---- several lines

-- A line's mark is whether it was answered Unavailable.

-- The answers to the lines, each from the history before it.
abbrev pub answers_to : Rules → ℕ → List Bool → History → List (List ℕ) → List AnswerText
answers_to rules greatest [] H lines = []
answers_to rules greatest (m ∷ ms) H [] = []
answers_to rules greatest (m ∷ ms) H (line ∷ lines) = line_answer rules greatest m H line
    ∷ answers_to rules greatest ms (line_after rules greatest m H line) lines

-- The history after the lines.
abbrev pub after_lines : Rules → ℕ → List Bool → History → List (List ℕ) → History
after_lines rules greatest [] H lines = H
after_lines rules greatest (m ∷ ms) H [] = H
after_lines rules greatest (m ∷ ms) H (line ∷ lines) =
    after_lines rules greatest ms (line_after rules greatest m H line) lines

-- The answer's text with a line feed.
abbrev pub sent_line : AnswerText → List ℕ
sent_line told = told.text ++ 10 ∷ []

-- ---- a run

-- The lines were answered according to their marks, with this output, history and counts.
pub record Answered (rules : Rules) (greatest : ℕ) (lines : List (List ℕ)) (marks : List Bool)
    (H : History) (out : Option (List ℕ)) (before : Served) (H' : History) (out' : Option (List ℕ))
    (after : Served) : Type 0 where
  pub each : length marks ≡ length lines
  pub bytes : Appends out out' (flat_map sent_line (answers_to rules greatest marks H lines))
  pub history : H' ≡ after_lines rules greatest marks H lines
  pub answered : after.answered ≡ before.answered + length lines
  pub refused : after.refused ≡ before.refused + count_by is_refused
      (answers_to rules greatest marks H lines)

-- The first lines of a list.
abbrev pub IsFront : List (List ℕ) → List (List ℕ) → Type 0
IsFront lines all = (rest : List (List ℕ)) × (all ≡ lines ++ rest)

-- All lines of the reader's bytes, if known, were answered.
abbrev pub AnsweredAll : Rules → ℕ → Option (List ℕ) → History → Option (List ℕ) → History
    → Option (List ℕ) → Served → Type 0
AnsweredAll rules greatest input H out H' out' served = (lines : List (List ℕ))
    × (marks : List Bool)
    × IfSome input (λ bytes. lines ≡ lines_of bytes)
    × Answered rules greatest lines marks H out none_served H' out' served

-- The first lines were answered, each whole, and nothing else was sent.
abbrev pub AnsweredFront : Rules → ℕ → Option (List ℕ) → History → Option (List ℕ) → History
    → Option (List ℕ) → Served → Type 0
AnsweredFront rules greatest input H out H' out' served = (lines : List (List ℕ))
    × (marks : List Bool)
    × IfSome input (λ bytes. IsFront lines (lines_of bytes))
    × Answered rules greatest lines marks H out none_served H' out' served

-- The first lines were answered, each whole, then the first bytes of one more answer were sent.
abbrev pub AnsweredInto : Rules → ℕ → Option (List ℕ) → History → Option (List ℕ) → History
    → Option (List ℕ) → Served → Type 0
AnsweredInto rules greatest input H out H' out' served = (lines : List (List ℕ))
    × (marks : List Bool) × (line : List ℕ) × (mark : Bool) × (H₁ : History)
    × (out₁ : Option (List ℕ))
    × IfSome input (λ bytes. IsFront (lines ++ line ∷ []) (lines_of bytes))
    × Answered rules greatest lines marks H out none_served H₁ out₁ served
    × (H' ≡ line_after rules greatest mark H₁ line)
    × SendsFront out₁ out' (sent_line (line_answer rules greatest mark H₁ line))

-- The answers before a fault: the first lines and, after a failed write, the first bytes of one
-- more answer.
abbrev pub AnsweredUpTo : Rules → ℕ → Option (List ℕ) → History → Option (List ℕ) → History
    → Option (List ℕ) → ServeFault → Type 0
AnsweredUpTo rules greatest input H out H' out' (Read served) =
    AnsweredFront rules greatest input H out H' out' served
AnsweredUpTo rules greatest input H out H' out' (TooManyReads served) =
    AnsweredFront rules greatest input H out H' out' served
AnsweredUpTo rules greatest input H out H' out' (Write served) =
    AnsweredInto rules greatest input H out H' out' served

-- Every line with its line feed in the bytes read was answered.
abbrev pub AnswersEnded : Option (List ℕ) → Option (List ℕ) → Served → Type 0
AnswersEnded input input' served = (bytes : List ℕ) × Consumes input input' bytes
    × (served.answered ≡ length (ended_lines bytes))

-- After a failed read or at the read limit, every line with its line feed in the bytes read was
-- answered.
abbrev pub LeavesNone : Option (List ℕ) → Option (List ℕ) → ServeFault → Type 0
LeavesNone input input' (Read served) = AnswersEnded input input' served
LeavesNone input input' (TooManyReads served) = AnswersEnded input input' served
LeavesNone input input' (Write served) = Unit {0}

-- ---- a run, by how it ended

-- The answers to the input: to all its lines, or those before the fault.
abbrev pub AnswersInput : Option (List ℕ) → Option (List ℕ) → Option (List ℕ)
    → Result Served ServeFault → Ledger → History → Type 0
AnswersInput input out out' (Ok served) G H =
    AnsweredAll G.rules G.greatest input G.history out H out' served
AnswersInput input out out' (Err fault) G H =
    AnsweredUpTo G.rules G.greatest input G.history out H out' fault

-- The input was read to its end, or up to the fault.
abbrev pub ReadsInput : Option (List ℕ) → Option (List ℕ) → Result Served ServeFault → Type 0
ReadsInput input input' (Ok served) = IsAtEnd input'
ReadsInput input input' (Err fault) = LeavesNone input input' fault
