-- The answer to one piece between line feeds.
use Rattle.std.specs.Prelude.{◌≡◌, ◌+◌, Bool, true, List, [], ◌∷◌, ℕ, length, Option, Some, None, Result, Ok, Err, OnOk}
use Rattle.cfx_profile.specs.Answer.{unavailable_text}
use Rattle.desk_types.specs.declared.rules.Rules.{Rules}
use Rattle.desk_types.specs.History.{History}
use Rattle.desk_answers.specs.Ledger.{Ledger}
use Rattle.desk_answers.specs.Counts.{CountsUpToOne}
use Rattle.desk_answers.specs.declared.serving.Served.{Served}
use Rattle.desk_feed.specs.declared.line.LineAnswer.{LineAnswer}
use Rattle.desk_feed.specs.declared.line.LineAnswer.TheVariants.{Made, TooLong, Unavailable}
use Rattle.desk_feed.specs.declared.message.AnswerText.{AnswerText}
use Rattle.desk_feed.specs.declared.message.Verdict.TheVariants as verdict
use Rattle.desk_feed.specs.declared.taking.RawLine.{RawLine}
use Rattle.desk_feed.specs.Lines.{lines_in, without_return}
use Rattle.desk_feed.specs.Taking.{HoldsLine}
use Rattle.desk_answers.specs.Sent.{SendsFront}
use Rattle.desk_feed.specs.Stream.{Answered, sent_line, line_answer, line_after, too_long_text}

-- The answer's text, including fixed texts.
abbrev pub line_told : LineAnswer → AnswerText
line_told (Made told) = told
line_told TooLong = record { text = too_long_text; verdict = verdict.Unreadable }
line_told Unavailable = record { text = unavailable_text; verdict = verdict.Unavailable }

-- The piece is not a line and has no answer, or it is one and has its answer.
abbrev pub AnswersRaw : Rules → ℕ → History → List ℕ → Option LineAnswer → History → Type 0
AnswersRaw rules greatest H raw None H' = (lines_in raw ≡ []) × (H' ≡ H)
AnswersRaw rules greatest H raw (Some answer) H' = (mark : Bool)
    × (lines_in raw ≡ without_return raw ∷ [])
    × (line_told answer ≡ line_answer rules greatest mark H (without_return raw))
    × (H' ≡ line_after rules greatest mark H (without_return raw))

-- The lines of a piece, at most one, were answered.
abbrev pub Serves : Rules → ℕ → List (List ℕ) → History → Option (List ℕ) → Served → History
    → Option (List ℕ) → Served → Type 0
Serves rules greatest lines H out s H' out' s' = (marks : List Bool)
    × Answered rules greatest lines marks H out s H' out' s'

-- The piece is a line, and only the first bytes of its answer were sent.
abbrev pub Breaks : Rules → ℕ → List (List ℕ) → History → Option (List ℕ) → Served → History
    → Option (List ℕ) → Served → Type 0
Breaks rules greatest lines H out s H' out' s' = (mark : Bool) × (line : List ℕ)
    × (lines ≡ line ∷ []) × (s' ≡ s)
    × (H' ≡ line_after rules greatest mark H line)
    × SendsFront out out' (sent_line (line_answer rules greatest mark H line))

-- The lines of a piece were answered: whole, or with only the first bytes of the answer.
abbrev pub SendsLine : {A E : Type 0} → List (List ℕ) → Option (List ℕ) → Served → Option (List ℕ)
    → Served → Result A E → Ledger → History → Type 0
SendsLine lines out s out' s' (Ok done) G H =
    Serves G.rules G.greatest lines G.history out s H out' s'
SendsLine lines out s out' s' (Err fault) G H =
    Breaks G.rules G.greatest lines G.history out s H out' s'

-- At most one more answer was counted: one for each line of the piece, if it was sent whole.
pub record CountsLine {A E : Type 0} (raw : RawLine) (result : Result A E)
    (old new : Served) : Type 0 where
  pub up_to_one : CountsUpToOne old new
  pub each : (bytes : List ℕ) → HoldsLine raw bytes
      → OnOk result (new.answered ≡ old.answered + length (lines_in bytes))
