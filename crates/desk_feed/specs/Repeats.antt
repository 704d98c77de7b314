-- An input without its repeats.
use Rattle.std.specs.Prelude.{ℕ, List, [], ◌∷◌, length, Bool, true, false, if◌then◌else◌, nat_lt, Option, Some, Result, Ok}
use Rattle.cfx_profile.specs.declared.fault.MessageFault.{MessageFault}
use Rattle.cfx_profile.specs.declared.message.Said.{Said}
use Rattle.cfx_profile.specs.declared.message.Said.TheVariants.{Asked}
use Rattle.cfx_profile.specs.Message.{said_in}
use Rattle.desk_types.specs.declared.rules.Rules.{Rules}
use Rattle.desk_types.specs.History.{History}
use Rattle.desk_answers.specs.declared.answer.Answer.{Answer}
use Rattle.desk_answers.specs.declared.answer.Answer.TheVariants.{Accepted}
use Rattle.desk_answers.specs.Commands.{earlier_answer}
use Rattle.desk_types.specs.declared.limits.TheConstants.{LONGEST_INPUT}
use Rattle.desk_feed.specs.Stream.{after_lines, line_after}

-- The answer is an earlier one, sent again.
abbrev pub is_again : Option Answer → Bool
is_again (Some (Accepted n text)) = true
is_again _ = false

-- The message was accepted before.
abbrev pub repeats : History → Result Said MessageFault → Bool
repeats H (Ok (Asked s)) = is_again (earlier_answer H s)
repeats H _ = false

-- The line is a message that was accepted before.
abbrev pub is_repeat : History → List ℕ → Bool
is_repeat H line = if nat_lt LONGEST_INPUT (length line) then false else repeats H (said_in line)

-- The lines without those accepted before, either by an earlier line or in the initial history.
abbrev pub without_repeats : Rules → ℕ → History → List (List ℕ) → List (List ℕ)
without_repeats rules greatest H [] = []
without_repeats rules greatest H (line ∷ lines) =
    if is_repeat H line then without_repeats rules greatest H lines
    else line ∷ without_repeats rules greatest (line_after rules greatest false H line) lines

-- No line is answered Unavailable.
abbrev pub no_marks : List (List ℕ) → List Bool
no_marks [] = []
no_marks (line ∷ lines) = false ∷ no_marks lines

-- The history after unmarked lines.
abbrev pub after_all : Rules → ℕ → History → List (List ℕ) → History
after_all rules greatest H lines = after_lines rules greatest (no_marks lines) H lines
