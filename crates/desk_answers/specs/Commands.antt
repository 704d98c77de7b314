-- The answer to a command and the history after it, given the commands accepted before.
use Rattle.std.specs.Prelude.{ℕ, ◌+◌, nat_le, Bool, true, false, is_some, ◌||◌, Option, Some, None, List, [], ◌∷◌, length, if◌then◌else◌, unwrap_or}
use Rattle.desk_types.specs.declared.answer.Reply.{Reply}
use Rattle.desk_types.specs.declared.answer.Reply.TheVariants as reply
use Rattle.desk_types.specs.declared.command.Entry.{Entry}
use Rattle.desk_types.specs.declared.command.Stamped.{Stamped}
use Rattle.desk_types.specs.declared.rules.Rules.{Rules}
use Rattle.desk_types.specs.Id.{Name, same}
use Rattle.desk_types.specs.History.{History}
use Rattle.desk_types.specs.Outcome.{detail_of, reply_to, after_command}
use Rattle.cfx_profile.specs.Answer.{unavailable_text}
use Rattle.desk_answers.specs.declared.answer.Answer.{Answer}
use Rattle.desk_answers.specs.declared.answer.Answer.TheVariants.{Accepted, Refused, IdReused, DeskFull, Unavailable}
use Rattle.desk_answers.specs.Repeats.{is_same}
use Rattle.desk_answers.specs.Texts.{accepted_text, refused_text, id_reused_text, desk_full_text}

-- ---- answers to accepted commands

-- The text of the answer to an entry accepted after G.
abbrev pub first_text : History → Entry → List ℕ
first_text G e = accepted_text e.number e.stamped.uid (detail_of G e.effective e.stamped.command)

-- The texts of the answers to all entries, newest first.
abbrev pub texts_of : History → List (List ℕ)
texts_of [] = []
texts_of (e ∷ G) = first_text G e ∷ texts_of G

-- ---- answers to new commands

-- The answer to a message with the UniqueID of an entry accepted after G: the first answer again
-- for the same message, or else that the UniqueID is in use.
abbrev pub answer_under : History → Entry → Stamped → Answer
answer_under G e s = if is_same e.stamped s then Accepted e.number (first_text G e)
    else IdReused e.number

-- The answer from the entry with the same UniqueID, if there is one.
abbrev pub earlier_answer : History → Stamped → Option Answer
earlier_answer [] s = None
earlier_answer (e ∷ G) s = if same e.stamped.uid s.uid then Some (answer_under G e s)
    else earlier_answer G s

-- The answer from judging the command.
abbrev pub judged_answer : History → Stamped → Reply → Answer
judged_answer H s (reply.Accepted detail) =
    Accepted (length H + 1) (accepted_text (length H + 1) s.uid detail)
judged_answer H s (reply.Refused refusal) = Refused refusal

-- Whether all numbers are in use.
abbrev pub is_full : ℕ → History → Bool
is_full greatest H = nat_le greatest (length H)

-- The answer to a command after H, from the first of: an entry with its UniqueID, a full desk, the
-- judgement.
abbrev pub command_answer : Rules → ℕ → History → Stamped → Answer
command_answer rules greatest H s = unwrap_or (earlier_answer H s)
    (if is_full greatest H then DeskFull else judged_answer H s (reply_to rules H s))

-- The history after the command, extended only if the command is judged and accepted.
abbrev pub command_after : Rules → ℕ → History → Stamped → History
command_after rules greatest H s = if is_some (earlier_answer H s) || is_full greatest H then H
    else after_command rules H s

-- ---- texts

abbrev pub answer_text : Name → Answer → List ℕ
answer_text uid (Accepted n text) = text
answer_text uid (Refused refusal) = refused_text refusal uid
answer_text uid (IdReused n) = id_reused_text n uid
answer_text uid DeskFull = desk_full_text uid
answer_text uid Unavailable = unavailable_text

-- Whether the answer counts as refused: all except Accepted do.
abbrev pub is_refused : Answer → Bool
is_refused (Accepted n text) = false
is_refused _ = true
