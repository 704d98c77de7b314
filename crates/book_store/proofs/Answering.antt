-- What both lists keep of a message that is answered.
use Rattle.desk_types.proofs.Common.{[], ◌++◌, ◌<◌, ◌||◌, ◌∙◌, ◌∷◌, ◌≡◌, accept, after_command, ap, append-nil}
use Rattle.desk_types.proofs.Common.{arith, Bool, change_of, Err, false, if◌then◌else◌, is_some, length, List}
use Rattle.desk_types.proofs.Common.{MatchBool, nat_lt, nat_tests, None, Ok, Option, refl, reply_to, Result, Some}
use Rattle.desk_types.proofs.Common.{subst, sym, tape_of, true, unwrap_or, ℕ}
use Rattle.desk_types.specs.declared.change.Change.{Change}
use Rattle.desk_types.specs.declared.answer.Reply.TheVariants as reply
use Rattle.desk_types.specs.{Desk.IsChange, History.History}
use Rattle.desk_laws.proofs.Common.{Stamped, Two}
use Rattle.desk_answers.specs.Commands.{command_after, command_answer, earlier_answer, is_full, judged_answer}
use Rattle.desk_answers.specs.declared.answer.Answer.{Answer}
use Rattle.desk_answers.specs.declared.answer.Answer.TheVariants.{Accepted, DeskFull}
use Rattle.cfx_profile.specs.declared.fault.MessageFault.{MessageFault}
use Rattle.cfx_profile.specs.declared.message.Said.{Said}
use Rattle.cfx_profile.specs.declared.message.Said.TheVariants.{Asked, Ignored}
use Rattle.desk_feed.specs.declared.message.AnswerText.{AnswerText}
use Rattle.line_book.specs.declared.note.Note.{Note}
use Rattle.line_book.specs.declared.reading.Reading.{Reading}
use Rattle.line_book.specs.declared.row.BookRow.{BookRow}
use Rattle.line_book.specs.{Rows.first_reading, Undecided.is_known}
use Rattle.line_book_store.specs.Checking.{AreRead}
use Rattle.line_entries.specs.declared.row.Sender.{Sender}
use Rattle.line_members.proofs.Entries.{of_change}
use Rattle.line_members.specs.Accepted.{accepted}
use Rattle.line_members.specs.declared.finding.Finding.{Finding}
use Rattle.line_schema.proofs.StandsAfter.{accepted_to, answered_as}
use Rattle.line_schema.specs.{Stands.Kept, Verdict.IsAccepted}
use Rattle.line_schema.specs.declared.unavailable.Unavailable.{Unavailable as Fault}
use Rattle.book_store.proofs.AddingFindings.{adds_findings}
use Rattle.book_store.specs.Accepted.{KeepsCommand, with_both}
use Rattle.book_store.specs.Answered.{AnswersCommand, AnswersSaid, command_told, fault_told, ignored_told, KeepsRefusal}
use Rattle.book_store.specs.Answered.{with_history}
use Rattle.book_store.specs.Findings.{AddsFindings, AreRowsOf, findings_of}
use Rattle.book_store.specs.Lists.{Lists}
use Rattle.book_store.specs.Noted.{AddsEntry, fault_entry, KeepsAny, nobody, place_in, refusal_entry, sender_of}

-- ---- a command that isn't accepted

module _ (L : Lists) (sender : Sender) (told : List ℕ) (N : Lists) where
  kept_of : (n : Note) (known : Bool) → MatchBool known (N ≡ L) (AddsEntry L n sender told N) → N.kept ≡ L.kept
  kept_of n true keeps = ap (λ (M : Lists). M.kept) keeps
  kept_of n false keeps = ap (λ (M : Lists). M.kept) keeps.2

  keeps_history : (o : Option Note) → KeepsAny L o sender told N → N.kept ≡ L.kept
  keeps_history None keeps = ap (λ (M : Lists). M.kept) keeps
  keeps_history (Some n) keeps = kept_of n (is_known L.kept.history L.notes n) keeps

-- The history stays.
same_history : (L : Lists) (sender : Sender) (told : List ℕ) (N : Lists) (H : History) (o : Option Note)
    → KeepsAny L o sender told N → H ≡ L.kept.history → N ≡ with_history N H
same_history L sender told N H o keeps is =
    let kept : N.kept ≡ L.kept = keeps_history L sender told N o keeps in
    let same : N.kept.history ≡ H = ap (λ (K : Kept). K.history) kept ∙ sym is in
    ap (with_history N) same

-- A command without a message.
pub still_answered : (L : Lists) (s : Stamped) (answer : Answer) (text : AnswerText)
    → answer ≡ command_answer Two L.kept.greatest L.kept.history s
    → command_after Two L.kept.greatest L.kept.history s ≡ L.kept.history → text ≡ command_told s answer
    → AnswersCommand L s text L
still_answered L s answer text is stays told = (told ∙ ap (command_told s) is, ap (with_history L) (sym stays))

-- ---- a command that is accepted

abbrev answer_with : Kept → Stamped → Option Answer → Bool → Answer
answer_with L s o full = unwrap_or o (if full then DeskFull else judged_answer L.history s (reply_to Two L.history s))

abbrev after_with : Kept → Stamped → Option Answer → Bool → History
after_with L s o full = if is_some o || full then L.history else after_command Two L.history s

module _ (L : Kept) (s : Stamped) (none : earlier_answer L.history s ≡ None)
    (room : length L.history < L.greatest) where
  not_full : is_full L.greatest L.history ≡ false
  not_full = grind (arith, nat_tests)

  new_answer : command_answer Two L.greatest L.history s ≡ judged_answer L.history s (reply_to Two L.history s)
  new_answer = ap (λ (o : Option Answer). answer_with L s o (is_full L.greatest L.history)) none
      ∙ ap (answer_with L s None) not_full

  new_after : command_after Two L.greatest L.history s ≡ after_command Two L.history s
  new_after = ap (λ (o : Option Answer). after_with L s o (is_full L.greatest L.history)) none
      ∙ ap (after_with L s None) not_full

  module _ (change : Change) (is : IsChange Two L.history s change) where
    change_answer : command_answer Two L.greatest L.history s
        ≡ judged_answer L.history change.stamped (reply.Accepted change.detail)
    change_answer =
        let answer = judged_answer L.history change.stamped (reply.Accepted change.detail) in
        let r : Result Answer Fault = Ok answer in
        new_answer ∙ sym (answered_as L.history s change r is refl)

pub accepted_is : (L : Kept) (s : Stamped) (change : Change) → IsAccepted L s change
    → command_answer Two L.greatest L.history s
    ≡ judged_answer L.history change.stamped (reply.Accepted change.detail)
accepted_is L s change is = change_answer L s is.first is.room change is.is

none_read : (before after : Reading) (notes : List Note) → AreRead before [] notes after → notes ≡ []
none_read before after [] are = refl
none_read before after (n ∷ notes) are = absurd are

-- No entries came with it.
both_alone : (L : Lists) (s : Stamped) (notes : List Note) → notes ≡ [] → with_both L s [] notes ≡ with_history L
    (accept L.kept.history s)
both_alone L s notes is =
    let rows : L.rows ++ [] ≡ L.rows = append-nil L.rows in
    let same : L.notes ++ notes ≡ L.notes = ap (λ ns. L.notes ++ ns) is ∙ append-nil L.notes in
    let kept : Kept = record L.kept { history = accept L.kept.history s } in
    λ i. record { kept = kept; rows = rows i; notes = same i }

pub command_accepted : (L : Lists) (s : Stamped) (change : Change) (before : Reading) (answer : Answer) (M : Lists)
    → IsAccepted L.kept s change → KeepsCommand L before change [] answer M
    → AnswersCommand L s (command_told s answer) M
command_accepted L s change before answer M is accepts =
    let H = L.kept.history in
    let r : Result Answer Fault = Ok answer in
    let after : accept H change.stamped ≡ after_command Two H s = accepted_to (λ (G : History). accept H change.stamped
    ≡ G) r H s change is.is refl in
    let history : accept H change.stamped ≡ command_after Two L.kept.greatest H s = after
    ∙ sym (new_after L.kept s is.first is.room) in (
      ap (command_told s) (accepts.answer ∙ sym (accepted_is L.kept s change is)),
      accepts.lists
          ∙ both_alone L change.stamped accepts.notes (none_read before accepts.after accepts.notes accepts.are.read)
          ∙ ap (with_history L) history,
    )

-- ---- a message

-- It has no findings if the history stays.
none_found : (L : Lists) (told : List ℕ) (s : Stamped)
    → command_after Two L.kept.greatest L.kept.history s ≡ L.kept.history
    → findings_of Two L.kept.greatest L.kept.history told s ≡ []
none_found L told s stays =
    let H = L.kept.history in
    let all = accepted told (tape_of H) (change_of H s) in
    let same : nat_lt (length H) (length H) ≡ false = grind (arith, nat_tests) in
    ap (λ (G : History). if nat_lt (length H) (length G) then all else []) stays
    ∙ ap (λ (b : Bool). if b then all else []) same

all_found : (L : Lists) (told : List ℕ) (s s' : Stamped)
    → accept L.kept.history s' ≡ command_after Two L.kept.greatest L.kept.history s
    → findings_of Two L.kept.greatest L.kept.history told s
    ≡ accepted told (tape_of L.kept.history) (change_of L.kept.history s)
all_found L told s s' grows =
    let H = L.kept.history in
    let all = accepted told (tape_of H) (change_of H s) in
    let more : nat_lt (length H) (length (accept H s')) ≡ true = grind (arith, nat_tests) in
    ap (λ (G : History). if nat_lt (length H) (length G) then all else []) (sym grows)
    ∙ ap (λ (b : Bool). if b then all else []) more

-- A refused command.
pub refusal_answered : (L : Lists) (told : List ℕ) (s : Stamped) (answer : Answer) (text : AnswerText) (N : Lists)
    → answer ≡ command_answer Two L.kept.greatest L.kept.history s
    → command_after Two L.kept.greatest L.kept.history s ≡ L.kept.history → KeepsRefusal L told s answer text N
    → AnswersSaid L told (Ok (Asked s)) text N
refusal_answered L told s answer text N is stays keeps =
    let entry = subst (λ (a : Answer). KeepsAny L (refusal_entry L s a) (sender_of s) told N) is keeps.1 in (
      keeps.0 ∙ ap (command_told s) is,
      N,
      entry,
      N,
      subst (λ (fs : List Finding). AddsFindings N fs (sender_of s) N) (sym (none_found L told s stays)) refl,
      same_history L (sender_of s) told N (command_after Two L.kept.greatest L.kept.history s)
          (refusal_entry L s answer) keeps.1 stays,
    )

-- A faulty message.
pub fault_answered : (L : Lists) (told : List ℕ) (fault : MessageFault) (text : AnswerText) (N : Lists)
    → text ≡ fault_told fault → KeepsAny L (fault_entry L told fault) nobody told N
    → AnswersSaid L told (Err fault) text N
fault_answered L told fault text N is keeps = (
  is,
  N,
  keeps,
  N,
  refl,
  same_history L nobody told N L.kept.history (fault_entry L told fault) keeps refl,
)

-- An accepted command, with the rows of its findings.
pub heard_accepted : (L : Lists) (told : List ℕ) (s : Stamped) (change : Change) (before : Reading)
    (rows : List BookRow) (answer : Answer) (M : Lists) → IsAccepted L.kept s change
    → AreRead (first_reading (length L.kept.history)) L.rows L.notes before
    → AreRowsOf (place_in L) (accepted told (tape_of L.kept.history) change) (sender_of change.stamped) rows
    → KeepsCommand L before change rows answer M → AnswersSaid L told (Ok (Asked s)) (command_told s answer) M
heard_accepted L told s change before rows answer M is was are accepts =
    let H = L.kept.history in
    let r : Result Answer Fault = Ok answer in
    let after : accept H change.stamped ≡ after_command Two H s = accepted_to (λ (G : History). accept H change.stamped
    ≡ G) r H s change is.is refl in
    let history : accept H change.stamped ≡ command_after Two L.kept.greatest H s = after
    ∙ sym (new_after L.kept s is.first is.room) in
    let O : Lists = record L { rows = L.rows ++ rows; notes = L.notes ++ accepts.notes } in
    let own : AreRowsOf (place_in L) (accepted told (tape_of H) (change_of H s)) (sender_of s) rows = subst
    (λ (c : Change). AreRowsOf (place_in L) (accepted told (tape_of H) c) (sender_of c.stamped) rows) is.is.value
    are in
    let adds = adds_findings (sender_of s) L before accepts.after (accepted told (tape_of H) (change_of H s)) rows
    accepts.notes was (of_change told (tape_of H) (change_of H s)) own accepts.are.read in (
      ap (command_told s) (accepts.answer ∙ sym (accepted_is L.kept s change is)),
      L,
      subst (λ (a : Answer). KeepsAny L (refusal_entry L s a) (sender_of s) told L)
          (sym (accepted_is L.kept s change is)) refl,
      O,
      subst (λ (fs : List Finding). AddsFindings L fs (sender_of s) O)
          (sym (all_found L told s change.stamped history)) adds,
      accepts.lists ∙ ap (with_history O) history,
    )

-- The entry that was made is kept.
pub refusal_kept : (L : Lists) (told : List ℕ) (s : Stamped) (answer : Answer) (entry : Option Note) (N : Lists)
    → entry ≡ refusal_entry L s answer → KeepsAny L entry (sender_of s) told N
    → KeepsRefusal L told s answer (command_told s answer) N
refusal_kept L told s answer entry N is keeps =
    (refl, subst (λ (o : Option Note). KeepsAny L o (sender_of s) told N) is keeps)

pub fault_kept : (L : Lists) (told : List ℕ) (fault : MessageFault) (entry : Option Note) (text : AnswerText)
    (N : Lists) → entry ≡ fault_entry L told fault → text ≡ fault_told fault → KeepsAny L entry nobody told N
    → AnswersSaid L told (Err fault) text N
fault_kept L told fault entry text N is same keeps = fault_answered L told fault text N same
    (subst (λ (o : Option Note). KeepsAny L o nobody told N) is keeps)

pub ignored_answered : (L : Lists) (told name : List ℕ) (text : AnswerText) → text ≡ ignored_told name
    → AnswersSaid L told (Ok (Ignored name)) text L
ignored_answered L told name text is = (is, L, refl, L, refl, refl)

-- The answer to its content is that to the message.
pub said_answered : (L : Lists) (told : List ℕ) (said other : Result Said MessageFault) (text : AnswerText) (M : Lists)
    → said ≡ other → AnswersSaid L told other text M → AnswersSaid L told said text M
said_answered L told said other text M is answers = subst
    (λ (r : Result Said MessageFault). AnswersSaid L told r text M) (sym is) answers
