-- Any number of calls on one desk, in sequence.
use Rattle.std.specs.Prelude.{◌≡◌, ℕ, Bool, List, [], ◌∷◌, Option, Result, Ok, Err, IfOk}
use Rattle.desk_types.specs.declared.command.Stamped.{Stamped}
use Rattle.desk_types.specs.History.{History}
use Rattle.desk_answers.specs.declared.answer.Answer.{Answer}
use Rattle.desk_answers.specs.Ledger.{Ledger, IsAnswer, ledger_after, ForLists}
use Rattle.desk_answers.specs.declared.serving.Served.{Served}
use Rattle.desk_answers.specs.declared.serving.ServeFault.{ServeFault}
use Rattle.desk_answers.specs.declared.sending.WriteFailed.{WriteFailed}
use Rattle.desk_feed.specs.Stream as lines
use Rattle.desk_feed.specs.Import as file
use Rattle.imports.specs.declared.import.Import.{Import}
use Rattle.imports.specs.declared.fault.ImportFault.{ImportFault}
use Rattle.gateway_http.specs.declared.asked.Report.{Report}
use Rattle.http_stream.specs.Answers.{Told}
use Rattle.http_stream.specs.Stream.{AnswersConnection}
use Rattle.gateway_http.specs.Gateways.{AnswersGet}
use Rattle.gateway_http.specs.Requests.{Reports, request_rule}
use Rattle.line_schema.specs.declared.unavailable.Unavailable.{Unavailable}

-- The end of a feed or connection: the counts of answers, and the fault, if any.
abbrev pub Ended : Type 0
Ended = Result Served ServeFault

-- The end of an import: whether its answer counts as refused, or that writing it failed.
abbrev pub ImportEnded : Type 0
ImportEnded = Result Bool WriteFailed

-- A call with its results. Bytes that a reader or writer doesn't know are left out.
--
-- - `fed`: the input's bytes, and the output's before and after.
-- - `connected`: the same, and the rest of the input.
-- - `commanded`: the command and its answer.
-- - `asked`: the target and its answer.
-- - `reported`: the report and its result.
-- - `imported`: the options, the file's bytes, and the output's before and after.
pub data Call : Type 0 where
  fed : Option (List ℕ) → Option (List ℕ) → Option (List ℕ) → Ended → Call
  connected : Option (List ℕ) → Option (List ℕ) → Option (List ℕ) → Option (List ℕ) → Ended → Call
  commanded : Stamped → Answer → Call
  asked : List ℕ → Told → Call
  reported : Report → Result (Option (List ℕ)) Unavailable → Call
  imported : Import → Option (List ℕ) → Option (List ℕ) → Option (List ℕ) → ImportEnded → Call

-- The lines were answered from the ledger G, and H is the history after them.
abbrev pub Feeds : Ledger → Option (List ℕ) → Option (List ℕ) → Option (List ℕ)
    → Ended → History → Type 0
Feeds G input out out' (Ok served) H =
    lines.AnsweredAll G.rules G.greatest input G.history out H out' served
Feeds G input out out' (Err fault) H =
    lines.AnsweredUpTo G.rules G.greatest input G.history out H out' fault

-- An import's command, or its file's first fault, was answered from the ledger G, and H is the
-- history after it.
abbrev pub Imports : Ledger → Import → Option (List ℕ) → Option (List ℕ) → Option (List ℕ)
    → ImportEnded → History → Type 0
Imports G import bytes out out' (Ok refused) H = (said : Result Stamped ImportFault)
    × file.IsSaidBy import bytes said × file.IsAnswered said out out' refused G H
Imports G import bytes out out' (Err fault) H = (said : Result Stamped ImportFault)
    × file.IsSaidBy import bytes said × file.IsCutOff said out out' G H

-- The call was answered from the ledger G with these reports, and H is the history after it.
abbrev pub IsAnswered : Reports → Ledger → Call → History → Type 0
IsAnswered reports G (fed input out out' ended) H = Feeds G input out out' ended H
IsAnswered reports G (connected input left out out' ended) H =
    AnswersConnection (request_rule reports) input left out out' ended G (record G { history = H })
IsAnswered reports G (commanded s answer) H = IsAnswer G s answer
    × (H ≡ (ledger_after G s answer).history)
IsAnswered reports G (asked target told) H = AnswersGet reports G target told × (H ≡ G.history)
IsAnswered reports G (reported report result) H =
    IfOk result (λ text. text ≡ reports report G.history) × (H ≡ G.history)
IsAnswered reports G (imported import bytes out out' ended) H =
    Imports G import bytes out out' ended H

-- Each call was answered from the history that the one before it left.
abbrev pub AnswersByTheList : Reports → Ledger → List Call → History → Type 0
AnswersByTheList reports G [] H = H ≡ G.history
AnswersByTheList reports G (call ∷ calls) H = (H₁ : History) × IsAnswered reports G call H₁
    × AnswersByTheList reports (record G { history = H₁ }) calls H

-- If its storage has not lied, the owner answers a call from its history and then represents the
-- history after it.
abbrev pub CallsOnce : {S : Type 0} → Reports → (S → Ledger → Type 0)
    → (S → Type 0) → S → Call → S → Type 0
CallsOnce reports Stands Trusts old call new = (Trusts new → Trusts old)
    × ForLists Stands Trusts old new (λ G H. IsAnswered reports G call H)

-- Several calls on one owner, in sequence.
abbrev pub Calls : {S : Type 0} → Reports → (S → Ledger → Type 0) → (S → Type 0)
    → S → List Call → S → Type 0
Calls reports Stands Trusts old [] new = new ≡ old
Calls reports Stands Trusts old (call ∷ calls) new = (mid : _)
    × CallsOnce reports Stands Trusts old call mid × Calls reports Stands Trusts mid calls new
