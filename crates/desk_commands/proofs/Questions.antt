-- A question to an owner of a history.
use Rattle.desk_types.proofs.Common.{◌≡◌, List, refl, subst, ℕ}
use Rattle.desk_answers.specs.Ledger.{ForLists, Ledger}
use Rattle.desk_commands.specs.OpenRuns.{AnswersReport}
use Rattle.gateway_http.specs.{Gateways.AnswersGet, Requests.Reports}
use Rattle.http_stream.specs.Answers.{Told}

pub answers_report : {S : Type 0} (Stands : S → Ledger → Type 0) (Trusts : S → Type 0) (reports : Reports) (old new : S) (target bytes : List ℕ) (answer : Told) → bytes ≡ target
    → ((G : Ledger) → Stands old G → Trusts new → AnswersGet reports G bytes answer) → ((G : Ledger) → Stands old G → Trusts new → Stands new G)
    → ForLists Stands Trusts old new (AnswersReport reports target answer)
answers_report Stands Trusts reports old new target bytes answer is told kept G stands trusts =
    (G.history, kept G stands trusts, (refl, subst (λ (at : List ℕ). AnswersGet reports G at answer) is (told G stands trusts)))
