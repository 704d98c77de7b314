-- The effects of answers on an owner.
use Rattle.std.specs.Prelude.{◌≡◌, ◌⊎◌, ℕ, List, Result, IfOk, OnErr}
use Rattle.desk_answers.specs.Ledger.{Ledger}
use Rattle.http_stream.specs.Answers.{Told, response_told, unavailable}
use Rattle.http_stream.specs.Stream.{Outcome}
use Rattle.http_stream.specs.declared.response.Response.{Response}
use Rattle.gateway_http.specs.Repeats.{get_of}
use Rattle.gateway_http.specs.Requests.{Reports, request_rule}

-- If the storage has not lied, then for each ledger represented before: the response is that of the
-- outcome, with its ledger; or there is no response, and the history is unchanged.
abbrev pub Meets : {S E : Type 0} → (S → Ledger → Type 0) → (S → Type 0) → S → S → Result Response E
    → (Ledger → Outcome Ledger) → Type 0
Meets Stands Trusts old new result outcome = (G : Ledger) → Stands old G → Trusts new →
    IfOk result (λ response. (response_told response ≡ (outcome G).told)
    × Stands new (outcome G).after) × OnErr result (Stands new G)

-- The answer to a GET with this target: the rule's, or Unavailable.
abbrev pub AnswersGet : Reports → Ledger → List ℕ → Told → Type 0
AnswersGet reports G target told = (told ≡ (request_rule reports G (get_of target)).told)
    ⊎ (told ≡ unavailable)
