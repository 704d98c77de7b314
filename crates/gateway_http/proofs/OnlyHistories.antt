-- A connection changes only the history of a ledger.
use Rattle.desk_types.proofs.Common.{[], ◌∙◌, ◌∷◌, ◌≡◌, ap, Bool, Err, false, List, Ok, Option, refl, Result}
use Rattle.desk_types.proofs.Common.{subst, sym, true, ℕ}
use Rattle.desk_answers.specs.Ledger.{ForLists, Ledger}
use Rattle.desk_answers.specs.declared.serving.ServeFault.{ServeFault}
use Rattle.desk_answers.specs.declared.serving.ServeFault.TheVariants.{Read, TooManyReads, Write}
use Rattle.desk_answers.specs.declared.serving.Served.{Served}
use Rattle.gateway_http.specs.Asked.{asked_of}
use Rattle.gateway_http.specs.Requests.{asked_outcome, Reports, request_rule}
use Rattle.gateway_http.specs.declared.asked.Asked.{Asked}
use Rattle.gateway_http.specs.declared.fault.AskFault.{AskFault}
use Rattle.http_stream.specs.Cut.{bad_head, head_too_large, Portion, starved, unread, whole}
use Rattle.http_stream.specs.Stream.{answer, Answered, AnswersConnection, ForStates, outcome, state_after}
use Rattle.gateway_http.specs.declared.asked.Asked.TheVariants as asks

abbrev pub Keeps : Ledger → Ledger → Type 0
Keeps G G' = G' ≡ record G { history = G'.history }

pub then-keeps : (G G₁ G₂ : Ledger) → Keeps G G₁ → Keeps G₁ G₂ → Keeps G G₂
then-keeps G G₁ G₂ first more = more ∙ ap (λ (L : Ledger). record L { history = G₂.history }) first

module _ (reports : Reports) where
  asked-keeps : (G : Ledger) (body : List ℕ) (a : Result Asked AskFault)
      → Keeps G (asked_outcome reports G body a).after
  asked-keeps G body (Ok asks.Message) = refl
  asked-keeps G body (Ok (asks.Import import)) = refl
  asked-keeps G body (Ok (asks.Report report)) = refl
  asked-keeps G body (Err fault) = refl

  one-keeps : (mark : Bool) (G : Ledger) (p : Portion) → Keeps G (outcome (request_rule reports) mark G p).after
  one-keeps true G (whole r ends) = refl
  one-keeps false G (whole r ends) = asked-keeps G r.body (asked_of r.method r.target)
  one-keeps mark G bad_head = refl
  one-keeps mark G head_too_large = refl
  one-keeps mark G (unread method fault) = refl
  one-keeps mark G starved = refl

  all-keep : (marks : List Bool) (G : Ledger) (ps : List Portion)
      → Keeps G (state_after (request_rule reports) marks G ps)
  all-keep [] G ps = refl
  all-keep (m ∷ ms) G [] = refl
  all-keep (m ∷ ms) G (p ∷ ps) =
      let G₁ = (answer (request_rule reports) m G p).after in
      then-keeps G G₁ (state_after (request_rule reports) ms G₁ ps) (one-keeps m G p) (all-keep ms G₁ ps)

  answered-keeps : {G G' : Ledger} {ps : List Portion} {marks : List Bool} {out out' : Option (List ℕ)} {k k' : Served}
      → Answered (request_rule reports) ps marks G out k G' out' k' → Keeps G G'
  answered-keeps {G} {ps = ps} {marks = marks} is = subst (Keeps G) (sym is.state) (all-keep marks G ps)

  module _ (input input' out out' : Option (List ℕ)) where
    pub connection-keeps : (ended : Result Served ServeFault) (G G' : Ledger)
        → AnswersConnection (request_rule reports) input input' out out' ended G G' → Keeps G G'
    connection-keeps (Ok served) G G' (ps, marks, cut, is) = answered-keeps is
    connection-keeps (Err (Read served)) G G' (ps, marks, front, is) = answered-keeps is
    connection-keeps (Err (TooManyReads served)) G G' (ps, marks, front, is) = answered-keeps is
    connection-keeps (Err (Write served)) G G' (ps, marks, p, mark, G₁, out₁, front, is, after, sent) =
        then-keeps G G₁ G' (answered-keeps is) (subst (Keeps G₁) (sym after) (one-keeps mark G₁ p))

    pub lists_after : {S : Type 0} (Stands : S → Ledger → Type 0) (Trusts : S → Type 0) (old new : S)
        (ended : Result Served ServeFault)
        → ForStates Stands Trusts old new (AnswersConnection (request_rule reports) input input' out out' ended)
        → ForLists Stands Trusts old new (λ G H. AnswersConnection (request_rule reports) input input' out out' ended G
        (record G { history = H }))
    lists_after Stands Trusts old new ended all G stands trusts =
        let a = all G stands trusts in
        let keeps = connection-keeps ended G a.0 a.2 in
        let fact = AnswersConnection (request_rule reports) input input' out out' ended G in
        (a.0.history, subst (Stands new) keeps a.1, subst fact keeps a.2)
