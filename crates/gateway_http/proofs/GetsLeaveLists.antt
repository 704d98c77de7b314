-- A GET leaves the history unchanged.
use Rattle.desk_types.proofs.Common.{[], ⊤, ◌∙◌, ◌≡◌, Bool, codes, Err, false, inl, inr, List, None}
use Rattle.desk_types.proofs.Common.{Ok, ok_or, Option, refl, Result, Some, true, ℕ}
use Rattle.cfx_profile.specs.Fault.{◌>>=◌}
use Rattle.desk_answers.specs.Ledger.{Ledger}
use Rattle.gateway_http.specs.Asked.{asked_at, asked_of, boards_in, check_method, detail_in, id_in, path_of}
use Rattle.gateway_http.specs.Asked.{query_of}
use Rattle.gateway_http.specs.Gateways.{AnswersGet}
use Rattle.gateway_http.specs.Repeats.{get_of}
use Rattle.gateway_http.specs.Requests.{asked_outcome, Reports, request_rule}
use Rattle.gateway_http.specs.Routes.{route_method, route_of}
use Rattle.gateway_http.specs.declared.asked.Asked.{Asked}
use Rattle.gateway_http.specs.declared.fault.AskFault.{AskFault}
use Rattle.gateway_http.specs.declared.fault.AskFault.TheVariants.{NoPath}
use Rattle.gateway_http.specs.declared.routes.Route.{Route}
use Rattle.gateway_http.specs.declared.routes.Route.TheVariants.{ImportCounts, ImportSetup, Kit, Messages}
use Rattle.gateway_http.specs.declared.routes.Route.TheVariants.{Overdue, Reel, Slots, TraceBoard, TraceLot}
use Rattle.http_stream.specs.Answers.{Told}
use Rattle.http_stream.specs.Stream.{AnswersRequest, request_outcome}
use Rattle.gateway_http.specs.declared.asked.Asked.TheVariants as asks
use Rattle.gateway_http.specs.declared.parameter.Parameter.TheVariants as parameter

-- The request is for a report, or has a fault.
abbrev Asks : Result Asked AskFault → Type 0
Asks (Ok (asks.Report report)) = ⊤
Asks (Ok asks.Message) = ⊥
Asks (Ok (asks.Import import)) = ⊥
Asks (Err fault) = ⊤

stays : (reports : Reports) (L : Ledger) (body : List ℕ) (a : Result Asked AskFault) → Asks a → (asked_outcome reports L body a).after ≡ L
stays reports L body (Ok (asks.Report report)) asked_of = refl
stays reports L body (Ok asks.Message) asked_of = absurd asked_of
stays reports L body (Ok (asks.Import import)) asked_of = absurd asked_of
stays reports L body (Err fault) asked_of = refl

after : {X : Type 0} (m : Result X AskFault) (rest : X → Result Asked AskFault) → ((x : X) → Asks (rest x)) → Asks (m >>= rest)
after (Ok x) rest asks-all = asks-all x
after (Err fault) rest asks-all = tt

by-route : (route : Route) (query : List ℕ) → Asks (check_method (codes "GET") (route_method route) >>= (λ allowed. asked_at route query))
unfolding asked_at
by-route Messages query = tt
by-route ImportSetup query = tt
by-route ImportCounts query = tt
by-route TraceBoard query = after (id_in parameter.Board query) _ (λ board. after (detail_in query) _ (λ detail. tt))
by-route TraceLot query = after (id_in parameter.Lot query) _ (λ lot. after (detail_in query) _ (λ detail. tt))
by-route Reel query = after (id_in parameter.Reel query) _ (λ reel. tt)
by-route Slots query = after (id_in parameter.Machine query) _ (λ machine. tt)
by-route Kit query = after (id_in parameter.Product query) _ (λ product. after (id_in parameter.Machine query) _ (λ machine. after (boards_in query) _ (λ boards. tt)))
by-route Overdue query = tt

by-path : (o : Option Route) (query : List ℕ) → Asks (ok_or o NoPath >>= (λ found. check_method (codes "GET") (route_method found) >>= (λ allowed. asked_at found query)))
by-path None query = tt
by-path (Some route) query = by-route route query

pub get-stays : (reports : Reports) (L : Ledger) (target : List ℕ) → (request_rule reports L (get_of target)).after ≡ L
unfolding asked_of
get-stays reports L target = stays reports L [] (asked_of (codes "GET") target) (by-path (route_of (path_of target)) (query_of target))

pub get-told : (reports : Reports) (G : Ledger) (target : List ℕ) (told : Told) (G' : Ledger)
    → AnswersRequest (request_rule reports) (get_of target) G told G' → AnswersGet reports G target told × (G' ≡ G)
get-told reports G target told G' (mark, is, after) = by mark is after
  where
    by : (mark : Bool) → told ≡ (request_outcome (request_rule reports) mark G (get_of target)).told
        → G' ≡ (request_outcome (request_rule reports) mark G (get_of target)).after → AnswersGet reports G target told × (G' ≡ G)
    by true is after = (inr is, after)
    by false is after = (inl is, after ∙ get-stays reports G target)
