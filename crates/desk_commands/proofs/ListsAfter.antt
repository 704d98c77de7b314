-- The state after connections, with one more connection, and whether one was faulty.
use Rattle.desk_types.proofs.Common.{[], ◌++◌, ◌||◌, ◌∙◌, ◌∷◌, ◌≡◌, ap, Bool, List, list_any}
use Rattle.desk_types.proofs.Common.{list_any-append, map-append, refl, subst, sym}
use Rattle.desk_answers.specs.Ledger.{ForLists, Ledger}
use Rattle.desk_commands.specs.Clients.{Ended, ends_of, Exchange}
use Rattle.desk_commands.specs.Connections.{AnswersEach, AnswersInTurn, Connected, is_faulty}
use Rattle.gateway_http.proofs.OnlyHistories.{connection-keeps, Keeps, then-keeps}
use Rattle.gateway_http.specs.Requests.{Reports, request_rule}
use Rattle.http_stream.specs.Stream.{ForStates, Rule}
use Rattle.std.proofs.Math.Bool.{or-false as or_false}

each_more : {S : Type 0} (rule : Rule S) (s : S) (es : List Exchange) (e : Exchange) (mid s' : S) → AnswersInTurn rule es s mid → Connected rule mid e s' → AnswersInTurn rule (es ++ e ∷ []) s s'
each_more rule s [] e mid s' same last = (s', subst (λ at. Connected rule at e s') same last, refl)
each_more rule s (d ∷ es) e mid s' each last = (each.0, each.1, each_more rule each.0 es e mid s' each.2 last)

pub ends_more : (es : List Exchange) (e : Exchange) (ended : Ended) → e.ended ≡ ended → ends_of (es ++ e ∷ []) ≡ ends_of es ++ ended ∷ []
ends_more es e ended is = map-append (λ (x : Exchange). x.ended) es (e ∷ []) ∙ ap (λ (x : Ended). ends_of es ++ x ∷ []) is

pub faulty_more : (before last : Bool) (ends : List Ended) (ended : Ended) → before ≡ list_any is_faulty ends → last ≡ is_faulty ended → (before || last) ≡ list_any is_faulty (ends ++ ended ∷ [])
faulty_more before last ends ended told one =
    ap (λ b. b || last) told ∙ ap (λ b. list_any is_faulty ends || b) (one ∙ sym (or_false (is_faulty ended))) ∙ sym (list_any-append is_faulty ends (ended ∷ []))

module _ {A S : Type 0} (rule : Rule S) (Stands : A → S → Type 0) (Trusts : A → Type 0) where
  abbrev pub Serves : A → List Exchange → A → Type 0
  Serves old es new = ForStates Stands Trusts old new (AnswersInTurn rule es)

  abbrev pub ServesOne : A → Exchange → A → Type 0
  ServesOne old e new = ForStates Stands Trusts old new (λ s. Connected rule s e)

  pub serves_none : (old : A) → Serves old [] old
  serves_none old s stands trusts = (s, stands, refl)

  pub serves_more : (a b c : A) (es : List Exchange) (e : Exchange) → (Trusts c → Trusts b) → Serves a es b → ServesOne b e c → Serves a (es ++ e ∷ []) c
  serves_more a b c es e told first last s stands trusts =
      let f = first s stands (told trusts) in
      let l = last f.0 f.1 trusts in
      (l.0, l.1, each_more rule s es e f.0 l.0 f.2 l.2)

-- Of a ledger only the history changes.
module _ (reports : Reports) where
  keeps_each : (es : List Exchange) (G G' : Ledger) → AnswersInTurn (request_rule reports) es G G' → Keeps G G' × AnswersEach (request_rule reports) es G G'.history
  keeps_each [] G G' same = (subst (Keeps G) (sym same) refl, ap (λ (L : Ledger). L.history) same)
  keeps_each (e ∷ es) G G' (mid, one, more) =
      let keeps = connection-keeps reports e.sent e.unread e.before e.after e.ended G mid one in
      let rest = keeps_each es mid G' more in (
        then-keeps G mid G' keeps rest.0,
        (
          mid.history,
          subst (Connected (request_rule reports) G e) keeps one,
          subst (λ (L : Ledger). AnswersEach (request_rule reports) es L G'.history) keeps rest.1,
        ),
      )

  pub lists_in_turn : {A : Type 0} (Stands : A → Ledger → Type 0) (Trusts : A → Type 0) (old new : A) (es : List Exchange)
      → Serves (request_rule reports) Stands Trusts old es new → ForLists Stands Trusts old new (AnswersEach (request_rule reports) es)
  lists_in_turn Stands Trusts old new es all G stands trusts =
      let a = all G stands trusts in
      let keeps = keeps_each es G a.0 a.2 in
      (a.0.history, subst (Stands new) keeps.0 a.1, keeps.1)
