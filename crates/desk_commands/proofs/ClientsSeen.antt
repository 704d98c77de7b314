-- The events of clients, one after another.
use Rattle.desk_types.proofs.Common.{[], ◌++◌, ◌∷◌, ◌≡◌, ◌≢◌, append-nil, append_assoc, flat_map-append, List}
use Rattle.desk_types.proofs.Common.{Option, refl, subst, sym, ℕ}
use Rattle.desk_commands.specs.Clients.{Event, events_at, events_in, events_on, Exchange, no_client, no_line}
use Rattle.desk_commands.specs.Clients.{no_port, Sees, served_all, ServesAt, ServesOn, Serving, Stop}
use Rattle.std.specs.Prelude.{flat_map}

-- The port was open.
pub all_no_port : served_all ≢ no_port
all_no_port is = absurd (cc)

pub client_no_port : no_client ≢ no_port
client_no_port is = absurd (cc)

pub line_no_port : no_line ≢ no_port
line_no_port is = absurd (cc)

module _ {S : Type 0} (Saw : S → List Event → Type 0) where
  pub sees_none : (s : S) → Sees Saw s s []
  sees_none s before saw = subst (Saw s) (sym (append-nil before)) saw

  pub sees_more : (a b c : S) (xs ys : List Event) → Sees Saw a b xs → Sees Saw b c ys → Sees Saw a c (xs ++ ys)
  sees_more a b c xs ys first last before saw = subst (Saw c) (append_assoc before xs ys) (last (before ++ xs) (first before saw))

  -- No event comes last, unless no client could be accepted.
  pub sees_all : (a b : S) (xs : List Event) → Sees Saw a b xs → Sees Saw a b (xs ++ [])
  sees_all a b xs = subst (λ (ys : List Event). Sees Saw a b ys) (sym (append-nil xs))

  pub sees_one_more : (a b c : S) (es : List Exchange) (e : Exchange) → Sees Saw a b (flat_map events_in es) → Sees Saw b c (events_in e) → Sees Saw a c (flat_map events_in (es ++ e ∷ []))
  sees_one_more a b c es e first last =
      subst (λ (xs : List Event). Sees Saw a c xs) (sym (flat_map-append events_in es (e ∷ []))) (sees_more a b c (flat_map events_in es) (events_in e) first last)

  events_behind : (port : ℕ) (es : List Exchange) (stop : Stop) → stop ≢ no_port → events_at port es stop ≡ Event.opened port ∷ events_on es stop
  events_behind port es served_all none = refl
  events_behind port es no_port none = absurd (none refl)
  events_behind port es no_client none = refl
  events_behind port es no_line none = refl

  pub serves_at : (a b c : S) (port : ℕ) (s : Serving) → Sees Saw a b (Event.opened port ∷ []) → ServesOn Saw b c s → ServesAt Saw a c port s
  serves_at a b c port s first (last, none) =
      subst (λ (xs : List Event). Sees Saw a c xs) (sym (events_behind port s.exchanges s.stop none)) (sees_more a b c (Event.opened port ∷ []) (events_on s.exchanges s.stop) first last)

  pub sees_one : {R W : Type 0} (reads : R → Option (List ℕ)) (writes : W → Option (List ℕ)) (a b c : S) (r r₁ r₂ r₃ : R) (w w₁ w₂ w₃ : W) → r₁ ≡ r → w₁ ≡ w → r₃ ≡ r₂ → w₃ ≡ w₂
      → Sees Saw a b (Event.came (reads r) (writes w) ∷ []) → Sees Saw b c (Event.left (reads r₃) (writes w₃) ∷ []) → Sees Saw a c (Event.came (reads r₁) (writes w₁) ∷ Event.left (reads r₂) (writes w₂) ∷ [])
  sees_one reads writes a b c r r₁ r₂ r₃ w w₁ w₂ w₃ same_reader same_writer reader_after writer_after first last =
      let came = subst (λ x. Sees Saw a b (Event.came (reads x) (writes w₁) ∷ [])) (sym same_reader) (subst (λ y. Sees Saw a b (Event.came (reads r) (writes y) ∷ [])) (sym same_writer) first) in
      let left = subst (λ x. Sees Saw b c (Event.left (reads x) (writes w₂) ∷ [])) reader_after (subst (λ y. Sees Saw b c (Event.left (reads r₃) (writes y) ∷ [])) writer_after last) in
      sees_more a b c (Event.came (reads r₁) (writes w₁) ∷ []) (Event.left (reads r₂) (writes w₂) ∷ []) came left
