-- Several calls in sequence.
use Rattle.desk_types.proofs.Common.{[], ◌∷◌, List, refl, subst, sym}
use Rattle.desk_answers.specs.Ledger.{ForLists, Ledger}
use Rattle.gateway_http.specs.Requests.{Reports}
use Rattle.headline.specs.Calls.{AnswersByTheList, Call, Calls}

module _ {S : Type 0} (reports : Reports) (Stands : S → Ledger → Type 0) (Trusts : S → Type 0) where
  pub trusts_back : (calls : List Call) (old new : S) → Calls reports Stands Trusts old calls new → Trusts new → Trusts old
  trusts_back [] old new same trusts = subst (λ (s : S). Trusts s) same trusts
  trusts_back (call ∷ calls) old new (mid, one, rest) trusts = one.0 (trusts_back calls mid new rest trusts)

  pub goes_on : (calls : List Call) (old new : S) → Calls reports Stands Trusts old calls new → ForLists Stands Trusts old new (λ G H. AnswersByTheList reports G calls H)
  goes_on [] old new same G stands trusts = (G.history, subst (λ (s : S). Stands s G) (sym same) stands, refl)
  goes_on (call ∷ calls) old new (mid, one, rest) G stands trusts =
      let f = one.1 G stands (trusts_back calls mid new rest trusts) in
      let l = goes_on calls mid new rest (record G { history = f.0 }) f.1 trusts in
      (l.0, l.1, (f.0, f.2, l.2))
