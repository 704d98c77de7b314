-- Things that are gathered by keys.
use Rattle.desk_types.proofs.Common.{[], ◌&&◌, ◌++◌, ◌||◌, ◌∙◌, ◌∷◌, ◌≡◌, ap, Bool, cond, false, List}
use Rattle.desk_types.proofs.Common.{list_any, list_any-append, Name, refl, same, true}

pub grouped-name : (here : Bool) (at old new : List Name) (x d : Name) (rest : Bool) → new ≡ cond here (at ++ x ∷ []) old → (here ≡ true → at ≡ old)
    → (list_any (same d) new || rest) ≡ (list_any (same d) old || ((here && same d x) || rest))
grouped-name true at old new x d rest put one =
    ap (λ l. list_any (same d) l || rest) (put ∙ ap (λ l. l ++ x ∷ []) (one refl)) ∙ ap (λ b. b || rest) (list_any-append (same d) old (x ∷ [])) ∙ by (list_any (same d) old) (same d x)
  where
    by : (a b : Bool) → ((a || (b || false)) || rest) ≡ (a || (b || rest))
    by true b = refl
    by false true = refl
    by false false = refl
grouped-name false at old new x d rest put one = ap (λ l. list_any (same d) l || rest) put
