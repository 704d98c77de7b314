-- The paths of the files that were opened.
use Rattle.std.proofs.Common.{◌≡◌, ◌∙◌, ◌++◌, ◌∷◌, [], Err, List, Ok, Result, append-nil, ap, ℕ}
use Rattle.std.specs.Prelude.{is_ok}
use Rattle.chain_files.specs.Opened.{if_opened}

module _ {X F : Type 0} (opened : List (List ℕ)) (path : List ℕ) (result : Result X F) {opened' : List (List ℕ)} where
  -- One was opened.
  pub named : (x : X) → result ≡ Ok x → opened' ≡ opened ++ if_opened (is_ok result) path
      → opened' ≡ opened ++ path ∷ []
  named x is told = told ∙ ap (λ (r : Result X F). opened ++ if_opened (is_ok r) path) is

  -- None was.
  pub unnamed : (fault : F) → result ≡ Err fault → opened' ≡ opened ++ if_opened (is_ok result) path
      → opened' ≡ opened
  unnamed fault is told = told ∙ ap (λ (r : Result X F). opened ++ if_opened (is_ok r) path) is ∙ append-nil opened
