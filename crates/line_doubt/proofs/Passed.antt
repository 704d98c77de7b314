-- Pieces that were met, the last of them first.
use Rattle.desk_types.proofs.Common.{[], ◌++◌, ◌∙◌, ◌∷◌, ◌≡◌, ap, arith, Bool, length, List, refl, reverse, reverse-append, ℕ}
use Rattle.line_doubt.specs.declared.runs.Spot.{Spot}
use Rattle.line_doubt.specs.Runs.{close_flags, is_close, run_of}

-- The elements of the second list, the last of them first, before those of the first.
abbrev pub onto : {X : Type 0} → List X → List X → List X
onto met [] = met
onto met (x ∷ xs) = onto (x ∷ met) xs

pub onto-last : {X : Type 0} (met xs : List X) (x : X) → onto met (xs ++ x ∷ []) ≡ x ∷ onto met xs
onto-last met [] x = refl
onto-last met (y ∷ xs) x = onto-last (y ∷ met) xs x

pub onto-reversed : {X : Type 0} (xs : List X) → onto [] (reverse xs) ≡ xs
onto-reversed [] = refl
onto-reversed (x ∷ xs) = ap (onto []) (reverse-append (x ∷ []) xs) ∙ onto-last [] (reverse xs) x
    ∙ ap (λ l. x ∷ l) (onto-reversed xs)

pub flags-last : (t : ℕ) (met ps : List Spot) (p : Spot) → close_flags t met (ps ++ p ∷ [])
    ≡ close_flags t met ps ++ is_close t (run_of t p.machine p.slot (onto met ps)) p ∷ []
flags-last t met [] p = refl
flags-last t met (q ∷ ps) p =
    ap (λ l. is_close t (run_of t q.machine q.slot met) q ∷ l) (flags-last t (q ∷ met) ps p)

pub flags-long : (t : ℕ) (met ps : List Spot) → length (close_flags t met ps) ≡ length ps
flags-long t met [] = refl
flags-long t met (p ∷ ps) = let more = flags-long t (p ∷ met) ps in omega (arith, more)

-- Whether each piece is close to one behind it.
abbrev pub flags_behind : ℕ → List Spot → List Bool
flags_behind t [] = []
flags_behind t (p ∷ ps) = is_close t (run_of t p.machine p.slot ps) p ∷ flags_behind t ps

pub flags-reversed : (t : ℕ) (ps : List Spot) → reverse (close_flags t [] (reverse ps)) ≡ flags_behind t ps
flags-reversed t [] = refl
flags-reversed t (p ∷ ps) =
    ap (λ l. reverse (close_flags t [] l)) (reverse-append (p ∷ []) ps)
    ∙ ap reverse (flags-last t [] (reverse ps) p)
    ∙ reverse-append (close_flags t [] (reverse ps))
    (is_close t (run_of t p.machine p.slot (onto [] (reverse ps))) p ∷ [])
    ∙ ap (λ met. is_close t (run_of t p.machine p.slot met) p ∷ reverse (close_flags t [] (reverse ps)))
    (onto-reversed ps)
    ∙ ap (λ l. is_close t (run_of t p.machine p.slot ps) p ∷ l) (flags-reversed t ps)

pub behind-long : (t : ℕ) (ps : List Spot) → length (flags_behind t ps) ≡ length ps
behind-long t [] = refl
behind-long t (p ∷ ps) = let more = behind-long t ps in omega (arith, more)
