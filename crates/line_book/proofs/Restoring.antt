-- Lists that are read again, one by one.
use Rattle.desk_types.proofs.Common.{[], ◌++◌, ◌+◌, ◌∙◌, ◌∷◌, ◌≡◌, accept, ap, arith, History, length, List, refl, take, ℕ}
use Rattle.desk_laws.proofs.Common.{Stamped}
use Rattle.line_book.specs.Restored.{history_from, history_of}

history-end : (H : History) (ss : List Stamped) (s : Stamped)
    → history_from H (ss ++ s ∷ []) ≡ accept (history_from H ss) s
history-end H [] s = refl
history-end H (x ∷ xs) s = history-end (accept H x) xs s

pub history-next : (commands : List Stamped) (i : ℕ) (s : Stamped)
    → take (i + 1) commands ≡ take i commands ++ s ∷ []
    → history_of (take (i + 1) commands) ≡ accept (history_of (take i commands)) s
history-next commands i s is = ap history_of is ∙ history-end [] (take i commands) s

length-from : (H : History) (ss : List Stamped) → length (history_from H ss) ≡ length H + length ss
length-from H [] = omega arith
length-from H (s ∷ ss) = let it = length-from (accept H s) ss in omega (arith, it)

pub length-of : (ss : List Stamped) → length (history_of ss) ≡ length ss
length-of ss = let it = length-from [] ss in omega (arith, it)
