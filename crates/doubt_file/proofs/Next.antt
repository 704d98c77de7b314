-- A history with one more command.
use Rattle.desk_types.proofs.Common.{[], ◌++◌, ◌∷◌, ◌≡◌, accept, History, List, refl}
use Rattle.desk_laws.proofs.Common.{Stamped}
use Rattle.line_book.specs.Restored.{history_from, history_of}

history-more : (H : History) (ss ts : List Stamped) → history_from H (ss ++ ts) ≡ history_from (history_from H ss) ts
history-more H [] ts = refl
history-more H (s ∷ ss) ts = history-more (accept H s) ss ts

pub history-next : (ss : List Stamped) (s : Stamped) → history_of (ss ++ s ∷ []) ≡ accept (history_of ss) s
history-next ss s = history-more [] ss (s ∷ [])
