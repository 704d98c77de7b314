-- The parts of an answer's head.
use Rattle.desk_types.proofs.Common.{[], ◌++◌, ◌≡◌, append_assoc, List, ℕ}

pub joined : (a b k d n e f : List ℕ) → [] ++ a ++ b ++ k ++ d ++ n ++ e ++ f ++ n ≡ a ++ b ++ (k ++ d ++ n) ++ e ++ f ++ n
joined a b k d n e f = simp append_assoc
