-- Bytes sent in pieces.
use Rattle.desk_types.proofs.Common.{◌++◌, ◌+◌, Appends, Appends-trans, arith, length, length-append, List}
use Rattle.desk_types.proofs.Common.{Option, subst, sym, take, take-append-add, ℕ}
use Rattle.desk_answers.specs.Sent.{SendsFront}

pub front_after : (a b c : Option (List ℕ)) (text more : List ℕ) → Appends a b text → SendsFront b c more → SendsFront a c (text ++ more)
front_after a b c text more p q =
    (length text + q.0, omega (arith, q.1, length-append text more), subst (Appends a c) (sym (take-append-add text more q.0)) (Appends-trans a b c text (take q.0 more) p q.2))
