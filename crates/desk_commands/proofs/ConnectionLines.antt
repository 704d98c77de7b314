-- The lines of connections, with one more connection.
use Rattle.desk_types.proofs.Common.{[], ◌++◌, ◌+◌, ◌∙◌, ◌∷◌, ◌≡◌, ap, append-nil, append_assoc, Appends}
use Rattle.desk_types.proofs.Common.{Appends-trans, arith, length, length-append, List, Option, subst, sym}
use Rattle.desk_types.proofs.Common.{take-append-le, ℕ}
use Rattle.desk_answers.proofs.SentFronts.{front_after}
use Rattle.desk_answers.specs.Sent.{SendsFront}
use Rattle.desk_commands.specs.{Clients.Ended, Connections.connection_line, Connections.lines_from}

pub lines_more : (n : ℕ) (ends : List Ended) (ended : Ended) (number : ℕ) → number ≡ n + length ends → lines_from n (ends ++ ended ∷ []) ≡ lines_from n ends ++ connection_line number ended
lines_more n [] ended number is =
    let same : n ≡ number = omega (arith, is) in
    append-nil (connection_line n ended) ∙ ap (λ m. connection_line m ended) same
lines_more n (e ∷ es) ended number is =
    ap (λ text. connection_line n e ++ text) (lines_more (n + 1) es ended number (omega (arith, is)))
    ∙ sym (append_assoc (connection_line n e) (lines_from (n + 1) es) (connection_line number ended))

pub front_of_more : (a b : Option (List ℕ)) (text more : List ℕ) → SendsFront a b text → SendsFront a b (text ++ more)
front_of_more a b text more front =
    (front.0, omega (arith, front.1, length-append text more), subst (Appends a b) (sym (take-append-le front.0 text more front.1)) front.2)

-- The first bytes of the second, the third or the fourth of four consecutive pieces.
module _ (out₀ out₁ out₂ out₃ out₄ : Option (List ℕ)) (a b k d : List ℕ) where
  pub second : Appends out₀ out₁ a → SendsFront out₁ out₂ b → SendsFront out₀ out₂ (a ++ b ++ k ++ d)
  second p q = front_of_more out₀ out₂ (a ++ b ++ k) d (front_of_more out₀ out₂ (a ++ b) k (front_after out₀ out₁ out₂ a b p q))

  pub third : Appends out₀ out₁ a → Appends out₁ out₂ b → SendsFront out₂ out₃ k → SendsFront out₀ out₃ (a ++ b ++ k ++ d)
  third p q r = front_of_more out₀ out₃ (a ++ b ++ k) d (front_after out₀ out₂ out₃ (a ++ b) k (Appends-trans out₀ out₁ out₂ a b p q) r)

  pub fourth : Appends out₀ out₁ a → Appends out₁ out₂ b → Appends out₂ out₃ k → SendsFront out₃ out₄ d → SendsFront out₀ out₄ (a ++ b ++ k ++ d)
  fourth p q r s = front_after out₀ out₃ out₄ (a ++ b ++ k) d (Appends-trans out₀ out₂ out₃ (a ++ b) k (Appends-trans out₀ out₁ out₂ a b p q) r) s
