-- An owner whose lines are answered one after another.
use Rattle.desk_types.proofs.Common.{[], ◌++◌, ◌∷◌, ◌≡◌, Appends-nil, IfSome, List, Option, subst, sym, ℕ}
use Rattle.desk_answers.specs.{Counts.none_served, Ledger.ForLists, Ledger.Ledger}
use Rattle.desk_answers.specs.{declared.serving.Served.Served}
use Rattle.desk_feed.proofs.AnsweredLines.{answered_more, none_answered}
use Rattle.desk_feed.specs.{LineAnswers.Breaks, LineAnswers.Serves, Lines.lines_of, Stream.AnsweredInto}
use Rattle.desk_feed.specs.{Stream.IsFront}

-- The lines were answered.
abbrev pub Goes : {S : Type 0} → (S → Ledger → Type 0) → (S → Type 0) → List (List ℕ) → S → Option (List ℕ) → Served → S → Option (List ℕ) → Served → Type 0
Goes Stands Trusts lines old out s new out' s' = ForLists Stands Trusts old new (λ G H. Serves G.rules G.greatest lines G.history out s H out' s')

-- One more line was answered, and part of its answer was sent.
abbrev pub Stops : {S : Type 0} → (S → Ledger → Type 0) → (S → Type 0) → List (List ℕ) → S → Option (List ℕ) → Served → S → Option (List ℕ) → Served → Type 0
Stops Stands Trusts lines old out s new out' s' = ForLists Stands Trusts old new (λ G H. Breaks G.rules G.greatest lines G.history out s H out' s')

pub goes_none : {S : Type 0} (Stands : S → Ledger → Type 0) (Trusts : S → Type 0) (old : S) (out : Option (List ℕ)) → Goes Stands Trusts [] old out none_served old out none_served
goes_none Stands Trusts old out G stands trusts = (G.history, stands, ([], none_answered G.rules G.greatest G.history out none_served (Appends-nil out)))

pub goes_on : {S : Type 0} (Stands : S → Ledger → Type 0) (Trusts : S → Type 0) (ls ks : List (List ℕ)) (a b c : S) (out₀ out₁ out₂ : Option (List ℕ)) (s₀ s₁ s₂ : Served)
    → (Trusts c → Trusts b) → Goes Stands Trusts ls a out₀ s₀ b out₁ s₁ → Goes Stands Trusts ks b out₁ s₁ c out₂ s₂ → Goes Stands Trusts (ls ++ ks) a out₀ s₀ c out₂ s₂
goes_on Stands Trusts ls ks a b c out₀ out₁ out₂ s₀ s₁ s₂ told first more G stands trusts =
    let f = first G stands (told trusts) in
    let m = more (record G { history = f.0 }) f.1 trusts in
    (m.0, m.1, (f.2.0 ++ m.2.0, answered_more G.rules G.greatest ls ks f.2.0 m.2.0 G.history f.0 m.0 out₀ out₁ out₂ s₀ s₁ s₂ f.2.1 m.2.1))

pub stops_into : {S : Type 0} (Stands : S → Ledger → Type 0) (Trusts : S → Type 0) (ls ks : List (List ℕ)) (input : Option (List ℕ)) (a b c : S) (out₀ out₁ out₂ : Option (List ℕ)) (s₁ s₂ : Served)
    → (Trusts c → Trusts b) → ((line : List ℕ) → ks ≡ line ∷ [] → IfSome input (λ bytes. IsFront (ls ++ line ∷ []) (lines_of bytes)))
    → Goes Stands Trusts ls a out₀ none_served b out₁ s₁ → Stops Stands Trusts ks b out₁ s₁ c out₂ s₂
    → ForLists Stands Trusts a c (λ G H. AnsweredInto G.rules G.greatest input G.history out₀ H out₂ s₂)
stops_into Stands Trusts ls ks input a b c out₀ out₁ out₂ s₁ s₂ told front first more G stands trusts =
    let f = first G stands (told trusts) in
    let m = more (record G { history = f.0 }) f.1 trusts in
    let broke = m.2 in
    let into : AnsweredInto G.rules G.greatest input G.history out₀ m.0 out₂ s₁ = (ls, f.2.0, broke.1, broke.0, f.0, out₁, front broke.1 broke.2, f.2.1, broke.4, broke.5) in
    (m.0, m.1, subst (λ (s : Served). AnsweredInto G.rules G.greatest input G.history out₀ m.0 out₂ s) (sym broke.3) into)
