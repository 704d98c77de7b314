-- A handler whose portions are answered one after another.
use Rattle.desk_types.proofs.Common.{[], ◌++◌, Appends-nil, IfSome, List, Option, subst, sym, ℕ}
use Rattle.desk_answers.specs.{Counts.none_served, declared.serving.Served.Served}
use Rattle.http_stream.proofs.AnsweredPortions.{answered_more, none_answered}
use Rattle.http_stream.specs.{Cut.IsPortion, Cut.Leads, Cut.Portion, Stream.AnsweredInto, Stream.Breaks}
use Rattle.http_stream.specs.{Stream.ForStates, Stream.Rule, Stream.Serves}

module _ {A S : Type 0} (rule : Rule S) (Stands : A → S → Type 0) (Trusts : A → Type 0) where
  -- The portions were answered.
  abbrev pub Goes : List Portion → A → Option (List ℕ) → Served → A → Option (List ℕ) → Served → Type 0
  Goes ps old out k new out' k' = ForStates Stands Trusts old new (λ s s'. Serves rule ps s out k s' out' k')

  -- One more portion was answered, and part of its answer was sent.
  abbrev pub Stops : Portion → A → Option (List ℕ) → Served → A → Option (List ℕ) → Served → Type 0
  Stops p old out k new out' k' = ForStates Stands Trusts old new (λ s s'. Breaks rule p s out k s' out' k')

  pub goes_none : (old : A) (out : Option (List ℕ)) → Goes [] old out none_served old out none_served
  goes_none old out s stands trusts = (s, stands, ([], none_answered rule s out none_served (Appends-nil out)))

  pub goes_on : (ps qs : List Portion) (a b c : A) (out₀ out₁ out₂ : Option (List ℕ)) (k₀ k₁ k₂ : Served)
      → (Trusts c → Trusts b) → Goes ps a out₀ k₀ b out₁ k₁ → Goes qs b out₁ k₁ c out₂ k₂ → Goes (ps ++ qs) a out₀ k₀ c out₂ k₂
  goes_on ps qs a b c out₀ out₁ out₂ k₀ k₁ k₂ told first more s stands trusts =
      let f = first s stands (told trusts) in
      let m = more f.0 f.1 trusts in
      (m.0, m.1, (f.2.0 ++ m.2.0, answered_more rule ps qs f.2.0 m.2.0 s f.0 m.0 out₀ out₁ out₂ k₀ k₁ k₂ f.2.1 m.2.1))

  pub stops_into : (ps : List Portion) (p : Portion) (input : Option (List ℕ)) (a b c : A) (out₀ out₁ out₂ : Option (List ℕ)) (k₁ k₂ : Served)
      → (Trusts c → Trusts b) → IfSome input (λ bytes. (left : List ℕ) × (rest : List ℕ) × Leads bytes ps left × IsPortion left p rest)
      → Goes ps a out₀ none_served b out₁ k₁ → Stops p b out₁ k₁ c out₂ k₂
      → ForStates Stands Trusts a c (λ s s'. AnsweredInto rule input s out₀ s' out₂ k₂)
  stops_into ps p input a b c out₀ out₁ out₂ k₁ k₂ told front first more s stands trusts =
      let f = first s stands (told trusts) in
      let m = more f.0 f.1 trusts in
      let broke = m.2 in
      let into : AnsweredInto rule input s out₀ m.0 out₂ k₁ = (ps, f.2.0, p, broke.0, f.0, out₁, front, f.2.1, broke.2, broke.3) in
      (m.0, m.1, subst (λ (k : Served). AnsweredInto rule input s out₀ m.0 out₂ k) (sym broke.1) into)
