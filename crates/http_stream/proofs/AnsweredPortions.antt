-- Portions answered one after another.
use Rattle.desk_types.proofs.Common.{[], ◌++◌, ◌+◌, ◌∙◌, ◌∷◌, ◌≡◌, ap, append-nil, Appends, Appends-trans}
use Rattle.desk_types.proofs.Common.{arith, Bool, common_steps, cond, count_by, false, flat_map}
use Rattle.desk_types.proofs.Common.{flat_map-append, length, length-append, List, Option, refl}
use Rattle.desk_types.proofs.Common.{subst, sym, true, ℕ}
use Rattle.desk_answers.specs.declared.serving.Served.{Served}
use Rattle.http_stream.specs.Cut.{Portion}
use Rattle.http_stream.specs.Stream.{Answer, answer, Answered, answers, Rule, state_after}

abbrev pub is_refused : {S : Type 0} → Answer S → Bool
is_refused a = a.refused

abbrev pub bytes_of : {S : Type 0} → Answer S → List ℕ
bytes_of a = a.bytes

one_counted : {S : Type 0} (b : Bool) (n m : ℕ) (a : Answer S) → a.refused ≡ b → m ≡ cond b (n + 1) n → m ≡ n + count_by is_refused (a ∷ [])
one_counted true n m a e h = grind (arith, common_steps, e, h)
one_counted false n m a e h = grind (arith, common_steps, e, h)

pub one_answered : {S : Type 0} (rule : Rule S) (mark : Bool) (s s' : S) (p : Portion) (out out' : Option (List ℕ)) (k k' : Served)
    → s' ≡ (answer rule mark s p).after → Appends out out' (answer rule mark s p).bytes
    → k'.answered ≡ k.answered + 1 → k'.refused ≡ cond (answer rule mark s p).refused (k.refused + 1) k.refused
    → Answered rule (p ∷ []) (mark ∷ []) s out k s' out' k'
one_answered rule mark s s' p out out' k k' after went answered refused =
    let a = answer rule mark s p in record {
      each = refl;
      bytes = subst (Appends out out') (sym (append-nil a.bytes)) went;
      state = after;
      answered = answered;
      refused = one_counted a.refused k.refused k'.refused a refl refused;
    }

pub none_answered : {S : Type 0} (rule : Rule S) (s : S) (out : Option (List ℕ)) (k : Served) → Appends out out [] → Answered rule [] [] s out k s out k
none_answered rule s out k kept =
    record { each = refl; bytes = kept; state = refl; answered = omega arith; refused = omega arith }

answers-append : {S : Type 0} (rule : Rule S) (ms ns : List Bool) (s : S) (ps qs : List Portion) → length ms ≡ length ps
    → answers rule (ms ++ ns) s (ps ++ qs) ≡ answers rule ms s ps ++ answers rule ns (state_after rule ms s ps) qs
answers-append rule [] ns s [] qs e = refl
answers-append rule [] ns s (p ∷ ps) qs e = absurd (omega (arith, e))
answers-append rule (m ∷ ms) ns s [] qs e = absurd (omega (arith, e))
answers-append rule (m ∷ ms) ns s (p ∷ ps) qs e =
    ap (λ rs. answer rule m s p ∷ rs) (answers-append rule ms ns (answer rule m s p).after ps qs (omega (arith, e)))

state_after-append : {S : Type 0} (rule : Rule S) (ms ns : List Bool) (s : S) (ps qs : List Portion) → length ms ≡ length ps
    → state_after rule (ms ++ ns) s (ps ++ qs) ≡ state_after rule ns (state_after rule ms s ps) qs
state_after-append rule [] ns s [] qs e = refl
state_after-append rule [] ns s (p ∷ ps) qs e = absurd (omega (arith, e))
state_after-append rule (m ∷ ms) ns s [] qs e = absurd (omega (arith, e))
state_after-append rule (m ∷ ms) ns s (p ∷ ps) qs e = state_after-append rule ms ns (answer rule m s p).after ps qs (omega (arith, e))

count_by-append : {S : Type 0} (t : Answer S → Bool) (xs ys : List (Answer S)) → count_by t (xs ++ ys) ≡ count_by t xs + count_by t ys
count_by-append t [] ys = grind (arith, common_steps)
count_by-append t (x ∷ xs) ys = grind (arith, common_steps, count_by-append t xs ys)

pub answered_more : {S : Type 0} (rule : Rule S) (ps qs : List Portion) (ms ns : List Bool) (s₀ s₁ s₂ : S) (out₀ out₁ out₂ : Option (List ℕ)) (k₀ k₁ k₂ : Served)
    → Answered rule ps ms s₀ out₀ k₀ s₁ out₁ k₁ → Answered rule qs ns s₁ out₁ k₁ s₂ out₂ k₂
    → Answered rule (ps ++ qs) (ms ++ ns) s₀ out₀ k₀ s₂ out₂ k₂
answered_more rule ps qs ms ns s₀ s₁ s₂ out₀ out₁ out₂ k₀ k₁ k₂ a b =
    let all : answers rule (ms ++ ns) s₀ (ps ++ qs) ≡ answers rule ms s₀ ps ++ answers rule ns s₁ qs =
    answers-append rule ms ns s₀ ps qs a.each ∙ ap (λ s. answers rule ms s₀ ps ++ answers rule ns s qs) (sym a.state) in
    record {
      each = omega (arith, length-append ms ns, length-append ps qs, a.each, b.each);
      bytes = subst (Appends out₀ out₂) (sym (ap (flat_map bytes_of) all ∙ flat_map-append bytes_of (answers rule ms s₀ ps) (answers rule ns s₁ qs)))
          (Appends-trans out₀ out₁ out₂ _ _ a.bytes b.bytes);
      state = b.state ∙ ap (λ s. state_after rule ns s qs) a.state ∙ sym (state_after-append rule ms ns s₀ ps qs a.each);
      answered = omega (arith, a.answered, b.answered, length-append ps qs);
      refused = omega (arith, a.refused, b.refused, ap (count_by is_refused) all, count_by-append is_refused (answers rule ms s₀ ps) (answers rule ns s₁ qs));
    }
