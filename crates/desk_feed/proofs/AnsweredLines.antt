-- Lines answered one after another.
use Rattle.desk_types.proofs.Common.{[], ◌++◌, ◌+◌, ◌-◌, ◌<◌, ◌==◌, ◌∙◌, ◌∷◌, ◌≡◌, ◌≤◌, ap, append-nil}
use Rattle.desk_types.proofs.Common.{Appends, Appends-trans, arith, Bool, common_steps, cond, count_by, false}
use Rattle.desk_types.proofs.Common.{flat_map, flat_map-append, get_or, History, length, length-append}
use Rattle.desk_types.proofs.Common.{length-take, List, lt-ltb, Option, refl, Some, subst, sym, take, true, ℕ}
use Rattle.desk_answers.specs.declared.serving.Served.{Served}
use Rattle.desk_feed.specs.{LineAnswers.AnswersRaw, Lines.is_empty, Lines.without_return, Messages.answer_to}
use Rattle.desk_feed.specs.{Messages.list_after, Stream.after_lines, Stream.Answered, Stream.answers_to}
use Rattle.desk_feed.specs.{Stream.line_after, Stream.line_answer, Stream.sent_line, Verdicts.is_refused}
use Rattle.desk_feed.specs.{declared.line.LineAnswer.TheVariants.TooLong}
use Rattle.desk_feed.specs.{declared.message.AnswerText.AnswerText}
use Rattle.desk_types.specs.{declared.limits.TheConstants.LONGEST_INPUT, declared.rules.Rules.Rules}

one_counted : (b : Bool) (n m : ℕ) (told : AnswerText) → is_refused told ≡ b → m ≡ cond b (n + 1) n → m ≡ n + count_by is_refused (told ∷ [])
one_counted true n m told e h = grind (arith, common_steps, e, h)
one_counted false n m told e h = grind (arith, common_steps, e, h)

pub one_answered : (rules : Rules) (greatest : ℕ) (mark : Bool) (H H' : History) (line : List ℕ) (out out' : Option (List ℕ)) (s s' : Served) (told : AnswerText)
    → told ≡ line_answer rules greatest mark H line → H' ≡ line_after rules greatest mark H line → Appends out out' (sent_line told)
    → s'.answered ≡ s.answered + 1 → s'.refused ≡ cond (is_refused told) (s.refused + 1) s.refused
    → Answered rules greatest (line ∷ []) (mark ∷ []) H out s H' out' s'
one_answered rules greatest mark H H' line out out' s s' told e after went answered refused =
    record {
      each = refl;
      bytes = subst (Appends out out') (ap sent_line e ∙ sym (append-nil (sent_line (line_answer rules greatest mark H line)))) went;
      history = after;
      answered = answered;
      refused = subst (λ (x : AnswerText). s'.refused ≡ s.refused + count_by is_refused (x ∷ [])) e (one_counted (is_refused told) s.refused s'.refused told refl refused);
    }

pub none_answered : (rules : Rules) (greatest : ℕ) (H : History) (out : Option (List ℕ)) (s : Served) → Appends out out [] → Answered rules greatest [] [] H out s H out s
none_answered rules greatest H out s kept =
    record { each = refl; bytes = kept; history = refl; answered = omega arith; refused = omega arith }

answers_to-append : (rules : Rules) (greatest : ℕ) (ms ns : List Bool) (H : History) (ls ks : List (List ℕ)) → length ms ≡ length ls
    → answers_to rules greatest (ms ++ ns) H (ls ++ ks) ≡ answers_to rules greatest ms H ls ++ answers_to rules greatest ns (after_lines rules greatest ms H ls) ks
answers_to-append rules greatest [] ns H [] ks e = refl
answers_to-append rules greatest [] ns H (l ∷ ls) ks e = absurd (omega (arith, e))
answers_to-append rules greatest (m ∷ ms) ns H [] ks e = absurd (omega (arith, e))
answers_to-append rules greatest (m ∷ ms) ns H (l ∷ ls) ks e =
    ap (λ rs. line_answer rules greatest m H l ∷ rs) (answers_to-append rules greatest ms ns (line_after rules greatest m H l) ls ks (omega (arith, e)))

after_lines-append : (rules : Rules) (greatest : ℕ) (ms ns : List Bool) (H : History) (ls ks : List (List ℕ)) → length ms ≡ length ls
    → after_lines rules greatest (ms ++ ns) H (ls ++ ks) ≡ after_lines rules greatest ns (after_lines rules greatest ms H ls) ks
after_lines-append rules greatest [] ns H [] ks e = refl
after_lines-append rules greatest [] ns H (l ∷ ls) ks e = absurd (omega (arith, e))
after_lines-append rules greatest (m ∷ ms) ns H [] ks e = absurd (omega (arith, e))
after_lines-append rules greatest (m ∷ ms) ns H (l ∷ ls) ks e = after_lines-append rules greatest ms ns (line_after rules greatest m H l) ls ks (omega (arith, e))

count_by-append : (p : AnswerText → Bool) (xs ys : List AnswerText) → count_by p (xs ++ ys) ≡ count_by p xs + count_by p ys
count_by-append p [] ys = grind (arith, common_steps)
count_by-append p (x ∷ xs) ys = grind (arith, common_steps, count_by-append p xs ys)

pub answered_more : (rules : Rules) (greatest : ℕ) (ls ks : List (List ℕ)) (ms ns : List Bool) (H₀ H₁ H₂ : History) (out₀ out₁ out₂ : Option (List ℕ)) (s₀ s₁ s₂ : Served)
    → Answered rules greatest ls ms H₀ out₀ s₀ H₁ out₁ s₁ → Answered rules greatest ks ns H₁ out₁ s₁ H₂ out₂ s₂
    → Answered rules greatest (ls ++ ks) (ms ++ ns) H₀ out₀ s₀ H₂ out₂ s₂
answered_more rules greatest ls ks ms ns H₀ H₁ H₂ out₀ out₁ out₂ s₀ s₁ s₂ a b =
    let all : answers_to rules greatest (ms ++ ns) H₀ (ls ++ ks) ≡ answers_to rules greatest ms H₀ ls ++ answers_to rules greatest ns H₁ ks =
    answers_to-append rules greatest ms ns H₀ ls ks a.each ∙ ap (λ H. answers_to rules greatest ms H₀ ls ++ answers_to rules greatest ns H ks) (sym a.history) in
    record {
      each = omega (arith, length-append ms ns, length-append ls ks, a.each, b.each);
      bytes = subst (Appends out₀ out₂) (sym (ap (flat_map sent_line) all ∙ flat_map-append sent_line (answers_to rules greatest ms H₀ ls) (answers_to rules greatest ns H₁ ks)))
          (Appends-trans out₀ out₁ out₂ _ _ a.bytes b.bytes);
      history = b.history ∙ ap (λ H. after_lines rules greatest ns H ks) a.history ∙ sym (after_lines-append rules greatest ms ns H₀ ls ks a.each);
      answered = omega (arith, a.answered, b.answered, length-append ls ks);
      refused = omega (arith, a.refused, b.refused, ap (count_by is_refused) all, count_by-append is_refused (answers_to rules greatest ms H₀ ls) (answers_to rules greatest ns H₁ ks));
    }

-- ---- a line over the limit

if_true : {A : Type 0} (b : Bool) (x y : A) → b ≡ true → x ≡ cond b x y
if_true true x y e = refl
if_true false x y e = absurd (cc)

one_line : (line : List ℕ) → 0 < length line → cond (is_empty line) [] (line ∷ []) ≡ line ∷ []
one_line [] long = absurd (omega arith)
one_line (b ∷ line) long = refl

pub told_too_long : (rules : Rules) (greatest : ℕ) (H : History) (raw : List ℕ) → LONGEST_INPUT < length (without_return raw) → AnswersRaw rules greatest H raw (Some TooLong) H
told_too_long rules greatest H raw long =
    let line = without_return raw in
    let is_long = lt-ltb LONGEST_INPUT (length line) long in
    (false, one_line line (omega arith), if_true _ _ (answer_to rules greatest H line) is_long, if_true _ _ (list_after rules greatest H line) is_long)

pub one_shorter : (raw : List ℕ) → length raw ≤ length (without_return raw) + 1
one_shorter raw = by (get_or raw (length raw - 1) 0 == 13)
  where
    by : (b : Bool) → length raw ≤ length (cond b (take (length raw - 1) raw) raw) + 1
    by true = omega (arith, length-take (length raw - 1) raw)
    by false = omega arith
