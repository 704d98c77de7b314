-- If no portion is marked and no repeat ends its connection, removing the repeats keeps the final
-- state.
use Rattle.desk_types.proofs.Common.{[], ◌++◌, ◌∙◌, ◌∷◌, ◌≡◌, ◌⊎◌, ap, append_assoc, Bool, false}
use Rattle.desk_types.proofs.Common.{if◌then◌else◌, inl, inr, List, refl, subst, sym, true, ℕ}
use Rattle.http_stream.specs.Cut.{bad_head, EndsInside, head_too_large, is_last, IsCut, IsPortion, Portion}
use Rattle.http_stream.specs.Cut.{starved, unread, whole}
use Rattle.http_stream.specs.Repeats.{after_all, after_portion, is_repeat, IsCutWithout, LeavesState}
use Rattle.http_stream.specs.Repeats.{NoRepeatEnds, Repeats, without_repeats}
use Rattle.http_stream.specs.Stream.{Rule}
use Rattle.httparse.specs.Grammar.{print_request}
use Rattle.std.proofs.lemmas.List.{append_cancel_right}

-- ---- the state

repeat_leaves : {S : Type 0} (rule : Rule S) (again : Repeats S) → LeavesState rule again → (s : S) (p : Portion) → is_repeat again s p ≡ true → after_portion rule s p ≡ s
repeat_leaves rule again leaves s (whole r ends) is = leaves s r is
repeat_leaves rule again leaves s bad_head is = refl
repeat_leaves rule again leaves s head_too_large is = refl
repeat_leaves rule again leaves s (unread method fault) is = refl
repeat_leaves rule again leaves s starved is = refl

state_more : {S : Type 0} (rule : Rule S) (s : S) (p : Portion) (ps fewer : List Portion) (repeats : Bool) → (repeats ≡ true → after_portion rule s p ≡ s)
    → after_all rule (after_portion rule s p) ps ≡ after_all rule (after_portion rule s p) fewer
    → after_all rule (after_portion rule s p) ps ≡ after_all rule s (if repeats then fewer else p ∷ fewer)
state_more rule s p ps fewer true leaves same = same ∙ ap (λ t. after_all rule t fewer) (leaves refl)
state_more rule s p ps fewer false leaves same = same

pub same_state : {S : Type 0} (rule : Rule S) (again : Repeats S) → LeavesState rule again → (s : S) (ps : List Portion) → after_all rule s ps ≡ after_all rule s (without_repeats rule again s ps)
same_state rule again leaves s [] = refl
same_state rule again leaves s (p ∷ ps) =
    let after = after_portion rule s p in
    state_more rule s p ps (without_repeats rule again after ps) (is_repeat again s p) (repeat_leaves rule again leaves s p) (same_state rule again leaves after ps)

-- ---- the bytes

other_rest : (input bytes rest other : List ℕ) (p : Portion) → IsPortion input p rest → is_last p ≡ false → input ≡ bytes ++ rest → IsPortion (bytes ++ other) p other
other_rest input bytes rest other (whole r ends) is going cut =
    let h = is.0 in
    let t = is.1 in
    let all : (print_request h ++ r.body) ++ rest ≡ bytes ++ rest = append_assoc (print_request h) r.body rest ∙ sym t.0.0.1 ∙ cut in
    let own : print_request h ++ r.body ≡ bytes = append_cancel_right (print_request h ++ r.body) bytes rest all in
    let begins : bytes ++ other ≡ print_request h ++ (r.body ++ other) = ap (λ l. l ++ other) (sym own) ∙ append_assoc (print_request h) r.body other in
    (h, (((t.0.0.0, begins), t.0.1, t.0.2), t.1), is.2, is.3, is.4)
other_rest input bytes rest other bad_head is going cut = cc
other_rest input bytes rest other head_too_large is going cut = cc
other_rest input bytes rest other (unread method fault) is going cut = cc
other_rest input bytes rest other starved is going cut = cc

pub cut_without : {S : Type 0} (rule : Rule S) (again : Repeats S) (s : S) (input fewer : List ℕ) (ps : List Portion) → IsCutWithout rule again s input ps fewer → IsCut fewer (without_repeats rule again s ps)
cut_without rule again s input fewer [] w = subst EndsInside (sym w.1) w.0
cut_without {S = S} rule again s input fewer (p ∷ ps) w = by (λ left k. cut_without rule again (after_portion rule s p) w.0 left ps k) w.2
  where
    after : S
    after = after_portion rule s p

    by : ((left : List ℕ) → IsCutWithout rule again after w.0 ps left → IsCut left (without_repeats rule again after ps))
        → ((is_last p ≡ true) × (is_repeat again s p ≡ false) × (ps ≡ []) × (fewer ≡ input))
        ⊎ ((is_last p ≡ false) × (bytes : List ℕ) × (input ≡ bytes ++ w.0) × (
        ((is_repeat again s p ≡ true) × IsCutWithout rule again after w.0 ps fewer)
        ⊎ ((is_repeat again s p ≡ false) × (left : List ℕ) × (fewer ≡ bytes ++ left) × IsCutWithout rule again after w.0 ps left)))
        → IsCut fewer (without_repeats rule again s (p ∷ ps))
    by later (inl l) = rw (l.1, l.2, l.3) (w.0, w.1, inl (l.0, refl))
    by later (inr (going, bytes, cut, inl r)) = rw r.0 (later fewer r.1)
    by later (inr (going, bytes, cut, inr k)) = rw (k.0, k.2) (k.1, other_rest input bytes w.0 k.1 p w.1 going cut, inr (going, later k.1 k.3))

-- ---- such a stream exists

own_bytes : (input rest : List ℕ) (p : Portion) → IsPortion input p rest → is_last p ≡ false → (bytes : List ℕ) × (input ≡ bytes ++ rest)
own_bytes input rest (whole r ends) is going = (print_request is.0 ++ r.body, is.1.0.0.1 ∙ sym (append_assoc (print_request is.0) r.body rest))
own_bytes input rest bad_head is going = cc
own_bytes input rest head_too_large is going = cc
own_bytes input rest (unread method fault) is going = cc
own_bytes input rest starved is going = cc

pub left_out : {S : Type 0} (rule : Rule S) (again : Repeats S) (s : S) (input : List ℕ) (ps : List Portion) → IsCut input ps → NoRepeatEnds rule again s ps → (fewer : List ℕ) × IsCutWithout rule again s input ps fewer
left_out rule again s input [] cut none = (input, (cut, refl))
left_out {S = S} rule again s input (p ∷ ps) cut none = by (λ k. left_out rule again (after_portion rule s p) cut.0 ps k none.1) cut.2
  where
    after : S
    after = after_portion rule s p

    no_repeat : (b : Bool) → (b ≡ true → is_last p ≡ false) → is_last p ≡ true → b ≡ false
    no_repeat true ends last = cc (ends refl, last)
    no_repeat false ends last = refl

    with_it : (bytes : List ℕ) → input ≡ bytes ++ cut.0 → is_last p ≡ false → (fewer : List ℕ) × IsCutWithout rule again after cut.0 ps fewer
        → (b : Bool) → is_repeat again s p ≡ b → (fewer : List ℕ) × IsCutWithout rule again s input (p ∷ ps) fewer
    with_it bytes own going later true is = (later.0, (cut.0, cut.1, inr (going, bytes, own, inl (is, later.1))))
    with_it bytes own going later false is = (bytes ++ later.0, (cut.0, cut.1, inr (going, bytes, own, inr (is, later.0, refl, later.1))))

    by : (IsCut cut.0 ps → (fewer : List ℕ) × IsCutWithout rule again after cut.0 ps fewer) → ((is_last p ≡ true) × (ps ≡ [])) ⊎ ((is_last p ≡ false) × IsCut cut.0 ps)
        → (fewer : List ℕ) × IsCutWithout rule again s input (p ∷ ps) fewer
    by later (inl l) = (input, (cut.0, cut.1, inl (l.0, no_repeat (is_repeat again s p) none.0 l.0, l.1, refl)))
    by later (inr l) =
        let own = own_bytes input cut.0 p cut.1 l.0 in
        with_it own.0 own.1 l.0 (later l.1) (is_repeat again s p) refl
