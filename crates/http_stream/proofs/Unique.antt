-- A stream starts with exactly one portion, outside one open case.
use Rattle.desk_types.proofs.Common.{[], ◌++◌, ◌+◌, ◌-◌, ◌<◌, ◌∙◌, ◌∷◌, ◌≡◌, ◌⊎◌, ap, append-nil, arith, Bool}
use Rattle.desk_types.proofs.Common.{Err, false, inl, inr, length, length-append, List, Ok, refl, Result}
use Rattle.desk_types.proofs.Common.{subst, sym, take, take-append-add, take_all, true, ℕ}
use Rattle.desk_types.specs.declared.limits.TheConstants.{HEAD_LIMIT}
use Rattle.http_stream.specs.{Cut.bad_head, Cut.EndsInside, Cut.head_too_large, Cut.is_last, Cut.IsCut}
use Rattle.http_stream.specs.{Cut.IsPortion, Cut.Portion, Cut.Request, Cut.starved, Cut.unread, Cut.whole}
use Rattle.http_stream.specs.{Heads.body_length, Heads.closes, Heads.headers_of, Heads.IsBadHead}
use Rattle.http_stream.specs.{Heads.IsUnfinished, Heads.TakesHead, Heads.window, Unique.is_starved}
use Rattle.http_stream.specs.{Unique.IsClear, Unique.IsOnePortion, Unique.IsOpen, Unique.NoneStarved}
use Rattle.http_stream.specs.{declared.head.LengthFault.LengthFault}
use Rattle.httparse.proofs.GrammarLemmas.{request_unique}
use Rattle.httparse.specs.Grammar.{print_request, ReadsRequest, RequestHead}
use Rattle.std.proofs.{Math.Seq.take-append_seam, lemmas.List.append_cancel_left}

in_window : (input : List ℕ) (h : RequestHead) (rest : List ℕ) → TakesHead input h rest → ReadsRequest (window input) h (take (HEAD_LIMIT - length (print_request h)) rest)
in_window input h rest t =
    let n = HEAD_LIMIT - length (print_request h) in
    let e : length (print_request h) + n ≡ HEAD_LIMIT = omega (arith, t.1) in
    (t.0.0, ap (take HEAD_LIMIT) t.0.1 ∙ ap (λ m. take m (print_request h ++ rest)) (sym e) ∙ take-append-add (print_request h) rest n)

not_bad : (input : List ℕ) (h : RequestHead) (rest : List ℕ) → TakesHead input h rest → IsBadHead (window input) → ⊥
not_bad input h rest t (inl never) =
    let w = window input in
    never [] h (take (HEAD_LIMIT - length (print_request h)) rest) (subst (λ b. ReadsRequest b h (take (HEAD_LIMIT - length (print_request h)) rest)) (sym (append-nil w)) (in_window input h rest t))
not_bad input h rest t (inr e) =
    let w = window input in
    let many = e.1 [] h (take (HEAD_LIMIT - length (print_request h)) rest) (subst (λ b. ReadsRequest b h (take (HEAD_LIMIT - length (print_request h)) rest)) (sym (append-nil w)) (in_window input h rest t)) in
    absurd (omega (arith, many, t.2))

not_unfinished : (input : List ℕ) (h : RequestHead) (rest : List ℕ) → TakesHead input h rest → IsUnfinished (window input) → ⊥
not_unfinished input h rest t u = u.0 h _ (in_window input h rest t)

same_head : (input : List ℕ) (h k : RequestHead) (r q : List ℕ) → TakesHead input h r → TakesHead input k q → (h ≡ k) × (r ≡ q)
same_head input h k r q a b = request_unique input h k r q a.0 b.0

same_length : (input : List ℕ) (h k : RequestHead) (r q : List ℕ) → TakesHead input h r → TakesHead input k q → body_length h.method (headers_of h) ≡ body_length k.method (headers_of k)
same_length input h k r q a b = ap (λ (x : RequestHead). body_length x.method (headers_of x)) (same_head input h k r q a b).0

ok_same : (m n : ℕ) → ◌≡◌ {A = Result ℕ LengthFault} (Ok m) (Ok n) → m ≡ n
ok_same m n e = cc

err_same : (a b : LengthFault) → ◌≡◌ {A = Result ℕ LengthFault} (Err a) (Err b) → a ≡ b
err_same a b e = cc

ok_err : (m : ℕ) (a : LengthFault) → ◌≡◌ {A = Result ℕ LengthFault} (Ok m) (Err a) → ⊥
ok_err m a e = cc

fronts_same : (a b c d : List ℕ) → a ++ c ≡ b ++ d → length a ≡ length b → (a ≡ b) × (c ≡ d)
fronts_same a b c d e n =
    let f : a ≡ b = sym (take-append_seam a c) ∙ ap (take (length a)) e ∙ ap (λ m. take m (b ++ d)) n ∙ take-append_seam b d in
    (f, append_cancel_left b c d (ap (λ l. l ++ c) (sym f) ∙ e))

same_whole : (r s : Request) (e f : Bool) → r.method ≡ s.method → r.target ≡ s.target → r.body ≡ s.body → e ≡ f → whole r e ≡ whole s f
same_whole r s e f a b c d =
    let rs : r ≡ s = ap (λ x. record { method = x; target = r.target; body = r.body }) a ∙ ap (λ x. record { method = s.method; target = x; body = r.body }) b ∙ ap (λ x. record { method = s.method; target = s.target; body = x }) c in
    ap (λ (x : Request). whole x e) rs ∙ ap (λ x. whole s x) d

short_window : (input : List ℕ) → (length input < HEAD_LIMIT) × IsUnfinished input → IsUnfinished (window input)
short_window input u = subst IsUnfinished (sym (take_all HEAD_LIMIT input (omega (arith, u.0)))) u.1

pub ends_or_begins : (input : List ℕ) (p : Portion) (l : List ℕ) → EndsInside input → IsPortion input p l → is_starved p ≡ false → IsOpen input
ends_or_begins input (whole r e) l (inl u) is st = absurd (not_unfinished input is.0 (r.body ++ l) is.1.0 (short_window input u))
ends_or_begins input (whole r e) l (inr w) is st =
    let a = is.1.0 in
    let b = w.3.0 in
    let n = ok_same (length r.body) w.2 (sym is.1.1 ∙ same_length input is.0 w.0 (r.body ++ l) w.1 a b ∙ w.3.1) in
    let rest = (same_head input is.0 w.0 (r.body ++ l) w.1 a b).1 in
    absurd (omega (arith, w.4, n, length-append r.body l, ap length rest))
ends_or_begins input bad_head l (inl u) is st = (is, short_window input u)
ends_or_begins input bad_head l (inr w) is st = absurd (not_bad input w.0 w.1 w.3.0 is)
ends_or_begins input head_too_large l (inl u) is st = absurd (omega (arith, u.0, is.0))
ends_or_begins input head_too_large l (inr w) is st = absurd (not_unfinished input w.0 w.1 w.3.0 is.1)
ends_or_begins input (unread r e) l (inl u) is st = absurd (not_unfinished input is.0 is.1 is.2 (short_window input u))
ends_or_begins input (unread r e) l (inr w) is st = absurd (ok_err w.2 e (sym w.3.1 ∙ same_length input w.0 is.0 w.1 is.1 w.3.0 is.2 ∙ is.3))
ends_or_begins input starved l end is st = cc

pub one_portion : (input : List ℕ) (p q : Portion) (l m : List ℕ) → IsPortion input p l → IsPortion input q m → is_starved p ≡ false → is_starved q ≡ false → IsOpen input ⊎ IsOnePortion p l q m
one_portion input (whole r e) (whole s f) l m a b st su =
    let same = same_head input a.0 b.0 (r.body ++ l) (s.body ++ m) a.1.0 b.1.0 in
    let n = ok_same (length r.body) (length s.body) (sym a.1.1 ∙ same_length input a.0 b.0 (r.body ++ l) (s.body ++ m) a.1.0 b.1.0 ∙ b.1.1) in
    let cut = fronts_same r.body s.body l m same.1 n in
    inr (
      same_whole r s e f (a.2 ∙ ap (λ (x : RequestHead). x.method) same.0 ∙ sym b.2) (a.3 ∙ ap (λ (x : RequestHead). x.target) same.0 ∙ sym b.3) cut.0
          (a.4 ∙ ap (λ (x : RequestHead). closes x.minor (headers_of x)) same.0 ∙ sym b.4),
      λ _. cut.1,
    )
one_portion input (whole r e) bad_head l m a b st su = absurd (not_bad input a.0 (r.body ++ l) a.1.0 b)
one_portion input (whole r e) head_too_large l m a b st su = absurd (not_unfinished input a.0 (r.body ++ l) a.1.0 b.1)
one_portion input (whole r e) (unread s f) l m a b st su = absurd (ok_err (length r.body) f (sym a.1.1 ∙ same_length input a.0 b.0 (r.body ++ l) b.1 a.1.0 b.2 ∙ b.3))
one_portion input (whole r e) starved l m a b st su = cc
one_portion input bad_head (whole s f) l m a b st su = absurd (not_bad input b.0 (s.body ++ m) b.1.0 a)
one_portion input bad_head bad_head l m a b st su = inr (refl, λ going. cc)
one_portion input bad_head head_too_large l m a b st su = inl (a, b.1)
one_portion input bad_head (unread s f) l m a b st su = absurd (not_bad input b.0 b.1 b.2 a)
one_portion input bad_head starved l m a b st su = cc
one_portion input head_too_large (whole s f) l m a b st su = absurd (not_unfinished input b.0 (s.body ++ m) b.1.0 a.1)
one_portion input head_too_large bad_head l m a b st su = inl (b, a.1)
one_portion input head_too_large head_too_large l m a b st su = inr (refl, λ going. cc)
one_portion input head_too_large (unread s f) l m a b st su = absurd (not_unfinished input b.0 b.1 b.2 a.1)
one_portion input head_too_large starved l m a b st su = cc
one_portion input (unread r e) (whole s f) l m a b st su = absurd (ok_err (length s.body) e (sym b.1.1 ∙ same_length input b.0 a.0 (s.body ++ m) a.1 b.1.0 a.2 ∙ a.3))
one_portion input (unread r e) bad_head l m a b st su = absurd (not_bad input a.0 a.1 a.2 b)
one_portion input (unread r e) head_too_large l m a b st su = absurd (not_unfinished input a.0 a.1 a.2 b.1)
one_portion input (unread r e) (unread s f) l m a b st su =
    let same = same_head input a.0 b.0 a.1 b.1 a.2 b.2 in
    let fault = err_same e f (sym a.3 ∙ same_length input a.0 b.0 a.1 b.1 a.2 b.2 ∙ b.3) in
    let method = a.4 ∙ ap (λ (x : RequestHead). x.method) same.0 ∙ sym b.4 in
    inr (ap (λ x. unread x e) method ∙ ap (unread s) fault, λ going. cc)
one_portion input (unread r e) starved l m a b st su = cc
one_portion input starved (whole s f) l m a b st su = cc
one_portion input starved bad_head l m a b st su = cc
one_portion input starved head_too_large l m a b st su = cc
one_portion input starved (unread s f) l m a b st su = cc
one_portion input starved starved l m a b st su = cc

-- ---- whole cuts

clear_rest : (input : List ℕ) (p : Portion) (rest : List ℕ) → IsPortion input p rest → is_last p ≡ false → IsClear input → IsClear rest
clear_rest input p rest is going clear left begins = clear left (p ∷ begins.0, (rest, is, going, begins.1))

here_clear : (input : List ℕ) → IsClear input → IsOpen input → ⊥
here_clear input clear open_here = clear input ([], refl) open_here

one_or : (input : List ℕ) {P : Type 0} → IsClear input → IsOpen input ⊎ P → P
one_or input clear (inl o) = absurd (here_clear input clear o)
one_or input clear (inr p) = p

pub one_cut : (input : List ℕ) (ps qs : List Portion) → IsCut input ps → IsCut input qs → NoneStarved ps → NoneStarved qs → IsClear input → ps ≡ qs
one_cut input [] [] a b s t clear = refl
one_cut input [] (q ∷ qs) a b s t clear = absurd (here_clear input clear (ends_or_begins input q b.0 a b.1 t.0))
one_cut input (p ∷ ps) [] a b s t clear = absurd (here_clear input clear (ends_or_begins input p a.0 b a.1 s.0))
one_cut input (p ∷ ps) (q ∷ qs) a b s t clear =
    let same = one_or input clear (one_portion input p q a.0 b.0 a.1 b.1 s.0 t.0) in
    by a.2 b.2 same (λ x y z. one_cut a.0 ps qs x y s.1 t.1 z)
  where
    by : ((is_last p ≡ true) × (ps ≡ [])) ⊎ ((is_last p ≡ false) × IsCut a.0 ps) → ((is_last q ≡ true) × (qs ≡ [])) ⊎ ((is_last q ≡ false) × IsCut b.0 qs)
        → (p ≡ q) × (is_last p ≡ false → a.0 ≡ b.0) → (IsCut a.0 ps → IsCut a.0 qs → IsClear a.0 → ps ≡ qs) → p ∷ ps ≡ q ∷ qs
    by (inl x) (inl y) same later = cc (same.0, x.1, y.1)
    by (inl x) (inr y) same later = cc (sym x.0 ∙ ap is_last same.0 ∙ y.0)
    by (inr x) (inl y) same later = cc (sym x.0 ∙ ap is_last same.0 ∙ y.0)
    by (inr x) (inr y) same later =
        let rest = later x.1 (subst (λ l. IsCut l qs) (sym (same.1 x.0)) y.1) (clear_rest input p a.0 a.1 x.0 clear) in
        cc (same.0, rest)
