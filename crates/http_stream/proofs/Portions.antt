-- The portion at the start of a stream, from the searched bytes.
use Rattle.desk_types.proofs.Common.{[], ◌++◌, ◌<◌, ◌∙◌, ◌∷◌, ◌≡◌, ◌≤◌, ap, append-nil, append_assoc, arith}
use Rattle.desk_types.proofs.Common.{Consumes, drop, Err, false, IfSome, inl, inr, IsAtEnd, length}
use Rattle.desk_types.proofs.Common.{length-append, length-take, List, min, None, Ok, Option, prepend_known}
use Rattle.desk_types.proofs.Common.{refl, Some, subst, sym, take, take-append-drop, take-append-le, true, ℕ}
use Rattle.desk_types.specs.declared.limits.TheConstants.{HEAD_LIMIT, MOST_HEADERS}
use Rattle.http_stream.specs.{Bodies.ReadsFewer, Cut.bad_head, Cut.EndsInside, Cut.head_too_large}
use Rattle.http_stream.specs.{Cut.is_last, Cut.IsCut, Cut.IsPortion, Cut.Leads, Cut.Portion, Cut.PortionsGone}
use Rattle.http_stream.specs.{Cut.ReadsInside, Cut.starved, Cut.TakesPortion, Cut.unread, Cut.whole}
use Rattle.http_stream.specs.{Heads.IsBadHead, Heads.IsUnfinished, Heads.TakesHead, Heads.window}
use Rattle.http_stream.specs.{Looks.IsHeadOf, declared.head.Head.Head, declared.head.LengthFault.LengthFault}
use Rattle.httparse.specs.{Grammar.HasNoRequest, Grammar.NeverHasRequest, Grammar.print_request}
use Rattle.httparse.specs.{Grammar.ReadsRequest, Grammar.RequestHead, Spans.RequestExceeds}
use Rattle.httparse.specs.{Spans.RequestOverflows, Spans.span_bytes}
use Rattle.std.proofs.lemmas.List.{drop-append-le, take-take, take_min}
use Rattle.std.specs.Io.KnownBytes.{Keeps}

pub window_is : (bytes pend : List ℕ) (n : ℕ) → bytes ≡ pend → n ≡ min HEAD_LIMIT (length bytes) → take n bytes ≡ window pend
window_is bytes pend n same least = ap (λ k. take k bytes) least ∙ take_min HEAD_LIMIT bytes ∙ ap (take HEAD_LIMIT) same

-- ---- results that hold for more bytes

never-more : (p q : List ℕ) → NeverHasRequest p → NeverHasRequest (p ++ q)
never-more p q never more = subst HasNoRequest (sym (append_assoc p q more)) (never (q ++ more))

overflows-more : (n : ℕ) (p q : List ℕ) → RequestOverflows n p → RequestOverflows n (p ++ q)
overflows-more n p q over more h rest reads =
    over (q ++ more) h rest (subst (λ b. ReadsRequest b h rest) (append_assoc p q more) reads)

exceeds-more : (n : ℕ) (p q : List ℕ) → RequestExceeds n p → RequestExceeds n (p ++ q)
exceeds-more n p q (front, rest, split, h, reads, many) = (front, rest ++ q, rw split (append_assoc front rest q), h, reads, many)

bad-more : (p q : List ℕ) → IsBadHead p → IsBadHead (p ++ q)
bad-more p q (inl never) = inl (never-more p q never)
bad-more p q (inr e) = inr (exceeds-more MOST_HEADERS p q e.0, overflows-more MOST_HEADERS p q e.1)

window-more : (n : ℕ) (p q : List ℕ) → take n (p ++ q) ≡ take n p ++ drop (length (take n p)) (take n (p ++ q))
window-more n p q =
    let m = length (take n p) in
    let few : m ≤ length p = omega (arith, length-take n p) in
    let least : m ≤ n = omega (arith, length-take n p) in
    let e : take m (take n (p ++ q)) ≡ take n p =
    take-take m n (p ++ q) least ∙ take-append-le m p q few ∙ sym (take_min_of n p) in
    sym (take-append-drop m (take n (p ++ q))) ∙ ap (λ l. l ++ drop m (take n (p ++ q))) e
  where
    take_min_of : (n : ℕ) (p : List ℕ) → take n p ≡ take (length (take n p)) p
    take_min_of n p = sym (ap (λ k. take k p) (length-take n p) ∙ take_min n p)

bad_window : (p q : List ℕ) → IsBadHead (window p) → IsBadHead (window (p ++ q))
bad_window p q bad = subst IsBadHead (sym (window-more HEAD_LIMIT p q)) (bad-more (window p) _ bad)

keeps_takes : (a b c : Option (List ℕ)) (p : Portion) → Keeps a b → TakesPortion b p c → TakesPortion a p c
keeps_takes None b c p k t = tt
keeps_takes (Some xs) None c p k t = absurd k
keeps_takes (Some xs) (Some ys) None p k t = absurd t
keeps_takes (Some xs) (Some ys) (Some zs) p k t = subst (λ l. IsPortion l p zs) k t

pub takes_bad : (a : Option (List ℕ)) (pend : List ℕ) (known : Option (List ℕ)) → Keeps a (prepend_known pend known) → IsBadHead (window pend)
    → TakesPortion a bad_head (prepend_known pend known)
takes_bad a pend None k bad = keeps_takes a None None bad_head k tt
takes_bad a pend (Some us) k bad = keeps_takes a (Some (pend ++ us)) (Some (pend ++ us)) bad_head k (bad_window pend us bad)

pub takes_large : (a : Option (List ℕ)) (pend : List ℕ) (known : Option (List ℕ)) → Keeps a (prepend_known pend known) → HEAD_LIMIT ≤ length pend → IsUnfinished (window pend)
    → TakesPortion a head_too_large (prepend_known pend known)
takes_large a pend None k long un = keeps_takes a None None head_too_large k tt
takes_large a pend (Some us) k long un =
    keeps_takes a (Some (pend ++ us)) (Some (pend ++ us)) head_too_large k
    (omega (arith, long, length-append pend us), subst IsUnfinished (sym (take-append-le HEAD_LIMIT pend us long)) un)

-- ---- after a head

takes_head : (bytes more us : List ℕ) (head : Head) (h : RequestHead) → IsHeadOf bytes head h → length bytes ≤ HEAD_LIMIT
    → TakesHead ((bytes ++ more) ++ us) h ((drop head.len bytes ++ more) ++ us)
takes_head bytes more us head h is few =
    let e : (bytes ++ more) ++ us ≡ print_request h ++ ((drop head.len bytes ++ more) ++ us) =
    ap (λ l. (l ++ more) ++ us) is.reads.1 ∙ simp append_assoc in
    ((is.reads.0, e), omega (arith, is.len, is.in_bytes, few), is.few)

-- The searched bytes are the window and start with this head; `behind` follows it.
pub record Sees (pend bytes behind : List ℕ) (head : Head) (h : RequestHead) : Type 0 where
  pub is : IsHeadOf bytes head h
  pub all : bytes ≡ window pend
  pub left : behind ≡ drop head.len pend

head_of : (pend bytes behind us : List ℕ) (head : Head) (h : RequestHead) → Sees pend bytes behind head h → TakesHead (pend ++ us) h (behind ++ us)
head_of pend bytes behind us head h s =
    let more = drop HEAD_LIMIT pend in
    let split : pend ≡ bytes ++ more = sym (take-append-drop HEAD_LIMIT pend) ∙ ap (λ l. l ++ more) (sym s.all) in
    let left : behind ≡ drop head.len bytes ++ more = s.left ∙ ap (drop head.len) split ∙ drop-append-le head.len bytes more s.is.in_bytes in
    let few : length bytes ≤ HEAD_LIMIT = omega (arith, ap length s.all, length-take HEAD_LIMIT pend) in
    subst (λ l. TakesHead (l ++ us) h (behind ++ us)) (sym split)
    (subst (λ l. TakesHead ((bytes ++ more) ++ us) h (l ++ us)) (sym left) (takes_head bytes more us head h s.is few))

pub takes_whole : (pend bytes behind : List ℕ) (head : Head) (h : RequestHead) (known new : Option (List ℕ)) (body : List ℕ) → Sees pend bytes behind head h
    → head.body ≡ Ok (length body) → Consumes (prepend_known behind known) new body
    → TakesPortion (prepend_known pend known) (whole (record { method = span_bytes bytes head.method; target = span_bytes bytes head.target; body = body }) head.closes) new
takes_whole pend bytes behind head h None new body s n p = tt
takes_whole pend bytes behind head h (Some us) None body s n p = absurd p
takes_whole pend bytes behind head h (Some us) (Some zs) body s n p =
    (h, (subst (TakesHead (pend ++ us) h) p (head_of pend bytes behind us head h s), sym s.is.body ∙ n), s.is.method, s.is.target, s.is.closes)

pub takes_starved : (pend bytes behind : List ℕ) (head : Head) (h : RequestHead) (known new : Option (List ℕ)) (n : ℕ) → Sees pend bytes behind head h
    → head.body ≡ Ok n → 0 < n → Keeps (prepend_known behind known) new
    → TakesPortion (prepend_known pend known) starved new
takes_starved pend bytes behind head h None new n s e some k = tt
takes_starved pend bytes behind head h (Some us) None n s e some k = absurd k
takes_starved pend bytes behind head h (Some us) (Some vs) n s e some k =
    (h, behind ++ us, n, (head_of pend bytes behind us head h s, sym s.is.body ∙ e), some)

pub takes_unread : (pend bytes behind : List ℕ) (head : Head) (h : RequestHead) (known : Option (List ℕ)) (fault : LengthFault) → Sees pend bytes behind head h
    → head.body ≡ Err fault
    → TakesPortion (prepend_known pend known) (unread (span_bytes bytes head.method) fault) (prepend_known pend known)
takes_unread pend bytes behind head h None fault s e = tt
takes_unread pend bytes behind head h (Some us) fault s e =
    (h, behind ++ us, head_of pend bytes behind us head h s, sym s.is.body ∙ e, s.is.method)

pub ends_in_body : (pend bytes behind : List ℕ) (head : Head) (h : RequestHead) (known new : Option (List ℕ)) (n : ℕ) (gone : List ℕ) → Sees pend bytes behind head h
    → head.body ≡ Ok n → length gone < n → Consumes (prepend_known behind known) new gone → IsAtEnd new
    → IfSome (prepend_known pend known) EndsInside
ends_in_body pend bytes behind head h None new n gone s e few p end = tt
ends_in_body pend bytes behind head h (Some us) None n gone s e few p end = absurd p
ends_in_body pend bytes behind head h (Some us) (Some zs) n gone s e few p end =
    let all : behind ++ us ≡ gone = p ∙ ap (λ l. gone ++ l) end ∙ append-nil gone in
    inr (h, behind ++ us, n, (head_of pend bytes behind us head h s, sym s.is.body ∙ e), omega (arith, few, ap length all))

-- ---- incomplete portions

keeps_consumes : (a b c : Option (List ℕ)) (bytes : List ℕ) → Keeps a b → Consumes b c bytes → Consumes a c bytes
keeps_consumes None b c bytes k p = tt
keeps_consumes (Some xs) None c bytes k p = absurd k
keeps_consumes (Some xs) (Some ys) None bytes k p = absurd p
keeps_consumes (Some xs) (Some ys) (Some zs) bytes k p = sym k ∙ p

pub keeps_inside : (a b c : Option (List ℕ)) → Keeps a b → ReadsInside b c → ReadsInside a c
keeps_inside a b c k (bytes, gone, inside) = (bytes, keeps_consumes a b c bytes k gone, inside)

pub stops_in_head : (a : Option (List ℕ)) (pend : List ℕ) (known new : Option (List ℕ)) → Keeps a (prepend_known pend known) → Keeps known new → length pend < HEAD_LIMIT → IsUnfinished pend
    → ReadsInside a new
stops_in_head a pend known new k l short un = (pend, keeps_consumes a (prepend_known pend known) new pend k (pending_goes pend known new l), inl (short, un))
  where
    pending_goes : (pend : List ℕ) (known new : Option (List ℕ)) → Keeps known new → Consumes (prepend_known pend known) new pend
    pending_goes pend None new l = tt
    pending_goes pend (Some us) None l = absurd l
    pending_goes pend (Some us) (Some vs) l = ap (λ l. pend ++ l) (sym l)

pub stops_in_body : (pend bytes behind : List ℕ) (head : Head) (h : RequestHead) (known new : Option (List ℕ)) (n : ℕ) → Sees pend bytes behind head h
    → head.body ≡ Ok n → ReadsFewer (prepend_known behind known) new n → ReadsInside (prepend_known pend known) new
stops_in_body pend bytes behind head h known new n s e (gone, few, p) =
    let seen = head_of pend bytes behind [] head h s in
    (print_request h ++ gone, body_goes known new p, inr (h, gone, n, (((seen.0.0, refl), seen.1, seen.2), sym s.is.body ∙ e), few))
  where
    body_goes : (known new : Option (List ℕ)) → Consumes (prepend_known behind known) new gone → Consumes (prepend_known pend known) new (print_request h ++ gone)
    body_goes None new p = tt
    body_goes (Some us) None p = absurd p
    body_goes (Some us) (Some zs) p =
        (head_of pend bytes behind us head h s).0.1 ∙ ap (λ l. print_request h ++ l) p ∙ sym (append_assoc (print_request h) gone zs)

-- ---- several portions

leads_more : (a b c : List ℕ) (ps : List Portion) (p : Portion) → Leads a ps b → IsPortion b p c → is_last p ≡ false → Leads a (ps ++ p ∷ []) c
leads_more a b c [] p e is going = (c, subst (λ l. IsPortion l p c) e is, going, refl)
leads_more a b c (q ∷ qs) p w is going = (w.0, w.1, w.2, leads_more w.0 b c qs p w.3 is going)

cut_last : (a b c : List ℕ) (ps : List Portion) (p : Portion) → Leads a ps b → IsPortion b p c → is_last p ≡ true → IsCut a (ps ++ p ∷ [])
cut_last a b c [] p e is ends = (c, subst (λ l. IsPortion l p c) e is, inl (ends, refl))
cut_last a b c (q ∷ qs) p w is ends = (w.0, w.1, inr (w.2, cut_last w.0 b c qs p w.3 is ends))

cut_end : (a b : List ℕ) (ps : List Portion) → Leads a ps b → EndsInside b → IsCut a ps
cut_end a b [] e end = subst EndsInside e end
cut_end a b (q ∷ qs) w end = (w.0, w.1, inr (w.2, cut_end w.0 b qs w.3 end))

pub portions_go : (a b c : Option (List ℕ)) (ps : List Portion) (p : Portion) → PortionsGone a ps b → TakesPortion b p c → is_last p ≡ false → PortionsGone a (ps ++ p ∷ []) c
portions_go None b c ps p g t going = tt
portions_go (Some xs) None c ps p g t going = absurd g
portions_go (Some xs) (Some ys) None ps p g t going = absurd t
portions_go (Some xs) (Some ys) (Some zs) ps p g t going = leads_more xs ys zs ps p g t going

pub last_goes : (a b c : Option (List ℕ)) (ps : List Portion) (p : Portion) → PortionsGone a ps b → TakesPortion b p c → is_last p ≡ true → IfSome a (λ bytes. IsCut bytes (ps ++ p ∷ []))
last_goes None b c ps p g t ends = tt
last_goes (Some xs) None c ps p g t ends = absurd g
last_goes (Some xs) (Some ys) None ps p g t ends = absurd t
last_goes (Some xs) (Some ys) (Some zs) ps p g t ends = cut_last xs ys zs ps p g t ends

pub end_comes : (a b : Option (List ℕ)) (ps : List Portion) → PortionsGone a ps b → IfSome b EndsInside → IfSome a (λ bytes. IsCut bytes ps)
end_comes None b ps g end = tt
end_comes (Some xs) None ps g end = absurd g
end_comes (Some xs) (Some ys) ps g end = cut_end xs ys ps g end

pub next_first : (a b c : Option (List ℕ)) (ps : List Portion) (p : Portion) → PortionsGone a ps b → TakesPortion b p c
    → IfSome a (λ bytes. (left : List ℕ) × (rest : List ℕ) × Leads bytes ps left × IsPortion left p rest)
next_first None b c ps p g t = tt
next_first (Some xs) None c ps p g t = absurd g
next_first (Some xs) (Some ys) None ps p g t = absurd t
next_first (Some xs) (Some ys) (Some zs) ps p g t = (ys, zs, g, t)

pub start_gone : (a : Option (List ℕ)) → PortionsGone a [] a
start_gone None = tt
start_gone (Some xs) = refl
