-- The lines of an input, one after another.
use Rattle.desk_types.proofs.Common.{[], ◌++◌, ◌+◌, ◌∙◌, ◌∷◌, ◌≡◌, ap, append-nil, append_assoc, arith, Bool}
use Rattle.desk_types.proofs.Common.{cond, Consumes, Consumes-trans, count_by, false, IfSome, IsAtEnd, length}
use Rattle.desk_types.proofs.Common.{length-append, length-slice_split, List, map, None, not, Option}
use Rattle.desk_types.proofs.Common.{prepend_known, refl, slice_split_at, slice_split_none, Some, subst, suc}
use Rattle.desk_types.proofs.Common.{sym, take, true, ℕ}
use Rattle.desk_answers.specs.declared.serving.Served.{Served}
use Rattle.desk_feed.specs.Lines.{ended_lines, is_empty, is_feed, lines_in, lines_of, without_return}
use Rattle.desk_feed.specs.Stream.{AnswersEnded, IsFront}
use Rattle.desk_feed.specs.Taking.{HasNoFeed, LinesGone, TakesLine}
use Rattle.std.specs.List.{filter, slice_split}

kept : (b : Bool) (x : List ℕ) (xs : List (List ℕ)) → cond (not b) (x ∷ xs) xs ≡ cond b [] (x ∷ []) ++ xs
kept true x xs = refl
kept false x xs = refl

-- The lines among the pieces between line feeds.
abbrev pub lines_among : List (List ℕ) → List (List ℕ)
lines_among pieces = filter (λ line. not (is_empty line)) (map without_return pieces)

pub lines_of-more : (raw rest : List ℕ) → HasNoFeed raw → lines_of (raw ++ 10 ∷ rest) ≡ lines_in raw ++ lines_of rest
lines_of-more raw rest h =
    ap lines_among (slice_split_at is_feed raw 10 rest h refl) ∙ kept (is_empty (without_return raw)) (without_return raw) (lines_of rest)

pub lines_of-last : (raw : List ℕ) → HasNoFeed raw → lines_of raw ≡ lines_in raw
lines_of-last raw h =
    ap lines_among (slice_split_none is_feed raw h) ∙ kept (is_empty (without_return raw)) (without_return raw) [] ∙ append-nil (lines_in raw)

pub lines_go : (a b c : Option (List ℕ)) (lines : List (List ℕ)) (raw : List ℕ) → LinesGone a lines b → TakesLine b raw false c → LinesGone a (lines ++ lines_in raw) c
lines_go None b c lines raw p q = tt
lines_go (Some xs) None c lines raw p q = absurd p
lines_go (Some xs) (Some ys) None lines raw p q = absurd q.1
lines_go (Some xs) (Some ys) (Some zs) lines raw p q =
    let e : ys ≡ raw ++ 10 ∷ zs = q.1 ∙ append_assoc raw (10 ∷ []) zs in
    p ∙ ap (λ l. lines ++ l) (ap lines_of e ∙ lines_of-more raw zs q.0) ∙ sym (append_assoc lines (lines_in raw) (lines_of zs))

pub last_goes : (a b c : Option (List ℕ)) (lines : List (List ℕ)) (raw : List ℕ) → LinesGone a lines b → TakesLine b raw true c → IfSome a (λ bytes. lines ++ lines_in raw ≡ lines_of bytes)
last_goes None b c lines raw p q = tt
last_goes (Some xs) None c lines raw p q = absurd p
last_goes (Some xs) (Some ys) None lines raw p q = absurd q.1
last_goes (Some xs) (Some ys) (Some zs) lines raw p q =
    let e : ys ≡ raw = q.1 ∙ ap (λ l. raw ++ l) q.2 ∙ append-nil raw in
    sym (p ∙ ap (λ l. lines ++ l) (ap lines_of e ∙ lines_of-last raw q.0))

pub gone_first : (a b : Option (List ℕ)) (lines : List (List ℕ)) → LinesGone a lines b → IfSome a (λ bytes. IsFront lines (lines_of bytes))
gone_first None b lines p = tt
gone_first (Some xs) None lines p = absurd p
gone_first (Some xs) (Some ys) lines p = (lines_of ys, p)

whole_first : (a : Option (List ℕ)) (lines : List (List ℕ)) → IfSome a (λ bytes. lines ≡ lines_of bytes) → IfSome a (λ bytes. IsFront lines (lines_of bytes))
whole_first None lines p = tt
whole_first (Some xs) lines p = ([], sym p ∙ sym (append-nil lines))

pub next_first : (a b c : Option (List ℕ)) (lines : List (List ℕ)) (raw line : List ℕ) (last : Bool) → LinesGone a lines b → TakesLine b raw last c → lines_in raw ≡ line ∷ []
    → IfSome a (λ bytes. IsFront (lines ++ line ∷ []) (lines_of bytes))
next_first a b c lines raw line true p q e =
    subst (λ l. IfSome a (λ bytes. IsFront (lines ++ l) (lines_of bytes))) e (whole_first a (lines ++ lines_in raw) (last_goes a b c lines raw p q))
next_first a b c lines raw line false p q e =
    subst (λ l. IfSome a (λ bytes. IsFront (lines ++ l) (lines_of bytes))) e (gone_first a c (lines ++ lines_in raw) (lines_go a b c lines raw p q))

pub start_gone : (a : Option (List ℕ)) → LinesGone a [] a
start_gone None = tt
start_gone (Some xs) = refl

pub end_behind : (xs : List ℕ) (known : Option (List ℕ)) → IsAtEnd (prepend_known xs known) → IsAtEnd known
end_behind xs None p = tt
end_behind [] (Some ys) p = p
end_behind (x ∷ xs) (Some ys) p = cc

-- ---- lines with their line feeds

ended_lines-more : (raw rest : List ℕ) → HasNoFeed raw → ended_lines (raw ++ 10 ∷ rest) ≡ lines_in raw ++ ended_lines rest
ended_lines-more raw rest h =
    let cut = slice_split_at is_feed raw 10 rest h refl in
    let n : count_by is_feed (raw ++ 10 ∷ rest) ≡ suc (count_by is_feed rest) =
    omega (arith, ap length cut, length-slice_split is_feed (raw ++ 10 ∷ rest), length-slice_split is_feed rest) in
    ap lines_among (ap (λ k. take k (slice_split is_feed (raw ++ 10 ∷ rest))) n ∙ ap (take (suc (count_by is_feed rest))) cut)
    ∙ kept (is_empty (without_return raw)) (without_return raw) (ended_lines rest)

ended_lines-none : (rest : List ℕ) → HasNoFeed rest → ended_lines rest ≡ []
ended_lines-none rest h =
    let n : count_by is_feed rest ≡ 0 = omega (arith, ap length (slice_split_none is_feed rest h), length-slice_split is_feed rest) in
    ap (λ k. lines_among (take k (slice_split is_feed rest))) n

-- This many lines are taken, each with its line feed.
abbrev pub EndsGone : Option (List ℕ) → ℕ → Option (List ℕ) → Type 0
EndsGone old count new = (gone : List ℕ) × Consumes old new gone × ((more : List ℕ) → length (ended_lines (gone ++ more)) ≡ count + length (ended_lines more))

pub no_end : (a : Option (List ℕ)) → EndsGone a 0 a
no_end a = ([], same a, λ more. omega arith)
  where
    same : (a : Option (List ℕ)) → Consumes a a []
    same None = tt
    same (Some xs) = refl

pub one_more_end : (a b c : Option (List ℕ)) (n m : ℕ) (raw : List ℕ) → EndsGone a n b → TakesLine b raw false c → m ≡ n + length (lines_in raw) → EndsGone a m c
one_more_end a b c n m raw (gone, went, counts) q e = (
  gone ++ (raw ++ 10 ∷ []),
  Consumes-trans a b c gone (raw ++ 10 ∷ []) went q.1,
  λ more.
      let all : (gone ++ (raw ++ 10 ∷ [])) ++ more ≡ gone ++ (raw ++ 10 ∷ more) = append_assoc gone (raw ++ 10 ∷ []) more ∙ ap (λ l. gone ++ l) (append_assoc raw (10 ∷ []) more) in
      omega (arith, ap (λ l. length (ended_lines l)) all, counts (raw ++ 10 ∷ more), ap length (ended_lines-more raw more q.0), length-append (lines_in raw) (ended_lines more), e),
)

pub all_ended : (a b c : Option (List ℕ)) (s : Served) → EndsGone a s.answered b → (rest : List ℕ) × HasNoFeed rest × Consumes b c rest → AnswersEnded a c s
all_ended a b c s (gone, went, counts) (rest, h, more) =
    (gone ++ rest, Consumes-trans a b c gone rest went more, omega (arith, counts rest, ap length (ended_lines-none rest h)))
