-- Mount rows by number and by reel.
use Rattle.desk_types.proofs.Common.{[], ◌&&◌, ◌==◌, ◌∙◌, ◌∷◌, ◌≡◌, All-tail, and-false, and-true, ap, arith}
use Rattle.desk_types.proofs.Common.{Bool, by_name, cond, false, if◌then◌else◌, is_at, IsStrictlySortedBy}
use Rattle.desk_types.proofs.Common.{keys_of, List, lookup, Name, None, Option, refl, same, same-true, Some}
use Rattle.desk_types.proofs.Common.{subst, sym, true, ℕ}
use Rattle.desk_types.specs.declared.row.MountRow.{MountRow}
use Rattle.state_rows.proofs.RowLists.{is_at-by_since}
use Rattle.state_rows.specs.Kept.{AreTheSame, by_since, ListsMounts, row_at, since_is}
use Rattle.std.specs.List.{All}

pub both-written : (numbered numbered' : List ((ℕ × Name) × MountRow)) (named named' : List (Name × MountRow)) (since : ℕ) (reel : Name) (w : Option MountRow)
    → ((k : ℕ × Name) → row_at by_since numbered' k ≡ cond (is_at (by_since (since, reel)) k) w (row_at by_since numbered k))
    → ((r : Name) → row_at by_name named' r ≡ cond (same reel r) w (row_at by_name named r))
    → ((s : ℕ) → cond (since == s) w (since_is s (row_at by_name named reel)) ≡ since_is s w)
    → AreTheSame numbered named → AreTheSame numbered' named'
both-written numbered numbered' named named' since reel w put put' step alike k =
    put k
    ∙ ap (λ b. cond b w (row_at by_since numbered k)) (is_at-by_since (since, reel) k)
    ∙ ap (cond (since == k.0 && same reel k.1) w) (alike k)
    ∙ by (same reel k.1) refl
    ∙ sym (ap (since_is k.0) (put' k.1))
  where
    by : (b : Bool) → same reel k.1 ≡ b → cond (since == k.0 && b) w (since_is k.0 (row_at by_name named k.1)) ≡ since_is k.0 (cond b w (row_at by_name named k.1))
    by true here =
        ap (λ c. cond c w (since_is k.0 (row_at by_name named k.1))) (and-true (since == k.0))
        ∙ ap (λ r. cond (since == k.0) w (since_is k.0 (row_at by_name named r))) (sym (same-true reel k.1 here))
        ∙ step k.0
    by false here = ap (λ c. cond c w (since_is k.0 (row_at by_name named k.1))) (and-false (since == k.0))

pub step-taken : (since : ℕ) (row : MountRow) (o : Option MountRow) → o ≡ Some row → row.since ≡ since → (s : ℕ) → cond (since == s) None (since_is s o) ≡ since_is s None
step-taken since row o is number s = ap (λ x. cond (since == s) None (since_is s x)) is ∙ ap (λ n. cond (since == s) None (if n == s then Some row else None)) number ∙ by (since == s)
  where
    by : (b : Bool) → cond b None (if b then Some row else None) ≡ None
    by true = refl
    by false = refl

pub step-put : (row : MountRow) (o : Option MountRow) → o ≡ None → (s : ℕ) → cond (row.since == s) (Some row) (since_is s o) ≡ since_is s (Some row)
step-put row o none s = ap (λ x. cond (row.since == s) (Some row) (since_is s x)) none

pub undone : (numbered numbered' : List ((ℕ × Name) × MountRow)) (named between named' : List (Name × MountRow)) (reel : Name) (w : Option MountRow)
    → numbered' ≡ numbered → ((r : Name) → row_at by_name between r ≡ cond (same reel r) w (row_at by_name named r))
    → ((r : Name) → row_at by_name named' r ≡ cond (same reel r) None (row_at by_name between r)) → row_at by_name named reel ≡ None
    → AreTheSame numbered named → AreTheSame numbered' named'
undone numbered numbered' named between named' reel w rests put taken none alike k =
    ap (λ es. row_at by_since es k) rests
    ∙ alike k
    ∙ ap (since_is k.0) (sym (taken k.1 ∙ ap (cond (same reel k.1) None) (put k.1) ∙ by (same reel k.1) refl))
  where
    by : (b : Bool) → same reel k.1 ≡ b → cond b None (cond b w (row_at by_name named k.1)) ≡ row_at by_name named k.1
    by true here = sym (ap (row_at by_name named) (sym (same-true reel k.1 here)) ∙ none)
    by false here = refl

pub put-over : (reel r : Name) (w between before : Option MountRow) → between ≡ cond (same reel r) None before → cond (same reel r) w between ≡ cond (same reel r) w before
put-over reel r w between before is = ap (cond (same reel r) w) is ∙ by (same reel r)
  where
    by : (b : Bool) → cond b w (cond b None before) ≡ cond b w before
    by true = refl
    by false = refl

-- ---- the rows by number

found-none : (reel : Name) (table : Name → Option MountRow) (es : List ((ℕ × Name) × MountRow)) → All (λ e. since_is e.0.0 (table e.0.1) ≡ Some e.1) es
    → table reel ≡ None → lookup (λ k. same reel k.1) es ≡ None
found-none reel table [] each none = refl
found-none reel table (e ∷ es) each none = by (same reel e.0.1) refl (found-none reel table es (All-tail (λ x. since_is x.0.0 (table x.0.1) ≡ Some x.1) e es each) none)
  where
    by : (b : Bool) → same reel e.0.1 ≡ b → lookup (λ k. same reel k.1) es ≡ None → cond b (Some e.1) (lookup (λ k. same reel k.1) es) ≡ None
    by true here rest = let is = each 0 e (omega arith) in let gone = ap (since_is e.0.0) (sym none ∙ ap table (same-true reel e.0.1 here)) ∙ is in cc
    by false here rest = rest

found-some : (reel : Name) (table : Name → Option MountRow) (row : MountRow) (es : List ((ℕ × Name) × MountRow)) → All (λ e. since_is e.0.0 (table e.0.1) ≡ Some e.1) es
    → table reel ≡ Some row → row_at by_since es (row.since, reel) ≡ Some row → lookup (λ k. same reel k.1) es ≡ Some row
found-some reel table row [] each some there = there
found-some reel table row (e ∷ es) each some there =
    by (same reel e.0.1) refl (ap (λ b. cond b (Some e.1) (row_at by_since es (row.since, reel))) (sym (is_at-by_since (row.since, reel) e.0)) ∙ there)
    (found-some reel table row es (All-tail (λ x. since_is x.0.0 (table x.0.1) ≡ Some x.1) e es each) some)
  where
    one : (b : Bool) → (if b then Some row else None) ≡ Some e.1 → Some e.1 ≡ Some row
    one true is = sym is
    one false is = cc

    by : (b : Bool) → same reel e.0.1 ≡ b → cond (row.since == e.0.0 && same reel e.0.1) (Some e.1) (row_at by_since es (row.since, reel)) ≡ Some row
        → (row_at by_since es (row.since, reel) ≡ Some row → lookup (λ k. same reel k.1) es ≡ Some row) → cond b (Some e.1) (lookup (λ k. same reel k.1) es) ≡ Some row
    by true here there rest = one (row.since == e.0.0) (ap (since_is e.0.0) (sym (sym (ap table (same-true reel e.0.1 here)) ∙ some)) ∙ each 0 e (omega arith))
    by false here there rest =
        rest (
        sym (ap (λ b. cond b (Some e.1) (row_at by_since es (row.since, reel))) (ap (λ b. row.since == e.0.0 && b) here ∙ and-false (row.since == e.0.0))) ∙ there)

pub lists-mounts : (given numbered : List ((ℕ × Name) × MountRow)) (named : List (Name × MountRow)) → given ≡ numbered → IsStrictlySortedBy by_since (keys_of numbered)
    → All (λ e. row_at by_since numbered e.0 ≡ Some e.1) numbered → AreTheSame numbered named → ListsMounts given (row_at by_name named)
lists-mounts given numbered named is up all alike =
    subst (λ es. ListsMounts es (row_at by_name named)) (sym is) (record { ascending = up; rows = λ reel. by reel (row_at by_name named reel) refl; each = each })
  where
    each : All (λ e. since_is e.0.0 (row_at by_name named e.0.1) ≡ Some e.1) numbered
    each = λ k d h. sym (alike _) ∙ all k d h

    same-number : (row : MountRow) → since_is row.since (Some row) ≡ Some row
    same-number row = ap (λ b. if b then Some row else None) (on row.since)
      where
        on : (n : ℕ) → (n == n) ≡ true
        on n = grind (arith)

    by : (reel : Name) (o : Option MountRow) → row_at by_name named reel ≡ o → lookup (λ k. same reel k.1) numbered ≡ row_at by_name named reel
    by reel None here = found-none reel (row_at by_name named) numbered each here ∙ sym here
    by reel (Some row) here =
        found-some reel (row_at by_name named) row numbered each here (alike (row.since, reel) ∙ ap (since_is row.since) here ∙ same-number row) ∙ sym here
