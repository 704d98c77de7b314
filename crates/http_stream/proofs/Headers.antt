-- Values under a name, line by line, and the number in a text of digits.
use Rattle.desk_types.proofs.Common.{[], ◌&&◌, ◌*◌, ◌++◌, ◌+◌, ◌-◌, ◌||◌, ◌∙◌, ◌∷◌, ◌≡◌, ◌≤◌, ap, arith, Bool}
use Rattle.desk_types.proofs.Common.{codes, common_steps, cond, false, List, list_any, list_any-append}
use Rattle.desk_types.proofs.Common.{nat_tests, refl, sym, true, ℕ}
use Rattle.http_stream.specs.{Heads.has_close, Heads.values_of, Looks.after_header, Looks.closes_by}
use Rattle.std.specs.{Char.digit_value, Str.str_eq_ignore_ascii_case, Str.Parse.digits_value_after}

cond_cons : (b : Bool) (v : List ℕ) (us vs : List (List ℕ)) (c : Bool) (w : List ℕ)
    → cond b (v ∷ cond c (us ++ w ∷ []) us) (cond c (us ++ w ∷ []) us) ≡ cond c (cond b (v ∷ us) us ++ w ∷ []) (cond b (v ∷ us) us)
cond_cons true v us vs true w = refl
cond_cons true v us vs false w = refl
cond_cons false v us vs true w = refl
cond_cons false v us vs false w = refl

pub values_of-more : (name : List ℕ) (fs : List (List ℕ × List ℕ)) (f : List ℕ × List ℕ) → values_of name (fs ++ f ∷ []) ≡ after_header name (values_of name fs) f
values_of-more name [] f = refl
values_of-more name (g ∷ gs) f =
    ap (λ us. cond (str_eq_ignore_ascii_case g.0 name) (g.1 ∷ us) us) (values_of-more name gs f)
    ∙ cond_cons (str_eq_ignore_ascii_case g.0 name) g.1 (values_of name gs) [] (str_eq_ignore_ascii_case f.0 name) f.1

pub digits_value_after-more : (n : ℕ) (ds : List ℕ) (d : ℕ) → digits_value_after 10 n (ds ++ d ∷ []) ≡ digits_value_after 10 n ds * 10 + digit_value d
digits_value_after-more n [] d = refl
digits_value_after-more n (e ∷ es) d = digits_value_after-more (n * 10 + digit_value e) es d

any_more : (a : Bool) (vs : List (List ℕ)) (c : Bool) (v : List ℕ) → a ≡ list_any has_close vs
    → (a || (c && has_close v)) ≡ list_any has_close (cond c (vs ++ v ∷ []) vs)
any_more a vs true v e = grind (arith, common_steps, e, list_any-append has_close vs (v ∷ []))
any_more a vs false v e = grind (arith, common_steps, e)

pub any_close-more : (a : Bool) (fs : List (List ℕ × List ℕ)) (f : List ℕ × List ℕ) → a ≡ list_any has_close (values_of (codes "Connection") fs)
    → (a || closes_by f) ≡ list_any has_close (values_of (codes "Connection") (fs ++ f ∷ []))
any_close-more a fs f e =
    any_more a (values_of (codes "Connection") fs) (str_eq_ignore_ascii_case f.0 (codes "Connection")) f.1 e
    ∙ ap (list_any has_close) (sym (values_of-more (codes "Connection") fs f))

pub digit_is : (d : ℕ) → 48 ≤ d → d ≤ 57 → digit_value d ≡ d - 48
digit_is d low high = grind (arith, nat_tests)
