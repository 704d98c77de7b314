-- A target is split at its first `?`.
use Rattle.desk_types.proofs.Common.{[], ◌+◌, ◌-◌, ◌∙◌, ◌≡◌, ◌≤◌, ap, arith, Bool, cond, drop, drop_all}
use Rattle.desk_types.proofs.Common.{false, length, length-drop, List, nat_lt, nat_tests, None, refl, Some}
use Rattle.desk_types.proofs.Common.{sym, take, take_all, true, ℕ}
use Rattle.gateway_http.specs.Asked.{is_mark, path_of, query_of}
use Rattle.std.specs.List.{position, position_or_len}

place-some : (target : List ℕ) (n : ℕ) → position is_mark target ≡ Some n → position_or_len is_mark target ≡ n
place-some target n = by (nat_lt (position_or_len is_mark target) (length target))
  where
    by : (b : Bool) → cond b (Some (position_or_len is_mark target)) None ≡ Some n → position_or_len is_mark target ≡ n
    by true e = cc
    by false e = cc

place-none : (target : List ℕ) → position is_mark target ≡ None → length target ≤ position_or_len is_mark target
place-none target = by (nat_lt (position_or_len is_mark target) (length target)) refl
  where
    by : (b : Bool) → nat_lt (position_or_len is_mark target) (length target) ≡ b → cond b (Some (position_or_len is_mark target)) None ≡ None → length target ≤ position_or_len is_mark target
    by true inside e = cc
    by false inside e = grind (arith, nat_tests)

pub path-some : (target : List ℕ) (n : ℕ) → position is_mark target ≡ Some n → take n target ≡ path_of target
unfolding path_of
path-some target n e = ap (λ k. take k target) (sym (place-some target n e))

pub query-some : (target : List ℕ) (n : ℕ) → position is_mark target ≡ Some n → take (length target - (n + 1)) (drop (n + 1) target) ≡ query_of target
unfolding query_of
query-some target n e =
    let all = length-drop (n + 1) target in
    take_all (length target - (n + 1)) (drop (n + 1) target) (omega (arith, all)) ∙ ap (λ k. drop (k + 1) target) (sym (place-some target n e))

pub path-none : (target : List ℕ) → position is_mark target ≡ None → target ≡ path_of target
unfolding path_of
path-none target e = sym (take_all (position_or_len is_mark target) target (place-none target e))

pub query-none : (target : List ℕ) → position is_mark target ≡ None → [] ≡ query_of target
unfolding query_of
query-none target e = let end = place-none target e in sym (drop_all (position_or_len is_mark target + 1) target (omega (arith, end)))
