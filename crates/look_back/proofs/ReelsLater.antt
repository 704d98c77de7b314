-- A reel's pieces after one more entry.
use Rattle.desk_types.proofs.Common.{[], ◌++◌, ◌+◌, ◌-◌, ◌∙◌, ◌∷◌, ◌≡◌, ◌≤◌, ap, arith, cond, History}
use Rattle.desk_types.proofs.Common.{left_of, length, List, map, min, Name, None, picks_of, pieces_by}
use Rattle.desk_types.proofs.Common.{pieces_picked, refl, reverse, reverse-append, same, Some, sum_by-cons}
use Rattle.desk_types.proofs.Common.{sym, take_of, takes_by, unwrap_or, ℕ}
use Rattle.desk_laws.proofs.Common.{Entry, GREATEST_QUANTITY, Pick, Take}
use Rattle.look_back.{proofs.Ranges.most, specs.Kept.AreTakes, specs.Kept.pieces_taken}

pub pieces_taken-map : (H : History) (minute : ℕ) (picks : List Pick) (reel : Name) → pieces_taken (map (take_of H minute) picks) reel ≡ pieces_picked picks reel
pieces_taken-map H minute [] reel = refl
pieces_taken-map H minute (p ∷ ps) reel =
    sum_by-cons (λ (t : Take). cond (same t.reel reel) t.quantity 0) (take_of H minute p) (map (take_of H minute) ps)
    ∙ ap (λ n. cond (same p.reel reel) p.quantity 0 + n) (pieces_taken-map H minute ps reel)
    ∙ sym (sum_by-cons (λ (q : Pick). cond (same q.reel reel) q.quantity 0) p ps)

left_of-told : (H : History) (e : Entry) (reel : Name) (pieces : ℕ) → pieces_by reel e.stamped.command ≡ Some pieces → left_of (e ∷ H) reel ≡ pieces
unfolding left_of
left_of-told H e reel pieces told = ap (λ o. unwrap_or o (left_of H reel - pieces_picked (picks_of H e.stamped.command) reel)) told

left_of-pieces_taken : (H : History) (e : Entry) (takes : List Take) (reel : Name) → pieces_by reel e.stamped.command ≡ None
    → takes ≡ takes_by H e.effective e.stamped.command → left_of (e ∷ H) reel ≡ left_of H reel - pieces_taken takes reel
unfolding left_of
left_of-pieces_taken H e takes reel none are =
    ap (λ o. unwrap_or o (left_of H reel - pieces_picked (picks_of H e.stamped.command) reel)) none
    ∙ ap (λ n. left_of H reel - n) (sym (ap (λ ts. pieces_taken ts reel) are ∙ pieces_taken-map H e.effective (picks_of H e.stamped.command) reel))

-- The loop over the entries, from the newest: later entries took `gone` of the reel's pieces, and
-- `whole` is the result.
pub record Going (H : History) (kept : List (List Take)) (gone whole : ℕ) (reel : Name) : Type 0 where
  pub takes : AreTakes H kept
  pub exact : ℕ
  pub gone_is : gone ≡ min exact most
  pub whole_is : whole ≡ left_of H reel - exact

pub going-first : (H : History) (kept : List (List Take)) (reel : Name) → AreTakes H kept → Going H kept 0 (left_of H reel) reel
going-first H kept reel takes = record { takes = takes; exact = 0; gone_is = omega arith; whole_is = omega arith }

pub going-back : (H : History) (e : Entry) (takes : List Take) (kept : List (List Take)) (gone more gone' whole : ℕ) (reel : Name)
    → Going (e ∷ H) (takes ∷ kept) gone whole reel → pieces_by reel e.stamped.command ≡ None → more ≡ min (pieces_taken takes reel) most → gone' ≡ min (gone + more) most
    → Going H kept gone' whole reel
going-back H e takes kept gone more gone' whole reel going none is_more is_gone =
    let left : left_of (e ∷ H) reel ≡ left_of H reel - pieces_taken takes reel = left_of-pieces_taken H e takes reel none going.takes.0 in
    record {
      takes = going.takes.1;
      exact = going.exact + pieces_taken takes reel;
      gone_is = omega (arith, going.gone_is, is_more, is_gone);
      whole_is = omega (arith, going.whole_is, left);
    }

pub going-told : (H : History) (e : Entry) (kept : List (List Take)) (gone whole pieces : ℕ) (reel : Name)
    → Going (e ∷ H) kept gone whole reel → pieces_by reel e.stamped.command ≡ Some pieces → pieces ≤ GREATEST_QUANTITY → pieces - gone ≡ whole
going-told H e kept gone whole pieces reel going told range =
    let left : left_of (e ∷ H) reel ≡ pieces = left_of-told H e reel pieces told in
    omega (arith, going.gone_is, going.whole_is, left)

pub going-none : (kept : List (List Take)) (gone whole : ℕ) (reel : Name) → Going [] kept gone whole reel → 0 ≡ whole
unfolding left_of
going-none kept gone whole reel going = omega (arith, going.whole_is)

pub reverse-last : {X : Type 0} (xs before : List X) (x : X) → xs ≡ before ++ x ∷ [] → reverse xs ≡ x ∷ reverse before
reverse-last xs before x is = ap reverse is ∙ reverse-append before (x ∷ [])

pub takes-there : (H : History) (e : Entry) → AreTakes (e ∷ H) [] → ⊥
takes-there H e takes = takes

pub reverse-none : {X : Type 0} (xs : List X) → length xs ≡ 0 → reverse xs ≡ []
reverse-none [] is = refl
reverse-none (x ∷ xs) is = absurd (omega (arith, is))
