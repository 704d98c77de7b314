-- Boundaries as the keys of an ordered map.
use Rattle.desk_types.proofs.Common.{[], ◌&&◌, ◌++◌, ◌==◌, ◌∙◌, ◌∷◌, ◌≡◌, ◌||◌, ap, ap₂, Bool, cond, eq-eqb, false}
use Rattle.desk_types.proofs.Common.{is_at, is_at-by_pair, is_eq, is_some, nat_cmp, None, Option}
use Rattle.desk_types.proofs.Common.{and_from, by_pair, inl, inr, option_or, or_comm, or_left, or_right, ordering_then, refl, same_pair, Some, sym, true, ℕ}
use Rattle.desk_types.proofs.Keys.{is_eq-ordering_then}
use Rattle.std.specs.Cmp.{unsigned_ties}
use Rattle.desk_types.specs.declared.placement.Placement.{Placement}
use Rattle.line_book.specs.declared.note.Matter.{Matter}
use Rattle.line_book.specs.declared.note.Matter.TheVariants.{Boundary}
use Rattle.line_book.specs.declared.note.Note.{Note}
use Rattle.line_book.specs.Book.{Book}
use Rattle.line_book.specs.Doubt.{is_on_boundary}
use Rattle.line_doubt.specs.Reasons.{is_boundary_by}
use Rattle.line_doubt.specs.Sources.{boundary_at, boundary_by, by_joint, is_joint, is_on_any_boundary, Joint, joint_of, number_at}
use Rattle.line_doubt.specs.Sources.{same_joint}
use Rattle.line_doubt.proofs.Lists.{or-one, or-some}

pub is_at-by_joint : (k q : Joint) → is_at (by_joint k) q ≡ same_joint k q
is_at-by_joint k q =
    is_eq-ordering_then (ordering_then (nat_cmp k.0 q.0) (by_pair k.1 q.1)) (by_pair k.2 q.2)
    ∙ ap (λ b. b && is_eq (by_pair k.2 q.2)) (is_eq-ordering_then (nat_cmp k.0 q.0) (by_pair k.1 q.1))
    ∙ ap (λ b. (b && is_eq (by_pair k.1 q.1)) && is_eq (by_pair k.2 q.2)) (sym (unsigned_ties k.0 q.0))
    ∙ ap (λ b. ((k.0 == q.0) && b) && is_eq (by_pair k.2 q.2)) (is_at-by_pair k.1 q.1)
    ∙ ap (λ b. ((k.0 == q.0) && same_pair k.1 q.1) && b) (is_at-by_pair k.2 q.2)
    ∙ moved (k.0 == q.0) (same_pair k.1 q.1) (same_pair k.2 q.2)
  where
    moved : (a b c : Bool) → ((a && b) && c) ≡ (a && (b && c))
    moved true b c = refl
    moved false b c = refl

-- A map by boundary after writing w at k; `old` and `new` are the lookups before and after.
pub joint-written : (old new : Joint → Option ℕ) (k : Joint) (w : Option ℕ)
    → ((q : Joint) → new q ≡ cond (is_at (by_joint k) q) w (old q)) → (q : Joint)
    → new q ≡ cond (same_joint k q) w (old q)
joint-written old new k w after q = after q ∙ ap (λ t. cond t w (old q)) (is_at-by_joint k q)

-- ---- the last boundary

pub or-chosen : (b : Bool) (number : ℕ) (old : Option ℕ)
    → cond b (Some number) old ≡ option_or (cond b (Some number) None) old
or-chosen true number old = refl
or-chosen false number old = refl

or-none : (o : Option ℕ) → option_or o None ≡ o
or-none None = refl
or-none (Some n) = refl

or-again : (a b c : Option ℕ) → option_or (option_or a b) c ≡ option_or a (option_or b c)
or-again None b c = refl
or-again (Some n) b c = refl

pub boundary-last : (B : Book) (n : Note) (joint : Joint)
    → boundary_at (B ++ n ∷ []) joint ≡ option_or (number_at joint n.number n.after n.matter) (boundary_at B joint)
boundary-last [] n joint = sym (or-none (number_at joint n.number n.after n.matter))
boundary-last (m ∷ B) n joint =
    ap (λ o. option_or o (number_at joint m.number m.after m.matter)) (boundary-last B n joint)
    ∙ or-again (number_at joint n.number n.after n.matter) (boundary_at B joint)
    (number_at joint m.number m.after m.matter)

-- ---- the boundary of a piece

-- The entry is a boundary of the piece exactly if it names the piece's install, slot, board and reel.
joint-of : (p : Placement) (n : Note) (m : Matter)
    → is_joint (joint_of p) n.after m ≡ is_on_boundary (record n { matter = m }) p
joint-of p n (Boundary machine slot board reel desk_reel) = refl
joint-of p n m = refl

some-at : (b : Bool) (number : ℕ) → is_some (cond b (Some number) None) ≡ b
some-at true number = refl
some-at false number = refl

pub boundary-some : (B : Book) (p : Placement) → is_some (boundary_by B p) ≡ is_on_any_boundary B p
boundary-some [] p = refl
boundary-some (n ∷ B) p =
    or-some (boundary_at B (joint_of p)) (number_at (joint_of p) n.number n.after n.matter)
    ∙ ap₂ (λ a b. a || b) (boundary-some B p)
    (some-at (is_joint (joint_of p) n.after n.matter) n.number ∙ joint-of p n n.matter)
    ∙ or_comm (is_on_any_boundary B p) (is_on_boundary n p)

-- The number is that of a boundary of the piece.
pub boundary-number : (B : Book) (p : Placement) (number : ℕ) → boundary_by B p ≡ Some number
    → is_boundary_by B p number ≡ true
boundary-number [] p number is = cc
boundary-number (n ∷ B) p number is =
    elim (or-one (boundary_at B (joint_of p)) (number_at (joint_of p) n.number n.after n.matter) number is) [
      | inl later ↦ or_right ((n.number == number) && is_on_boundary n p) (is_boundary_by B p number)
          (boundary-number B p number later)
      | inr here ↦ or_left ((n.number == number) && is_on_boundary n p) (is_boundary_by B p number)
          (by (is_joint (joint_of p) n.after n.matter) refl here)
    ]
  where
    by : (b : Bool) → is_joint (joint_of p) n.after n.matter ≡ b → cond b (Some n.number) None ≡ Some number
        → ((n.number == number) && is_on_boundary n p) ≡ true
    by true at is = let same : n.number ≡ number = cc in
        and_from (n.number == number) (is_on_boundary n p) (eq-eqb n.number number same)
        (sym (joint-of p n n.matter) ∙ at)
    by false at is = cc
