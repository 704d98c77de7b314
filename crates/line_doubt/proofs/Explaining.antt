-- Pieces in doubt, each with its first reason.
use Rattle.desk_types.proofs.Common.{[], ◌<◌, ◌∙◌, ◌∷◌, ◌≡◌, ◌≤◌, ◌||◌, All, All-cons, All-head, All-nil, All-tail}
use Rattle.desk_types.proofs.Common.{and_from, ap, ap₂, Bool, cond, cons_option, false, filter, filter_map, is_some, length, List, map}
use Rattle.desk_types.proofs.Common.{None, not, Option, placements_of, refl, Some, subst, sym, true, ℕ}
use Rattle.std.proofs.lemmas.List.Elements.{All-weaker}
use Rattle.desk_types.specs.declared.command.Stamped.{Stamped}
use Rattle.desk_types.specs.declared.limits.TheConstants.{GREATEST_MINUTE}
use Rattle.desk_types.specs.declared.placement.Placement.{Placement}
use Rattle.desk_types.specs.History.{History}
use Rattle.line_book.specs.Book.{Book}
use Rattle.line_book.specs.Doubt.{is_in_doubt, is_late, is_near_splice, is_on_boundary, is_unsettled}
use Rattle.line_book.specs.Restored.{history_of}
use Rattle.line_doubt.specs.declared.reason.Doubt.{Doubt}
use Rattle.line_doubt.specs.declared.reason.Reason.{Reason}
use Rattle.line_doubt.specs.declared.reason.Reason.TheVariants.{Entry, Boundary, Late, Splice}
use Rattle.line_doubt.specs.Late.{late_by, minutes_of}
use Rattle.line_doubt.specs.Reasons.{AreExplained, doubt_of, first_reason, is_boundary_by, is_first_reason, is_late_by, is_unsettled_by}
use Rattle.line_doubt.specs.Sources.{boundary_by, is_on_any_boundary, is_unsettled_by_any, unsettled_by}
use Rattle.line_doubt.proofs.Joints.{boundary-number, boundary-some}
use Rattle.line_doubt.proofs.Lateness.{late-number, late-some}
use Rattle.line_doubt.proofs.Lists.{any-or}
use Rattle.line_doubt.proofs.Unsettling.{unsettled-number, unsettled-some}

-- ---- one piece

some-reason : (f g h : Option ℕ) (k : Bool)
    → is_some (first_reason f g h k) ≡ ((is_some f || is_some g) || (is_some h || k))
some-reason (Some n) g h k = refl
some-reason None (Some n) h k = refl
some-reason None None (Some n) k = refl
some-reason None None None true = refl
some-reason None None None false = refl

pub same-reason : (f f' g g' h h' : Option ℕ) (k k' : Bool) → f ≡ f' → g ≡ g' → h ≡ h' → k ≡ k'
    → first_reason f g h k ≡ first_reason f' g' h' k'
same-reason f f' g g' h h' k k' a b c d =
    ap₂ (λ x y. first_reason x y h k) a b ∙ ap₂ (λ x y. first_reason f' g' x y) c d

-- The numbers and the flag of a piece say which sources make it doubtful, and by what.
record IsTold (H : History) (B : Book) (t : ℕ) (p : Placement) (f g h : Option ℕ) (k : Bool) : Type 0 where
  pub entry : is_some f ≡ is_unsettled_by_any H B p
  pub boundary : is_some g ≡ is_on_any_boundary B p
  pub late : is_some h ≡ is_late H p
  pub near : k ≡ is_near_splice H t p
  pub by_entry : (n : ℕ) → f ≡ Some n → is_unsettled_by H B p n ≡ true
  pub by_boundary : (n : ℕ) → g ≡ Some n → is_boundary_by B p n ≡ true
  pub by_late : (n : ℕ) → h ≡ Some n → is_late_by H p n ≡ true

first-holds : (H : History) (B : Book) (t : ℕ) (p : Placement) (f g h : Option ℕ) (k : Bool)
    → IsTold H B t p f g h k → (r : Reason) → first_reason f g h k ≡ Some r → is_first_reason H B t p r ≡ true
first-holds H B t p (Some n) g h k told r is =
    let reason : Entry n ≡ r = cc in
    subst (λ r. is_first_reason H B t p r ≡ true) reason (told.by_entry n refl)
first-holds H B t p None (Some n) h k told r is =
    let reason : Boundary n ≡ r = cc in
    subst (λ r. is_first_reason H B t p r ≡ true) reason
    (and_from (not (is_unsettled_by_any H B p)) (is_boundary_by B p n) (ap not (sym told.entry))
    (told.by_boundary n refl))
first-holds H B t p None None (Some n) k told r is =
    let reason : Late n ≡ r = cc in
    subst (λ r. is_first_reason H B t p r ≡ true) reason
    (and_from (not (is_unsettled_by_any H B p || is_on_any_boundary B p)) (is_late_by H p n)
    (ap₂ (λ a b. not (a || b)) (sym told.entry) (sym told.boundary)) (told.by_late n refl))
first-holds H B t p None None None true told r is =
    let reason : Splice ≡ r = cc in
    subst (λ r. is_first_reason H B t p r ≡ true) reason
    (and_from (not ((is_unsettled_by_any H B p || is_on_any_boundary B p) || is_late H p)) (is_near_splice H t p)
    (ap not (ap₂ (λ a b. a || b) (ap₂ (λ a b. a || b) (sym told.entry) (sym told.boundary)) (sym told.late)))
    (sym told.near))
first-holds H B t p None None None false told r is = cc

in-doubt : (H : History) (B : Book) (t : ℕ) (p : Placement) (f g h : Option ℕ) (k : Bool) → IsTold H B t p f g h k
    → is_some (first_reason f g h k) ≡ is_in_doubt H B t p
in-doubt H B t p f g h k told =
    some-reason f g h k
    ∙ ap₂ (λ a b. a || b) (ap₂ (λ a b. a || b) told.entry told.boundary
    ∙ sym (any-or (λ n. is_unsettled H n p) (λ n. is_on_boundary n p) B))
    (ap₂ (λ a b. a || b) told.late told.near)

-- ---- all pieces

kept-piece : (p : Placement) (o : Option Reason) (b : Bool) (ds : List Doubt) (qs : List Placement) → is_some o ≡ b
    → map (λ (d : Doubt). d.piece) ds ≡ qs
    → map (λ (d : Doubt). d.piece) (cons_option (doubt_of p o) ds) ≡ cond b (p ∷ qs) qs
kept-piece p None b ds qs is rest = rest ∙ ap (λ b. cond b (p ∷ qs) qs) is
kept-piece p (Some r) b ds qs is rest = ap (λ l. p ∷ l) rest ∙ ap (λ b. cond b (p ∷ qs) qs) is

kept-reason : (P : Doubt → Type 0) (p : Placement) (o : Option Reason) (ds : List Doubt)
    → ((r : Reason) → o ≡ Some r → P (record { piece = p; reason = r })) → All P ds
    → All P (cons_option (doubt_of p o) ds)
kept-reason P p None ds holds all = all
kept-reason P p (Some r) ds holds all = All-cons P (record { piece = p; reason = r }) ds (holds r refl) all

module _ (H : History) (B : Book) (t : ℕ) (f g h : Placement → Option ℕ) (k : Placement → Bool) where
  all-pieces : (ps : List Placement) → All (λ p. IsTold H B t p (f p) (g p) (h p) (k p)) ps
      → map (λ (d : Doubt). d.piece) (filter_map (λ p. doubt_of p (first_reason (f p) (g p) (h p) (k p))) ps)
      ≡ filter (is_in_doubt H B t) ps
  all-pieces [] all = refl
  all-pieces (p ∷ ps) all = kept-piece p (first_reason (f p) (g p) (h p) (k p)) (is_in_doubt H B t p) _ _
      (in-doubt H B t p (f p) (g p) (h p) (k p) (All-head (λ p. IsTold H B t p (f p) (g p) (h p) (k p)) p ps all))
      (all-pieces ps (All-tail (λ p. IsTold H B t p (f p) (g p) (h p) (k p)) p ps all))

  all-reasons : (ps : List Placement) → All (λ p. IsTold H B t p (f p) (g p) (h p) (k p)) ps
      → All (λ (d : Doubt). is_first_reason H B t d.piece d.reason ≡ true)
      (filter_map (λ p. doubt_of p (first_reason (f p) (g p) (h p) (k p))) ps)
  all-reasons [] all = All-nil (λ (d : Doubt). is_first_reason H B t d.piece d.reason ≡ true)
  all-reasons (p ∷ ps) all =
      kept-reason (λ (d : Doubt). is_first_reason H B t d.piece d.reason ≡ true) p
      (first_reason (f p) (g p) (h p) (k p)) _
      (first-holds H B t p (f p) (g p) (h p) (k p) (All-head (λ p. IsTold H B t p (f p) (g p) (h p) (k p)) p ps all))
      (all-reasons ps (All-tail (λ p. IsTold H B t p (f p) (g p) (h p) (k p)) p ps all))

told-of : (commands : List Stamped) (B : Book) (t : ℕ) (p : Placement) → (0 < p.number) × (p.number ≤ length commands)
    → All (λ m. m ≤ GREATEST_MINUTE) (minutes_of commands)
    → IsTold (history_of commands) B t p (unsettled_by commands B p) (boundary_by B p) (late_by commands p)
    (is_near_splice (history_of commands) t p)
told-of commands B t p within minutes = record {
  entry = unsettled-some commands B p;
  boundary = boundary-some B p;
  late = late-some commands p within minutes;
  near = refl;
  by_entry = unsettled-number commands B p;
  by_boundary = boundary-number B p;
  by_late = late-number commands p within minutes;
}

all-told : (commands : List Stamped) (B : Book) (t : ℕ) → All (λ m. m ≤ GREATEST_MINUTE) (minutes_of commands)
    → (ps : List Placement) → All (λ (p : Placement). (0 < p.number) × (p.number ≤ length commands)) ps
    → All (λ p. IsTold (history_of commands) B t p (unsettled_by commands B p) (boundary_by B p) (late_by commands p)
    (is_near_splice (history_of commands) t p)) ps
all-told commands B t minutes ps within = All-weaker
    (λ (p : Placement). (0 < p.number) × (p.number ≤ length commands))
    (λ p. IsTold (history_of commands) B t p (unsettled_by commands B p) (boundary_by B p) (late_by commands p)
    (is_near_splice (history_of commands) t p))
    (λ p inside. told-of commands B t p inside minutes) ps within

pub explains : (commands : List Stamped) (B : Book) (t : ℕ) (placed : List Placement) (found : List Doubt)
    → All (λ m. m ≤ GREATEST_MINUTE) (minutes_of commands)
    → All (λ (p : Placement). (0 < p.number) × (p.number ≤ length commands)) placed
    → placed ≡ placements_of (history_of commands)
    → found ≡ filter_map (λ p. doubt_of p (first_reason (unsettled_by commands B p) (boundary_by B p)
    (late_by commands p) (is_near_splice (history_of commands) t p))) placed
    → AreExplained (history_of commands) B t found
explains commands B t placed found minutes within whole is = record {
  pieces = ap (map (λ (d : Doubt). d.piece)) is
      ∙ all-pieces (history_of commands) B t (unsettled_by commands B) (boundary_by B) (late_by commands)
      (is_near_splice (history_of commands) t) placed (all-told commands B t minutes placed within)
      ∙ ap (filter (is_in_doubt (history_of commands) B t)) whole;
  reasons = subst (All (λ (d : Doubt). is_first_reason (history_of commands) B t d.piece d.reason ≡ true)) (sym is)
      (all-reasons (history_of commands) B t (unsettled_by commands B) (boundary_by B) (late_by commands)
      (is_near_splice (history_of commands) t) placed (all-told commands B t minutes placed within));
}
