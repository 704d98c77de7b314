-- Why pieces are in doubt.
use Rattle.std.specs.Prelude.{◌≡◌, ℕ, ◌==◌, Bool, true, false, not, ◌&&◌, ◌||◌, Option, Some, None, List, map, All}
use Rattle.std.specs.List.{list_any}
use Rattle.desk_types.specs.declared.command.Entry.{Entry as Accepted}
use Rattle.desk_types.specs.declared.placement.Placement.{Placement}
use Rattle.desk_types.specs.History.{History}
use Rattle.line_book.specs.declared.note.Note.{Note}
use Rattle.line_book.specs.Book.{Book, handles}
use Rattle.line_book.specs.Doubt.{are_swapped, doubts, is_late, is_near_splice, is_on_boundary, is_unsettled}
use Rattle.line_doubt.specs.declared.reason.Doubt.{Doubt}
use Rattle.line_doubt.specs.declared.reason.Reason.{Reason}
use Rattle.line_doubt.specs.declared.reason.Reason.TheVariants.{Entry, Boundary, Late, Splice}
use Rattle.line_doubt.specs.Sources.{is_on_any_boundary, is_unsettled_by_any}

-- ---- what each reason says

-- Whether an entry with the number is of the slot and makes the piece doubtful.
abbrev pub is_unsettled_by : History → Book → Placement → ℕ → Bool
is_unsettled_by H B p number = list_any (λ (n : Note). (n.number == number) && is_unsettled H n p) B

-- Whether an entry with the number is a boundary of the piece.
abbrev pub is_boundary_by : Book → Placement → ℕ → Bool
is_boundary_by B p number = list_any (λ (n : Note). (n.number == number) && is_on_boundary n p) B

-- Whether a handling of the slot with the number and the piece's install are swapped.
abbrev pub is_late_by : History → Placement → ℕ → Bool
is_late_by H p number = list_any (λ (placing : Accepted). (placing.number == p.number)
    && list_any (λ (e : Accepted). (e.number == number)
    && (handles p.machine p.slot e.stamped.command && are_swapped placing e)) H) H

-- Whether the reason holds for the piece, and none before it: by an entry of the slot, on a
-- boundary, by a late message, near a splice.
abbrev pub is_first_reason : History → Book → ℕ → Placement → Reason → Bool
is_first_reason H B t p (Entry number) = is_unsettled_by H B p number
is_first_reason H B t p (Boundary number) =
    not (is_unsettled_by_any H B p) && is_boundary_by B p number
is_first_reason H B t p (Late number) =
    not (is_unsettled_by_any H B p || is_on_any_boundary B p) && is_late_by H p number
is_first_reason H B t p Splice =
    not ((is_unsettled_by_any H B p || is_on_any_boundary B p) || is_late H p)
    && is_near_splice H t p

-- ---- the answer

-- The pieces are those in doubt with a tolerance of t pieces, in their order, each with its first
-- reason.
pub record AreExplained (H : History) (B : Book) (t : ℕ) (found : List Doubt) : Type 0 where
  pub pieces : map (λ (d : Doubt). d.piece) found ≡ doubts H B t
  pub reasons : All (λ (d : Doubt). is_first_reason H B t d.piece d.reason ≡ true) found

-- The first reason, from the numbers of an entry, of a boundary and of a late message.
abbrev pub first_reason : (entry boundary late : Option ℕ) → Bool → Option Reason
first_reason (Some number) boundary late near = Some (Entry number)
first_reason None (Some number) late near = Some (Boundary number)
first_reason None None (Some number) near = Some (Late number)
first_reason None None None true = Some Splice
first_reason None None None false = None

-- The piece with its reason, if there is one.
abbrev pub doubt_of : Placement → Option Reason → Option Doubt
doubt_of p None = None
doubt_of p (Some reason) = Some (record { piece = p; reason = reason })
