-- Placed pieces that may be from another reel than the history has.
use Rattle.std.specs.Prelude.{ℕ, ◌+◌, nat_lt, Bool, false, not, ◌&&◌, ◌||◌, ◌==◌, List, filter, count_by}
use Rattle.std.specs.List.{list_any}
use Rattle.desk_types.specs.declared.command.Command.{Command}
use Rattle.desk_types.specs.declared.command.Entry.{Entry}
use Rattle.desk_types.specs.declared.placement.Placement.{Placement}
use Rattle.desk_types.specs.Id.{Name, same}
use Rattle.desk_types.specs.History.{History}
use Rattle.desk_types.specs.Placements.{placements_of}
use Rattle.desk_laws.specs.TapeOrder.{restarts}
use Rattle.line_book.specs.declared.note.Matter.{Matter}
use Rattle.line_book.specs.declared.note.Matter.TheVariants.{Handling, Differs, Boundary}
use Rattle.line_book.specs.declared.note.Note.{Note}
use Rattle.line_book.specs.Book.{Book, handles}

-- ---- by an entry of the slot

-- Whether a command with a number between these loads or unloads the slot.
abbrev pub is_restarted : History → Name → Name → (from to : ℕ) → Bool
is_restarted H machine slot from to = list_any (λ (e : Entry).
    (nat_lt from e.number && nat_lt e.number to) && restarts machine slot e.stamped.command) H

-- Whether the entry makes later pieces of the slot doubtful: it is a refused handling of that slot
-- or a difference there.
abbrev pub unsettles : Name → Name → Matter → Bool
unsettles machine slot (Handling m s reel word) = same m machine && same s slot
unsettles machine slot (Differs m s board reel desk_reel) = same m machine && same s slot
unsettles machine slot _ = false

-- Whether the piece was placed after the entry, with no load or unload of its slot between. A splice
-- closes a refused handling, but it only puts a reel behind the one in front, which may be the wrong
-- one.
abbrev pub is_unsettled : History → Note → Placement → Bool
is_unsettled H n p = unsettles p.machine p.slot n.matter
    && (nat_lt n.after p.number && not (is_restarted H p.machine p.slot n.after p.number))

-- The pieces that the entry makes doubtful. A decision takes none of them away.
abbrev pub unsettled_by : History → Note → List Placement
unsettled_by H n = filter (is_unsettled H n) (placements_of H)

-- Whether the command loads or unloads the slot of the entry.
abbrev pub settles : Matter → Command → Bool
settles (Handling machine slot reel word) command = restarts machine slot command
settles (Differs machine slot board reel desk_reel) command = restarts machine slot command
settles _ command = false

-- Whether the entry's slot was loaded or unloaded since.
abbrev pub is_settled : History → Note → Bool
is_settled H n =
    list_any (λ (e : Entry). nat_lt n.after e.number && settles n.matter e.stamped.command) H

-- ---- by an entry of the piece

-- Whether the entry is a boundary, and the piece one of that install, slot and reel. So of an install
-- with several pieces from that reel it names those too that were surely from it.
abbrev pub is_on_boundary : Note → Placement → Bool
is_on_boundary n p = of n.matter
  where
    of : Matter → Bool
    of (Boundary machine slot board reel desk_reel) = (n.after + 1 == p.number)
        && ((same machine p.machine && same slot p.slot)
        && (same board p.board && same desk_reel p.reel))
    of _ = false

-- ---- by a late message

-- Whether the commands came to the desk in another order than by their own minutes.
abbrev pub are_swapped : Entry → Entry → Bool
are_swapped a b = (nat_lt a.number b.number && nat_lt b.stamped.minute a.stamped.minute)
    || (nat_lt b.number a.number && nat_lt a.stamped.minute b.stamped.minute)

-- Whether the piece's install and a load, splice or unload of its slot are swapped.
abbrev pub is_late : History → Placement → Bool
is_late H p = list_any (λ (placing : Entry). (placing.number == p.number)
    && list_any (λ (e : Entry). handles p.machine p.slot e.stamped.command && are_swapped placing e)
    H) H

-- ---- near a splice

-- Whether piece p was placed before piece q.
abbrev pub is_before : Placement → Placement → Bool
is_before p q =
    nat_lt p.number q.number || ((p.number == q.number) && nat_lt p.place q.place)

-- Whether both pieces were placed at one slot.
abbrev pub same_slot : Placement → Placement → Bool
same_slot p q = same p.machine q.machine && same p.slot q.slot

-- The pieces of the slot that were placed after p and before q.
abbrev pub pieces_between : History → Placement → Placement → ℕ
pieces_between H p q = count_by
    (λ x. same_slot p x && (is_before p x && is_before x q)) (placements_of H)

-- Whether p was placed before q, from another reel of the same tape, with fewer than t pieces between.
abbrev pub is_near : History → ℕ → Placement → Placement → Bool
is_near H t p q = (is_before p q && (same_slot p q && not (same p.reel q.reel)))
    && (not (is_restarted H p.machine p.slot p.number q.number) && nat_lt (pieces_between H p q) t)

-- Whether the piece is one of the last t of a reel, or of the first t of the reel spliced to it.
abbrev pub is_near_splice : History → ℕ → Placement → Bool
is_near_splice H t p = list_any (λ q. is_near H t p q || is_near H t q p) (placements_of H)

-- ---- all of them

-- Whether the piece is in doubt with a tolerance of t pieces at each splice. No tape has exactly the
-- pieces of its label.
abbrev pub is_in_doubt : History → Book → ℕ → Placement → Bool
is_in_doubt H B t p = list_any (λ n. is_unsettled H n p || is_on_boundary n p) B
    || (is_late H p || is_near_splice H t p)

-- The pieces in doubt, in their order.
abbrev pub doubts : History → Book → ℕ → List Placement
doubts H B t = filter (is_in_doubt H B t) (placements_of H)
