-- What the history and the book mark at each slot.
use Rattle.std.specs.Prelude.{ℕ, ◌+◌, ◌==◌, Bool, false, ◌&&◌, Option, Some, None, List, [], ◌∷◌, filter_map, if◌then◌else◌}
use Rattle.std.specs.List.{cons_option, list_any}
use Rattle.std.specs.BTreeMap as tree
use Rattle.std.specs.BTreeMap.{BTreeMap}
use Rattle.std.specs.Option.{option_or}
use Rattle.std.specs.Ordering.{nat_cmp, ordering_then}
use Rattle.std.specs.declared.cmp.Ordering.{Ordering}
use Rattle.desk_types.specs.declared.command.Command.{Command}
use Rattle.desk_types.specs.declared.command.Command.TheVariants.{MaterialsLoaded, MaterialsUnloaded}
use Rattle.desk_types.specs.declared.command.Stamped.{Stamped}
use Rattle.desk_types.specs.declared.placement.Placement.{Placement}
use Rattle.desk_types.specs.Id.{Name}
use Rattle.desk_types.specs.History.{History}
use Rattle.desk_types.specs.Pair.{by_pair, same_pair}
use Rattle.line_book.specs.declared.note.Matter.{Matter}
use Rattle.line_book.specs.declared.note.Matter.TheVariants.{Handling, Differs, Boundary}
use Rattle.line_book.specs.declared.note.Note.{Note}
use Rattle.line_book.specs.Book.{Book}
use Rattle.line_book.specs.Doubt.{is_unsettled, is_on_boundary}
use Rattle.line_doubt.specs.declared.mark.Ask.{Ask}
use Rattle.line_doubt.specs.declared.mark.Mark.{Mark}
use Rattle.line_doubt.specs.Marks.{best_before, number_above, value_of}

-- What is asked about a piece's slot: what was marked before its install.
abbrev pub ask_of : Placement → Ask
ask_of p = record { at = p.number; machine = p.machine; slot = p.slot }

-- ---- marks

-- A load or an unload marks its slot with its number.
abbrev pub restart_mark : ℕ → Command → Option Mark
restart_mark number (MaterialsLoaded m s reel) =
    Some (record { at = number; machine = m; slot = s; value = number; number = number })
restart_mark number (MaterialsUnloaded m s) =
    Some (record { at = number; machine = m; slot = s; value = number; number = number })
restart_mark number _ = None

-- What the commands mark, the first of them with this number.
abbrev pub marks_by : (ℕ → Stamped → Option Mark) → ℕ → List Stamped → List Mark
marks_by mark number [] = []
marks_by mark number (s ∷ ss) = cons_option (mark number s) (marks_by mark (number + 1) ss)

-- The marks of loads and unloads.
abbrev pub restart_marks : List Stamped → List Mark
restart_marks commands = marks_by (λ number s. restart_mark number s.command) 1 commands

-- A refused handling or a difference marks its slot with the number of the next command.
abbrev pub unsettled_mark : (number after : ℕ) → Matter → Option Mark
unsettled_mark number after (Handling m s reel word) =
    Some (record { at = after; machine = m; slot = s; value = after + 1; number = number })
unsettled_mark number after (Differs m s board reel desk_reel) =
    Some (record { at = after; machine = m; slot = s; value = after + 1; number = number })
unsettled_mark number after _ = None

abbrev pub unsettled_marks : Book → List Mark
unsettled_marks B = filter_map (λ (n : Note). unsettled_mark n.number n.after n.matter) B

-- ---- by an entry

-- Whether some entry of the slot makes the piece doubtful.
abbrev pub is_unsettled_by_any : History → Book → Placement → Bool
is_unsettled_by_any H B p = list_any (λ n. is_unsettled H n p) B

-- Whether some entry is a boundary of the piece.
abbrev pub is_on_any_boundary : Book → Placement → Bool
is_on_any_boundary B p = list_any (λ n. is_on_boundary n p) B

-- The number of the slot's last load or unload before the piece's install, or 0.
abbrev pub restarted_by : List Stamped → Placement → ℕ
restarted_by commands p = value_of (best_before (restart_marks commands) (ask_of p))

-- The number of the entry that makes the piece doubtful: of its slot's last refused handling or
-- difference, if no load or unload came since.
abbrev pub unsettled_by : List Stamped → Book → Placement → Option ℕ
unsettled_by commands B p =
    number_above (best_before (unsettled_marks B) (ask_of p)) (restarted_by commands p)

-- ---- boundaries

-- An install's number, a machine and its slot, and a board and a reel.
abbrev pub Joint : Type 0
Joint = ℕ × (Name × Name) × (Name × Name)

abbrev pub same_joint : Joint → Joint → Bool
same_joint a b = (a.0 == b.0) && (same_pair a.1 b.1 && same_pair a.2 b.2)

-- By number, then slot, then board and reel.
abbrev pub by_joint : Joint → Joint → Ordering
by_joint a b = ordering_then (ordering_then (nat_cmp a.0 b.0) (by_pair a.1 b.1)) (by_pair a.2 b.2)

abbrev pub joint_of : Placement → Joint
joint_of p = (p.number, (p.machine, p.slot), (p.board, p.reel))

-- Whether the entry, placed after so many commands, is a boundary there.
abbrev pub is_joint : Joint → ℕ → Matter → Bool
is_joint joint after (Boundary m s board reel desk_reel) =
    same_joint (after + 1, (m, s), (board, desk_reel)) joint
is_joint joint after _ = false

-- The number of the entry if it is a boundary there.
abbrev pub number_at : Joint → (number after : ℕ) → Matter → Option ℕ
number_at joint number after m = if is_joint joint after m then Some number else None

-- The number of the last entry that is a boundary there.
abbrev pub boundary_at : Book → Joint → Option ℕ
boundary_at [] joint = None
boundary_at (n ∷ ns) joint =
    option_or (boundary_at ns joint) (number_at joint n.number n.after n.matter)

abbrev pub boundary_by : Book → Placement → Option ℕ
boundary_by B p = boundary_at B (joint_of p)

-- The boundary's number in the map.
abbrev pub number_in : BTreeMap Joint ℕ → Joint → Option ℕ
number_in joints joint = tree.get by_joint joints joint
