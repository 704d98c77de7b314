-- What late messages mark, and what is asked of a piece about them.
use Rattle.std.specs.Prelude.{ℕ, ◌-◌, Option, Some, None, List, length, map, reverse, slice_index_or}
use Rattle.std.specs.Option.{option_or}
use Rattle.desk_types.specs.declared.command.Command.{Command}
use Rattle.desk_types.specs.declared.command.Command.TheVariants.{MaterialsLoaded, MaterialsSpliced, MaterialsUnloaded}
use Rattle.desk_types.specs.declared.command.Stamped.{Stamped}
use Rattle.desk_types.specs.declared.limits.TheConstants.{GREATEST_MINUTE}
use Rattle.desk_types.specs.declared.placement.Placement.{Placement}
use Rattle.desk_types.specs.Id.{Name}
use Rattle.line_doubt.specs.declared.mark.Ask.{Ask}
use Rattle.line_doubt.specs.declared.mark.Mark.{Mark}
use Rattle.line_doubt.specs.Marks.{best_before, number_above}
use Rattle.line_doubt.specs.Sources.{ask_of, marks_by}

-- ---- minutes

-- The own minutes of the commands.
abbrev pub minutes_of : List Stamped → List ℕ
minutes_of commands = map (λ (s : Stamped). s.minute) commands

-- The own minute of the piece's install.
abbrev pub own_minute : List ℕ → Placement → ℕ
own_minute minutes p = slice_index_or minutes (p.number - 1) 0

-- ---- handlings

abbrev mark : (at value number : ℕ) → Name → Name → Mark
mark at value number machine slot =
    record { at = at; machine = machine; slot = slot; value = value; number = number }

-- A load, a splice or an unload, with its number, marks its slot with the value.
abbrev pub handled_mark : (at value number : ℕ) → Command → Option Mark
handled_mark at value number (MaterialsLoaded m s reel) =
    Some (mark at value number m s)
handled_mark at value number (MaterialsSpliced m s reel) =
    Some (mark at value number m s)
handled_mark at value number (MaterialsUnloaded m s) =
    Some (mark at value number m s)
handled_mark at value number _ = None

-- Each handling marks its slot with its own minute.
abbrev pub handled_marks : List Stamped → List Mark
handled_marks commands =
    marks_by (λ number s. handled_mark number s.minute number s.command) 1 commands

-- ---- from the end of the history

-- The handling's place is the number of commands behind it, and its value is greater the earlier
-- its own minute.
abbrev pub from_end : ℕ → ℕ → Stamped → Option Mark
from_end commands number s =
    handled_mark (commands - number) (GREATEST_MINUTE - s.minute) number s.command

abbrev pub handled_from_end : List Stamped → List Mark
handled_from_end commands = reverse (marks_by (from_end (length commands)) 1 commands)

-- What is asked about the piece's slot: what was marked behind its install.
abbrev pub ask_from_end : ℕ → Placement → Ask
ask_from_end commands p =
    record { at = commands - p.number; machine = p.machine; slot = p.slot }

-- ---- all of them

-- The number of a handling behind the piece's install with an earlier minute, or else of one before
-- it with a later minute.
abbrev pub late_by : List Stamped → Placement → Option ℕ
late_by commands p = option_or
    (number_above (best_before (handled_from_end commands) (ask_from_end (length commands) p))
    (GREATEST_MINUTE - own_minute (minutes_of commands) p))
    (number_above (best_before (handled_marks commands) (ask_of p))
    (own_minute (minutes_of commands) p))
