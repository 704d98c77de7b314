use Rattle.desk_types.proofs.Common.{◌≤◌, drop, length, take}
use Rattle.line_book.specs.Guard.{IsGuard}
use Rattle.line_book.specs.Restored.{Follow, history_of}
use Rattle.line_book.proofs.restored.restore.Given as goal

-- The guard has the notes so far and the commands up to the last one's place, and the other notes follow.
abbrev pub invariant-loop-note : goal.invariant-loop-note
invariant-loop-note l = IsGuard (history_of (take l.at l.commands)) (take l.note-index l.notes) l.guard
    × Follow (length l.commands) l.note-index l.at (drop l.note-index l.notes) × (l.at ≤ length l.commands)
