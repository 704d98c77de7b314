-- The book next to the history: what the desk didn't accept, and what people decided about it.
use Rattle.std.specs.Prelude.{ℕ, nat_lt, Bool, true, false, not, ◌&&◌, ◌==◌, Some, None, List}
use Rattle.std.specs.List.{list_any}
use Rattle.desk_types.specs.declared.command.Command.{Command}
use Rattle.desk_types.specs.declared.command.Command.TheVariants.{MaterialsLoaded, MaterialsSpliced, MaterialsUnloaded, WorkStarted}
use Rattle.desk_types.specs.declared.command.Entry.{Entry}
use Rattle.desk_types.specs.Id.{Name, same}
use Rattle.desk_types.specs.History.{History}
use Rattle.desk_laws.specs.TapeOrder.{restarts}
use Rattle.line_book.specs.declared.note.Matter.{Matter}
use Rattle.line_book.specs.declared.note.Matter.TheVariants.{Handling, Stray, Work, Differs, Decision}
use Rattle.line_book.specs.declared.note.Note.{Note}

-- The entries of the book, oldest first.
abbrev pub Book : Type 0
Book = List Note

-- ---- commands that close an entry

-- Whether the command loads, splices or unloads the slot.
abbrev pub handles : Name → Name → Command → Bool
handles machine slot (MaterialsLoaded m s reel) = same m machine && same s slot
handles machine slot (MaterialsSpliced m s reel) = same m machine && same s slot
handles machine slot (MaterialsUnloaded m s) = same m machine && same s slot
handles machine slot _ = false

-- Whether the command loads or splices the reel, on whatever slot.
abbrev pub mounts_reel : Name → Command → Bool
mounts_reel reel (MaterialsLoaded m s r) = same r reel
mounts_reel reel (MaterialsSpliced m s r) = same r reel
mounts_reel reel _ = false

-- Whether the command unloads some slot of the machine.
abbrev pub unloads : Name → Command → Bool
unloads machine (MaterialsUnloaded m s) = same m machine
unloads machine _ = false

-- Whether the command starts work on the machine.
abbrev pub begins : Name → Command → Bool
begins machine (WorkStarted m board) = same m machine
begins machine _ = false

-- Whether the accepted command closes the entry:
-- a refused handling ends with a load, a splice or an unload of its slot;
-- one of a slot that the sheet hasn't, with a load or a splice of its reel or, if it has none, with
-- an unload on its machine;
-- refused work ends with the next start of work on its machine;
-- a difference ends with a load or an unload of its slot. A splice leaves the wrong reel in front.
abbrev pub closes : Matter → Command → Bool
closes (Handling machine slot reel word) command = handles machine slot command
closes (Stray machine slot (Some reel) word) command = mounts_reel reel command
closes (Stray machine slot None word) command = unloads machine command
closes (Work machine slot board word) command = begins machine command
closes (Differs machine slot board reel desk_reel) command = restarts machine slot command
closes _ command = false

-- ---- open entries

-- Whether an entry of this kind stops its machine until it is closed or decided.
abbrev pub is_fault : Matter → Bool
is_fault (Handling machine slot reel word) = true
is_fault (Stray machine slot reel word) = true
is_fault (Work machine slot board word) = true
is_fault (Differs machine slot board reel desk_reel) = true
is_fault _ = false

-- Whether the entry is a decision about the entry with the number.
abbrev pub decides : ℕ → Matter → Bool
decides number (Decision about) = about == number
decides number _ = false

-- Whether an accepted command after the entry's place closes it.
abbrev pub is_closed : History → Note → Bool
is_closed H n =
    list_any (λ (e : Entry). nat_lt n.after e.number && closes n.matter e.stamped.command) H

-- Whether some entry of the book is a decision about this one.
abbrev pub is_decided : Book → Note → Bool
is_decided B n = list_any (λ (d : Note). decides n.number d.matter) B

-- An entry that stops its machine is open until an accepted command closes it or somebody decides.
abbrev pub is_open : History → Book → Note → Bool
is_open H B n = is_fault n.matter && (not (is_closed H n) && not (is_decided B n))
