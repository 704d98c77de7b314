-- The entry that a refused command makes.
use Rattle.std.specs.Prelude.{Bool, true, false, ◌&&◌, Option, Some, None, List, [], codes, unwrap_or, if◌then◌else◌}
use Rattle.std.specs.List.{list_any}
use Rattle.std.specs.Option.{option_and_then}
use Rattle.desk_types.specs.declared.answer.Refusal.TheVariants.{SlotTaken, SlotEmpty, ReelMounted, WrongPart, NotBaked, Expired, ReelShort}
use Rattle.desk_types.specs.declared.command.Command.{Command}
use Rattle.desk_types.specs.declared.command.Command.TheVariants.{MaterialsLoaded, MaterialsSpliced, MaterialsUnloaded, WorkStarted, WorkCompleted, MaterialsInstalled, MaterialsScrapped}
use Rattle.desk_types.specs.declared.view.Mount.{Mount}
use Rattle.desk_types.specs.Id.{Name, same}
use Rattle.desk_types.specs.History.{History}
use Rattle.desk_types.specs.Setup.{sheet_on}
use Rattle.desk_types.specs.View.{mounts_on}
use Rattle.desk_answers.specs.declared.answer.Answer.{Answer}
use Rattle.desk_answers.specs.declared.answer.Answer.TheVariants.{Accepted, Refused, IdReused, DeskFull, Unavailable}
use Rattle.desk_answers.specs.Texts.{refusal_word}
use Rattle.line_book.specs.declared.note.Matter.{Matter}
use Rattle.line_book.specs.declared.note.Matter.TheVariants.{Handling, Stray, Work}
use Rattle.line_book.specs.Causes.{is_on}

-- ---- the answer

-- The word of the answer, if it refuses the command.
abbrev pub answer_word : Answer → Option Name
answer_word (Refused refusal) = Some (refusal_word refusal)
answer_word (IdReused number) = Some (codes "IdReused")
answer_word DeskFull = Some (codes "DeskFull")
answer_word (Accepted number text) = None
answer_word Unavailable = None

-- The slot that the refusal of a start names.
abbrev pub start_slot : Answer → Option Name
start_slot (Refused (SlotEmpty slot)) = Some slot
start_slot (Refused (WrongPart slot)) = Some slot
start_slot (Refused (NotBaked slot)) = Some slot
start_slot (Refused (Expired slot)) = Some slot
start_slot _ = None

-- The slot that the refusal of a scrap names.
abbrev pub scrap_slot : Answer → Option Name
scrap_slot (Refused (SlotEmpty slot)) = Some slot
scrap_slot (Refused (ReelShort slot)) = Some slot
scrap_slot _ = None

-- ---- loads, splices and unloads

-- A refused load, splice or unload. If the selected sheet has no such slot it is a stray, since no
-- command of that slot may ever be accepted.
abbrev pub handling : History → (machine slot : Name) → Option Name → Name → Matter
handling H machine slot reel word = if is_on (sheet_on H machine) slot
    then Handling machine slot reel word else Stray machine slot reel word

-- Whether one of the live reels is this one on this slot.
abbrev pub has_mount : List Mount → (slot reel : Name) → Bool
has_mount mounts slot reel =
    list_any (λ (m : Mount). same m.slot slot && same m.reel reel) mounts

-- Whether the reel is live on the slot.
abbrev pub is_live_at : History → (machine slot reel : Name) → Bool
is_live_at H machine slot reel = has_mount (unwrap_or (mounts_on H machine) []) slot reel

-- Whether the answer says that the slot is taken or that the reel is mounted.
abbrev pub says_mounted : Answer → Bool
says_mounted (Refused (SlotTaken slot)) = true
says_mounted (Refused (ReelMounted reel)) = true
says_mounted _ = false

-- Whether the message only verifies the slot: it is refused because the reel is there already.
abbrev pub is_verification : History → Answer → (machine slot reel : Name) → Bool
is_verification H answer machine slot reel =
    says_mounted answer && is_live_at H machine slot reel

-- A refused load or splice. A verification makes no entry.
abbrev pub mounting : History → Answer → (machine slot reel word : Name) → Option Matter
mounting H answer machine slot reel word = if is_verification H answer machine slot reel
    then None else Some (handling H machine slot (Some reel) word)

-- ---- work

-- A refused start, completion, install or scrap.
abbrev pub work : Answer → Command → Name → Option Matter
work answer (WorkStarted machine board) word =
    Some (Work machine (start_slot answer) (Some board) word)
work answer (WorkCompleted machine board) word = Some (Work machine None (Some board) word)
work answer (MaterialsInstalled machine board designators) word =
    Some (Work machine None (Some board) word)
work answer (MaterialsScrapped machine slot quantity) word =
    Some (Work machine (scrap_slot answer) None word)
work answer _ word = None

-- ---- any command

-- The entry that the command makes if it is refused with this word. Only what was done at a machine
-- makes one.
abbrev pub entry_for : History → Answer → Command → Name → Option Matter
entry_for H answer (MaterialsLoaded machine slot reel) word =
    mounting H answer machine slot reel word
entry_for H answer (MaterialsSpliced machine slot reel) word =
    mounting H answer machine slot reel word
entry_for H answer (MaterialsUnloaded machine slot) word =
    Some (handling H machine slot None word)
entry_for H answer command word = work answer command word

-- The entry that the command with this answer makes.
abbrev pub refused : History → Command → Answer → Option Matter
refused H command answer = option_and_then (entry_for H answer command) (answer_word answer)
