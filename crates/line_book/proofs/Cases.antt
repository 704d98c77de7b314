-- The names, histories and entries that the worked cases share.
use Rattle.desk_types.proofs.Common.{[], ◌++◌, ◌∷◌, codes, History, List, None, Some, ℕ}
use Rattle.desk_types.proofs.RowsCommon.{B1, base, K1, K2, L1, L2, M, P, received, S1, said}
use Rattle.desk_types.specs.declared.command.Command.{Command}
use Rattle.desk_types.specs.declared.command.Command.TheVariants.{MaterialsLoaded, WorkStarted}
use Rattle.line_book.specs.declared.note.Matter.{Matter}
use Rattle.line_book.specs.declared.note.Matter.TheVariants.{Handling, Stray, Work, Unread, Differs}
use Rattle.line_book.specs.declared.note.Note.{Note}
use Rattle.line_book.specs.Restored.{history_of}

-- Eight commands: slot 1 of machine M has reel K1, and board B1 is in work. Reel K2 of another lot was
-- received. Then these commands.
abbrev pub working : List Command → History
working later = history_of (base ++ said (
    received K1 P L1 10
    ∷ received K2 P L2 10
    ∷ MaterialsLoaded M S1 K1
    ∷ WorkStarted M B1
    ∷ later))

-- The entry with this number, placed after so many commands.
abbrev pub note : ℕ → ℕ → Matter → Note
note number after matter = record { number = number; after = after; carries = 0; matter = matter; text = [] }

-- The load of an unknown reel on slot 1 was refused.
abbrev pub refused : Matter
refused = Handling M S1 (Some (codes "K9")) (codes "UnknownReel")

-- The same on slot 7, which the sheet doesn't have.
abbrev pub mistyped : Matter
mistyped = Stray M (codes "7") (Some K2) (codes "SlotNotOnSheet")

-- An unload of slot 7 was refused.
abbrev pub mistyped_unload : Matter
mistyped_unload = Stray M (codes "7") None (codes "SlotEmpty")

-- A start of work was refused.
abbrev pub unstarted : Matter
unstarted = Work M None (Some (codes "B7")) (codes "BoardBusy")

-- A message was faulty.
abbrev pub unread : Matter
unread = Unread (codes "NotJson")

-- The machine took a piece of board B1 from reel K2, where the desk has K1.
abbrev pub contradicted : Matter
contradicted = Differs M S1 B1 K2 K1
