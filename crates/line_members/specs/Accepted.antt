-- The findings in an accepted message.
use Rattle.std.specs.Prelude.{◌≡◌, ◌≢◌, ℕ, false, List, [], ◌∷◌, length}
use Rattle.desk_types.specs.declared.change.Change.{Change}
use Rattle.desk_types.specs.declared.command.Command.{Command}
use Rattle.desk_types.specs.declared.command.Command.TheVariants.{ReelReceived, MaterialsInstalled}
use Rattle.desk_types.specs.declared.take.Take.{Take}
use Rattle.desk_types.specs.Id.{Name}
use Rattle.line_book.specs.declared.note.Matter.TheVariants as matter
use Rattle.line_book.specs.declared.note.Matter.TheVariants.{Decision}
use Rattle.line_entries.specs.Rows.{is_about_message}
use Rattle.line_members.specs.declared.finding.Finding.{Finding}
use Rattle.line_members.specs.declared.named_reels.MachineReels.{MachineReels}
use Rattle.line_members.specs.declared.named_reels.MachineReels.TheVariants.{Absent, Uncompared, Named}
use Rattle.line_members.specs.Comparison.{Tapes, differences, pieces}
use Rattle.line_members.specs.NamedReels.{machine_reels}
use Rattle.line_members.specs.Receipt.{attributes}

-- The finding of an install whose reels can't be compared, with the whole message.
abbrev pub uncompared : List ℕ → (machine board : Name) → List Finding
uncompared told machine board =
    record { matter = matter.Uncompared machine board; told = told } ∷ []

-- The findings of an install that names these reels.
abbrev pub compared : List ℕ → (machine board : Name) → Tapes → List Take → MachineReels
    → List Finding
compared told machine board tapes takes Absent = []
compared told machine board tapes takes Uncompared = uncompared told machine board
compared told machine board tapes takes (Named reels) =
    differences machine board tapes (pieces takes reels)

-- The findings by the command: only a receipt and an install have any.
abbrev pub accepted_by : List ℕ → Tapes → List Take → Command → List Finding
accepted_by told tapes takes (ReelReceived reel part lot moisture quantity) = attributes told reel
accepted_by told tapes takes (MaterialsInstalled machine board designators) =
    compared told machine board tapes takes (machine_reels told (length takes))
accepted_by told tapes takes _ = []

-- The findings in the message whose command made the change, by the tapes before it.
abbrev pub accepted : List ℕ → Tapes → Change → List Finding
accepted told tapes change = accepted_by told tapes change.takes change.stamped.command

-- The entry of a finding is about no refused or faulty message, and is no decision.
abbrev pub IsPlain : Finding → Type 0
IsPlain f = (is_about_message f.matter ≡ false) × ((about : ℕ) → f.matter ≢ Decision about)
