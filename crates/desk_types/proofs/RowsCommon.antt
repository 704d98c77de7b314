-- The names, messages and machine setup shared by the worked cases.
use Rattle.desk_types.proofs.Common.{[], ◌∷◌, codes, List, map, Name, ℕ}
use Rattle.desk_types.specs.{declared.answer.Detail.TheVariants.Plain, declared.answer.Reply.Reply}
use Rattle.desk_types.specs.{declared.answer.Reply.TheVariants.Accepted, declared.command.Command.Command}
use Rattle.desk_types.specs.{declared.command.Command.TheVariants.PartDefined}
use Rattle.desk_types.specs.{declared.command.Command.TheVariants.ProductSelected}
use Rattle.desk_types.specs.{declared.command.Command.TheVariants.ReelReceived}
use Rattle.desk_types.specs.{declared.command.Command.TheVariants.SheetDefined}
use Rattle.desk_types.specs.{declared.command.Stamped.Stamped, declared.count.CountRow.CountRow}
use Rattle.desk_types.specs.{declared.level.Level.Level, declared.level.Level.TheVariants.One}
use Rattle.desk_types.specs.{declared.level.Level.TheVariants.Six, declared.sheet.SheetRow.SheetRow}

-- ---- names

-- Parts.
abbrev pub P : Name
P = codes "P"

abbrev pub Q : Name
Q = codes "Q"

-- Lots.
abbrev pub L : Name
L = codes "L"

abbrev pub L1 : Name
L1 = codes "L1"

abbrev pub L2 : Name
L2 = codes "L2"

-- Products.
abbrev pub PR : Name
PR = codes "PR"

abbrev pub PS : Name
PS = codes "PS"

-- Machines.
abbrev pub M : Name
M = codes "M"

abbrev pub N : Name
N = codes "N"

-- Slots.
abbrev pub S1 : Name
S1 = codes "1"

abbrev pub S2 : Name
S2 = codes "2"

-- Reels.
abbrev pub K1 : Name
K1 = codes "K1"

abbrev pub K2 : Name
K2 = codes "K2"

abbrev pub K3 : Name
K3 = codes "K3"

abbrev pub K4 : Name
K4 = codes "K4"

-- Boards.
abbrev pub B1 : Name
B1 = codes "B1"

abbrev pub B2 : Name
B2 = codes "B2"

-- Designators.
abbrev pub R1 : Name
R1 = codes "R1"

abbrev pub R2 : Name
R2 = codes "R2"

abbrev pub R3 : Name
R3 = codes "R3"

abbrev pub R4 : Name
R4 = codes "R4"

abbrev pub R5 : Name
R5 = codes "R5"

-- ---- messages

-- A message with this minute and command. All have the same UniqueID and source, which replies
-- ignore.
abbrev pub at : ℕ → Command → Stamped
at minute command = record { uid = codes "u"; source = codes "S"; minute = minute; command = command }

-- The commands as messages at minute 0.
abbrev pub said : List Command → List Stamped
said commands = map (at 0) commands

abbrev pub sheet_row : Name → Name → List Name → SheetRow
sheet_row slot part designators = record { slot = slot; part = part; designators = designators }

-- The receipt of a reel of part P and lot L1, at a level without a label.
abbrev pub received_at : Level → Name → ℕ → Command
received_at level reel quantity = ReelReceived reel P L1 (record { level = level; label = 0 }) quantity

-- The receipt of a reel at level 1.
abbrev pub received : Name → Name → Name → ℕ → Command
received reel part lot quantity = ReelReceived reel part lot (record { level = One; label = 0 }) quantity

-- The receipt of ten pieces of part P and lot L1 at level 6, with this label in minutes.
abbrev pub received_at_six : ℕ → Name → Command
received_at_six label reel = ReelReceived reel P L1 (record { level = Six; label = label }) 10

abbrev pub counted : Name → ℕ → CountRow
counted reel quantity = record { reel = reel; quantity = quantity }

-- ---- the setup

-- Product PR is selected on machine M, where slot 1 feeds part P to five designators; part Q is
-- also defined.
abbrev pub base : List Stamped
base = said (
    PartDefined P
    ∷ PartDefined Q
    ∷ SheetDefined PR M (sheet_row S1 P (R1 ∷ R2 ∷ R3 ∷ R4 ∷ R5 ∷ []) ∷ [])
    ∷ ProductSelected M PR
    ∷ [])

abbrev pub base_replies : List Reply
base_replies = Accepted Plain ∷ Accepted Plain ∷ Accepted Plain ∷ Accepted Plain ∷ []
