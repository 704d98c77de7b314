-- The entry of each finding is plain.
use Rattle.desk_types.proofs.Common.{[], All, All-append, All-nil, Bool, false, get_or, if◌then◌else◌, length, List, Name, None, Option}
use Rattle.desk_types.proofs.Common.{option_map, option_map_or, option_to_list, refl, Some, true, ℕ}
use Rattle.std.proofs.lemmas.List.Elements.{All-cons, All-map}
use Rattle.desk_types.specs.declared.change.Change.{Change}
use Rattle.desk_types.specs.declared.command.Command.{Command}
use Rattle.desk_types.specs.declared.command.Command.TheVariants as command
use Rattle.desk_types.specs.declared.take.Take.{Take}
use Rattle.serde_json.specs.Data.{Data}
use Rattle.line_book.specs.declared.note.Matter.{Matter}
use Rattle.line_book.specs.declared.note.Matter.TheVariants.{Boundary, Differs}
use Rattle.line_members.specs.declared.comparison.Piece.{Piece}
use Rattle.line_members.specs.declared.named_reels.MachineReels.{MachineReels}
use Rattle.line_members.specs.declared.named_reels.MachineReels.TheVariants.{Absent, Uncompared, Named}
use Rattle.line_members.specs.declared.receipt.AttributeName.{AttributeName}
use Rattle.line_members.specs.declared.receipt.AttributeName.TheVariants.{DateCode, Supplier, MakerPart, Order}
use Rattle.line_members.specs.Accepted.{accepted, accepted_by, compared, IsPlain}
use Rattle.line_members.specs.Body.{body_in}
use Rattle.line_members.specs.Comparison.{are_neighbors, designators_like, finding_of, firsts, pieces, Tapes}
use Rattle.line_members.specs.NamedReels.{machine_reels}
use Rattle.line_members.specs.Receipt.{attribute_at, attribute_text, attributes_in, finding, finding_at}

-- ---- attributes

of_value : (reel : Name) (name : AttributeName) (value : Option (List ℕ))
    → All IsPlain (option_to_list (option_map (finding reel name) value))
of_value reel name None = All-nil IsPlain
of_value reel name (Some text) =
    All-cons IsPlain (finding reel name text) [] (refl, λ about is. cc) (All-nil IsPlain)

of_attribute : (reel : Name) (body : Data) (name : AttributeName)
    → All IsPlain (option_to_list (finding_at reel body name))
of_attribute reel body name = of_value reel name (attribute_at (attribute_text name) body)

of_body : (reel : Name) (body : Option Data) → All IsPlain (option_map_or (attributes_in reel) body [])
of_body reel None = All-nil IsPlain
of_body reel (Some body) =
    All-append IsPlain _ _ (All-append IsPlain _ _ (All-append IsPlain _ _
    (of_attribute reel body DateCode) (of_attribute reel body Supplier))
    (of_attribute reel body MakerPart)) (of_attribute reel body Order)

-- ---- reels

of_matter : (near : Bool) (a b : Matter) (told : List ℕ) → IsPlain (record { matter = a; told = told })
    → IsPlain (record { matter = b; told = told })
    → IsPlain (record { matter = if near then a else b; told = told })
of_matter true a b told first second = first
of_matter false a b told first second = second

of_piece : (machine board : Name) (tapes : Tapes) (ps : List Piece) (p : Piece)
    → IsPlain (finding_of machine board tapes ps p)
of_piece machine board tapes ps p =
    of_matter (are_neighbors (tapes machine p.slot) p.reel p.desk_reel)
    (Boundary machine p.slot board p.reel p.desk_reel) (Differs machine p.slot board p.reel p.desk_reel)
    (designators_like p ps) (refl, λ about is. cc) (refl, λ about is. cc)

of_reels : (told : List ℕ) (machine board : Name) (tapes : Tapes) (takes : List Take) (reels : MachineReels)
    → All IsPlain (compared told machine board tapes takes reels)
of_reels told machine board tapes takes Absent = All-nil IsPlain
of_reels told machine board tapes takes Uncompared = All-cons IsPlain _ [] (refl, λ about is. cc) (All-nil IsPlain)
of_reels told machine board tapes takes (Named reels) = let ps = pieces takes reels in
    All-map IsPlain (finding_of machine board tapes ps) (firsts ps) (λ k d inside.
    of_piece machine board tapes ps (get_or (firsts ps) k d))

-- ---- messages

of_command : (told : List ℕ) (tapes : Tapes) (takes : List Take) (c : Command)
    → All IsPlain (accepted_by told tapes takes c)
of_command told tapes takes (command.PartDefined part) = All-nil IsPlain
of_command told tapes takes (command.AlternateAllowed part alternate) = All-nil IsPlain
of_command told tapes takes (command.SheetDefined product machine rows) = All-nil IsPlain
of_command told tapes takes (command.ProductSelected machine product) = All-nil IsPlain
of_command told tapes takes (command.ReelReceived reel part lot moisture quantity) = of_body reel (body_in told)
of_command told tapes takes (command.ReelOpened reel) = All-nil IsPlain
of_command told tapes takes (command.ReelSealed reel) = All-nil IsPlain
of_command told tapes takes (command.ReelBaked reel) = All-nil IsPlain
of_command told tapes takes (command.MaterialsLoaded machine slot reel) = All-nil IsPlain
of_command told tapes takes (command.MaterialsSpliced machine slot reel) = All-nil IsPlain
of_command told tapes takes (command.MaterialsUnloaded machine slot) = All-nil IsPlain
of_command told tapes takes (command.WorkStarted machine board) = All-nil IsPlain
of_command told tapes takes (command.WorkCompleted machine board) = All-nil IsPlain
of_command told tapes takes (command.MaterialsInstalled machine board designators) =
    of_reels told machine board tapes takes (machine_reels told (length takes))
of_command told tapes takes (command.MaterialsScrapped machine slot quantity) = All-nil IsPlain
of_command told tapes takes (command.CountsTaken counts) = All-nil IsPlain
of_command told tapes takes command.ClockSet = All-nil IsPlain

pub of_change : (told : List ℕ) (tapes : Tapes) (change : Change) → All IsPlain (accepted told tapes change)
of_change told tapes change = of_command told tapes change.takes change.stamped.command
