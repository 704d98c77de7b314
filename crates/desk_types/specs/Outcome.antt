-- The change that an accepted command makes, and the replies to commands.
use Rattle.std.specs.Prelude.{ℕ, ◌&&◌, List, [], ◌∷◌, map, sum_by}
use Rattle.std.specs.Option.{option_map_or}
use Rattle.desk_types.specs.declared.answer.Detail.{Detail}
use Rattle.desk_types.specs.declared.answer.Detail.TheVariants.{Plain, MinutesLeft, Reels, Taken}
use Rattle.desk_types.specs.declared.answer.Reply.{Reply}
use Rattle.desk_types.specs.declared.answer.Reply.TheVariants.{Accepted, Refused}
use Rattle.desk_types.specs.declared.change.Change.{Change}
use Rattle.desk_types.specs.declared.command.Command.{Command}
use Rattle.desk_types.specs.declared.command.Command.TheVariants.{MaterialsLoaded, MaterialsSpliced, MaterialsInstalled, MaterialsScrapped, CountsTaken}
use Rattle.desk_types.specs.declared.command.Receipt.{Receipt}
use Rattle.desk_types.specs.declared.command.Stamped.{Stamped}
use Rattle.desk_types.specs.declared.rules.Rules.{Rules}
use Rattle.desk_types.specs.declared.take.Pick.{Pick}
use Rattle.desk_types.specs.declared.take.Take.{Take}
use Rattle.desk_types.specs.Id.{Name}
use Rattle.desk_types.specs.History.{History, effective_minute, accept}
use Rattle.desk_types.specs.Setup.{receipt_of}
use Rattle.desk_types.specs.Pieces.{picks_of, is_placed}
use Rattle.desk_types.specs.FloorLife.{minutes_left, is_expired}
use Rattle.desk_types.specs.Refusals.{refusal_of}

-- ---- changes

-- The reels of the picks, in order.
abbrev pub reels_of : List Pick → List Name
reels_of picks = map (λ (p : Pick). p.reel) picks

-- The total pieces of the picks.
abbrev pub pieces_of : List Pick → ℕ
pieces_of picks = sum_by (λ (p : Pick). p.quantity) picks

-- The detail in the reply to a command accepted after H that takes effect at the minute.
abbrev pub detail_of : History → ℕ → Command → Detail
detail_of H minute (MaterialsLoaded machine slot reel) = MinutesLeft (minutes_left H reel minute)
detail_of H minute (MaterialsSpliced machine slot reel) = MinutesLeft (minutes_left H reel minute)
detail_of H minute (MaterialsInstalled machine board designators) =
    Reels (reels_of (picks_of H (MaterialsInstalled machine board designators)))
detail_of H minute (MaterialsScrapped machine slot quantity) =
    Taken (pieces_of (picks_of H (MaterialsScrapped machine slot quantity)))
detail_of H minute (CountsTaken counts) = Taken (pieces_of (picks_of H (CountsTaken counts)))
detail_of H minute _ = Plain

-- The pick with its reel's part and lot; overdue if its piece is placed from an expired reel.
abbrev pub take_of : History → ℕ → Pick → Take
take_of H minute p = record {
  reel = p.reel;
  part = option_map_or (λ (r : Receipt). r.part) (receipt_of H p.reel) [];
  lot = option_map_or (λ (r : Receipt). r.lot) (receipt_of H p.reel) [];
  quantity = p.quantity;
  purpose = p.purpose;
  overdue = is_placed p.purpose && is_expired H p.reel minute;
}

-- The takes of a command accepted after H that takes effect at the minute.
abbrev pub takes_by : History → ℕ → Command → List Take
takes_by H minute command = map (take_of H minute) (picks_of H command)

-- The change made by a command accepted after H.
abbrev pub change_of : History → Stamped → Change
change_of H s = record {
  stamped = s;
  minute = effective_minute H s.minute;
  detail = detail_of H (effective_minute H s.minute) s.command;
  takes = takes_by H (effective_minute H s.minute) s.command;
}

-- ---- replies

-- The desk's owner, not the desk, handles repeated messages and the greatest number.

-- The reply to a command after H under the rules.
abbrev pub reply_to : Rules → History → Stamped → Reply
reply_to rules H s = option_map_or Refused (refusal_of rules H s) (Accepted (change_of H s).detail)

-- The history after the command, unchanged if it is refused.
abbrev pub after_command : Rules → History → Stamped → History
after_command rules H s = option_map_or (λ _. H) (refusal_of rules H s) (accept H s)

-- The replies to several commands in order.
abbrev pub replies_to : Rules → History → List Stamped → List Reply
replies_to rules H [] = []
replies_to rules H (s ∷ ss) = reply_to rules H s ∷ replies_to rules (after_command rules H s) ss

-- The history after several commands.
abbrev pub after_commands : Rules → History → List Stamped → History
after_commands rules H [] = H
after_commands rules H (s ∷ ss) = after_commands rules (after_command rules H s) ss
