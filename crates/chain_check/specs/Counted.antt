-- Files of a chain as a program finds them: whole histories, and the number of commands with which each desk was begun.
use Rattle.std.specs.Prelude.{◌≡◌, ◌<◌, ◌-◌, ℕ, List, length, map, drop}
use Rattle.desk_types.specs.declared.rules.Rules.TheVariants.{Two}
use Rattle.desk_types.specs.History.{History, now_of}
use Rattle.desk_laws.specs.Chain.{DeskFile, IsChain}

-- The first commands of a history, whose newest entry comes first.
abbrev pub first_of : ℕ → History → History
first_of n H = drop (length H - n) H

-- The file with this history whose desk was begun with its first n commands.
abbrev pub file_of : ℕ → History → DeskFile
file_of n H = record { rules = Two; begun = first_of n H; whole = H }

-- The files are a chain, newest first, and their desks were begun with these numbers of commands. Where they are a chain by some
-- numbers, they are one: no other facts are needed of the numbers.
pub record IsChainBy (numbers : List ℕ) (files : List DeskFile) : Type 0 where
  pub chain : IsChain files
  pub counts : map (λ (f : DeskFile). length f.begun) files ≡ numbers

-- The desk minute moved on after the desk was begun.
abbrev pub Moves : DeskFile → Type 0
Moves file = now_of file.begun < now_of file.whole
