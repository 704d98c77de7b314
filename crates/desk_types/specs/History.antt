-- The history of accepted commands, the rules with it, and the desk's clock.
use Rattle.std.specs.Prelude.{◌≡◌, ℕ, ◌+◌, max, Option, Some, None, List, [], ◌∷◌, ◌++◌, length, unwrap_or}
use Rattle.std.specs.Option.{option_or}
use Rattle.desk_types.specs.declared.command.Entry.{Entry}
use Rattle.desk_types.specs.declared.command.Stamped.{Stamped}
use Rattle.desk_types.specs.declared.rules.Rules.{Rules}

-- The accepted entries, newest first.
abbrev pub History : Type 0
History = List Entry

-- H is G with later entries.
abbrev pub IsPrefix : History → History → Type 0
IsPrefix G H = (later : List Entry) × (H ≡ later ++ G)

-- The newest value that `says` finds in an entry.
abbrev pub latest : {X : Type 0} → (Entry → Option X) → History → Option X
latest says [] = None
latest says (e ∷ H) = option_or (says e) (latest says H)

-- The desk minute: the greatest effective minute; none for an empty history.
abbrev pub desk_minute : History → Option ℕ
desk_minute [] = None
desk_minute (e ∷ H) = Some (max e.effective (unwrap_or (desk_minute H) 0))

-- The desk minute, or 0 for an empty history.
abbrev pub now_of : History → ℕ
now_of H = unwrap_or (desk_minute H) 0

-- The minute at which a command takes effect: its own, but never before the desk minute.
abbrev pub effective_minute : History → ℕ → ℕ
effective_minute H own = max own (now_of H)

-- The command's entry when it is accepted after H.
abbrev pub entry_of : History → Stamped → Entry
entry_of H s = record {
  number = length H + 1;
  stamped = s;
  effective = effective_minute H s.minute;
}

-- The history after accepting the command.
abbrev pub accept : History → Stamped → History
accept H s = entry_of H s ∷ H

-- What a desk judges by: rules, and a history.
pub record Basis : Type 0 where
  pub rules : Rules
  pub history : History

abbrev pub basis : Rules → History → Basis
basis rules H = record { rules = rules; history = H }

-- The basis with the command accepted.
abbrev pub basis_after : Basis → Stamped → Basis
basis_after B s = record B { history = accept B.history s }
