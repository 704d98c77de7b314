-- How a desk was begun, by the UniqueID of its first message.
use Rattle.std.specs.Prelude.{◌≡◌, ◌≢◌, ◌≤◌, ◌⊎◌, ℕ, Bool, true, false, List, [], ◌∷◌, ◌++◌, Option, Some, None, MatchOption, codes, decimal, filter, length}
use Rattle.std.specs.List.{list_any}
use Rattle.sqlite.specs.State.{State}
use Rattle.sqlite_value.specs.Order.{Row}
use Rattle.desk_types.specs.declared.command.Command.{Command}
use Rattle.desk_types.specs.declared.command.Command.TheVariants.{WorkStarted}
use Rattle.desk_types.specs.declared.command.Entry.{Entry}
use Rattle.desk_types.specs.declared.command.Stamped.{Stamped}
use Rattle.desk_types.specs.Command.{IsStamped}
use Rattle.desk_types.specs.History.{History, IsPrefix}
use Rattle.line_tables.specs.Calls.{Reads, has_number}
use Rattle.line_tables.specs.Rows.{accepted_in}
use Rattle.line_replay.specs.Judging.{IsMessageOf}
use Rattle.chain_stores.specs.declared.begin.Place.{Place}
use Rattle.chain_stores.specs.declared.begin.Place.TheVariants as place

-- The UniqueID of the first message of a begin from the file with this checksum.
abbrev pub begin_uid : List ℕ → List ℕ
begin_uid mark = codes "begin-" ++ (mark ++ codes "-1")

-- The checksum in a UniqueID, if it is one of those.
abbrev pub IsMarkIn : List ℕ → Option (List ℕ) → Type 0
IsMarkIn uid None = (mark : List ℕ) → uid ≢ begin_uid mark
IsMarkIn uid (Some mark) = uid ≡ begin_uid mark

abbrev pub first_entry : History → Option Entry
first_entry [] = None
first_entry (e ∷ []) = Some e
first_entry (e ∷ f ∷ H) = first_entry (f ∷ H)

-- The checksum in the UniqueID of the first command.
abbrev pub IsMarkOf : History → Option (List ℕ) → Type 0
IsMarkOf H mark = MatchOption (first_entry H) (mark ≡ None) (λ e. IsMarkIn e.stamped.uid mark)

-- The only row of this number has this message.
pub record ReadsMessage (Clean : Type 0) (old : State) (number : ℕ) (message : Stamped)
    : Type 0 where
  pub row : Row
  pub says : IsMessageOf row message
  pub in_range : IsStamped message
  pub found : Clean → Reads old (λ db. filter (has_number number) (accepted_in db) ≡ row ∷ [])

-- ---- the length of a begin

abbrev pub starts_work : Command → Bool
starts_work (WorkStarted machine board) = true
starts_work _ = false

abbrev pub has_work : History → Bool
has_work H = list_any (λ (e : Entry). starts_work e.stamped.command) H

-- The first UniqueID is the stem and `1`, and this one is the stem and the number.
abbrev pub IsNumbered : List ℕ → ℕ → List ℕ → Type 0
IsNumbered first number uid =
    (stem : List ℕ) × (first ≡ stem ++ codes "1") × (uid ≡ stem ++ decimal number)

-- The newest of these entries, the first ones of a desk, has the UniqueID of a begin with its number, and no work was
-- started so far.
abbrev pub EndsBegin : History → Type 0
EndsBegin [] = ⊥
EndsBegin (e ∷ B) = (first : Entry) × (first_entry (e ∷ B) ≡ Some first)
    × IsNumbered first.stamped.uid (length (e ∷ B)) e.stamped.uid × (has_work (e ∷ B) ≡ false)

-- So many first entries of a history end a begin, or none.
abbrev pub EndsAt : History → ℕ → Type 0
EndsAt H n = (n ≡ 0) ⊎ ((B : History) × IsPrefix B H × (length B ≡ n) × EndsBegin B)

-- A desk with this history was begun with so many commands: the most whose last one ends a begin.
pub record IsBegunWith (H : History) (n : ℕ) : Type 0 where
  pub ends : EndsAt H n
  pub most : (B : History) → IsPrefix B H → EndsBegin B → length B ≤ n

-- The message of this number, as seen from a begin whose UniqueIDs have this stem.
abbrev pub IsPlaceOf : List ℕ → ℕ → Stamped → Place → Type 0
IsPlaceOf stem number m place.Begin =
    (starts_work m.command ≡ false) × (m.uid ≡ stem ++ decimal number)
IsPlaceOf stem number m place.Other =
    (starts_work m.command ≡ false) × (m.uid ≢ stem ++ decimal number)
IsPlaceOf stem number m place.Work = starts_work m.command ≡ true

-- So many first entries of a history were looked at: the last begin among them ends at this number.
pub record BegunSoFar (G : History) (at begun : ℕ) : Type 0 where
  pub part : History
  pub prefix : IsPrefix part G
  pub counted : length part ≡ at
  pub idle : has_work part ≡ false
  pub ends : EndsAt G begun
  pub most : (B : History) → IsPrefix B G → length B ≤ at → EndsBegin B → length B ≤ begun
