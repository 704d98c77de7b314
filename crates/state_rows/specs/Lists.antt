-- Where the placed pieces of a list are found.
use Rattle.std.specs.Prelude.{◌≡◌, ℕ, zero, suc, ◌+◌, ◌<◌, ◌≤◌, ◌==◌, Bool, Option, None, List, [], map, length, unwrap_or, slice_get, All}
use Rattle.std.specs.List.{filter, find, flat_map, range_with_len}
use Rattle.std.specs.Option.{option_map}
use Rattle.std.specs.Vec.{vec_capacity, vec_len}
use Rattle.std.specs.BTreeMap as tree
use Rattle.std.specs.BTreeMap.{BTreeMap}
use Rattle.desk_types.specs.declared.command.Entry.{Entry}
use Rattle.desk_types.specs.declared.placement.Placement.{Placement}
use Rattle.desk_types.specs.Id.{Name, same, by_name}
use Rattle.desk_types.specs.History.{History}
use Rattle.desk_types.specs.Number.{IsMinute}
use Rattle.desk_types.specs.Placements.{placements_of}
use Rattle.state_rows.specs.declared.lists.PieceKey.{PieceKey}
use Rattle.state_rows.specs.declared.lists.Install.{Install}
use Rattle.state_rows.specs.declared.lists.TraceLists.{TraceLists}

-- ---- keys

-- A placed piece's key: its entry's number, and its place in the message.
abbrev pub Key : Type 0
Key = ℕ × ℕ

abbrev pub key_of : PieceKey → Key
key_of p = (p.number, p.place)

-- The keys of the placements that pass a test, in order of entry and place.
abbrev pub keys_where : (Placement → Bool) → History → List Key
keys_where test H = map (λ (p : Placement). (p.number, p.place)) (filter test (placements_of H))

-- The keys of an install's pieces, with places from 1.
abbrev pub keys_of_install : Install → List Key
keys_of_install i = map (λ place. (i.number, place)) (range_with_len 1 i.pieces)

abbrev pub keys_of_installs : List Install → List Key
keys_of_installs installs = flat_map keys_of_install installs

-- At least one piece was placed: so each install is kept once.
abbrev pub HasPieces : Install → Type 0
HasPieces i = 0 < i.pieces

-- ---- minutes

-- The effective minute of the entry with this number.
abbrev pub minute_of : History → ℕ → Option ℕ
minute_of H number = option_map
    (λ (e : Entry). e.effective) (find (λ (e : Entry). e.number == number) H)

-- The minute at a number, counting from 1.
abbrev pub minute_in : List ℕ → ℕ → Option ℕ
minute_in minutes zero = None
minute_in minutes (suc n) = slice_get minutes n

-- ---- indexes

-- The elements under the name.
abbrev pub kept_at : {X : Type 0} → BTreeMap Name (List X) → Name → List X
kept_at kept name = unwrap_or (tree.get by_name kept name) []

-- The indexes have the keys of each placed piece of H and the effective minute of each entry.
pub record IsListed (lists : TraceLists) (H : History) : Type 0 where
  pub lots : (lot : Name) → map key_of (kept_at lists.lots lot) ≡ keys_where (λ p. same p.lot lot) H
  pub boards : (board : Name) → keys_of_installs (kept_at lists.boards board) ≡ keys_where
      (λ p. same p.board board) H
  pub installs : (board : Name) → All HasPieces (kept_at lists.boards board)
  pub overdue : map key_of lists.overdue.items ≡ keys_where (λ p. p.overdue) H
  pub minutes : (number : ℕ) → minute_in lists.minutes.items number ≡ minute_of H number
  pub count : length lists.minutes.items ≡ length H
  pub in_range : All IsMinute lists.minutes.items

-- There is room for one more minute and for this many more overdue pieces, without more memory.
pub record HasRoomFor (pieces : ℕ) (lists : TraceLists) : Type 0 where
  pub minutes : vec_len lists.minutes + 1 ≤ vec_capacity lists.minutes
  pub overdue : vec_len lists.overdue + pieces ≤ vec_capacity lists.overdue
