-- The rows of a set, and the tables that they are.
use Rattle.std.specs.Prelude.{◌≡◌, ℕ, ◌==◌, Bool, true, false, Option, Some, None, List, if◌then◌else◌}
use Rattle.std.specs.BTreeMap.{is_at}
use Rattle.std.specs.List.{All, list_any}
use Rattle.std.specs.List.Sorted.{IsStrictlySortedBy}
use Rattle.std.specs.Map.{keys_of, lookup}
use Rattle.std.specs.Option.{option_and_then, option_map}
use Rattle.std.specs.Ordering.{ordering_then, nat_cmp}
use Rattle.std.specs.declared.cmp.Ordering.{Ordering}
use Rattle.desk_types.specs.declared.sheet.SheetRow.{SheetRow}
use Rattle.desk_types.specs.Id.{Name, same, by_name}
use Rattle.desk_types.specs.Pair.{by_pair}
use Rattle.desk_types.specs.declared.row.ReelRow.{ReelRow}
use Rattle.desk_types.specs.declared.row.MountRow.{MountRow}
use Rattle.desk_types.specs.declared.row.BoardRow.{BoardRow}
use Rattle.desk_types.specs.declared.row.PlacementRow.{PlacementRow}
use Rattle.desk_types.specs.declared.edit.RowEdit.{RowEdit}
use Rattle.desk_types.specs.declared.edit.RowEdit.TheVariants.{PutPlacement}
use Rattle.desk_types.specs.Tables.{Tables}

-- ---- orders of keys

-- By product, then machine, then place.
abbrev pub by_sheet_place : Name × Name × ℕ → Name × Name × ℕ → Ordering
by_sheet_place a b =
    ordering_then (ordering_then (by_name a.0 b.0) (by_name a.1 b.1)) (nat_cmp a.2 b.2)

-- By number, then place.
abbrev pub by_piece : ℕ × ℕ → ℕ × ℕ → Ordering
by_piece a b = ordering_then (nat_cmp a.0 b.0) (nat_cmp a.1 b.1)

-- By number, then name.
abbrev pub by_since : ℕ × Name → ℕ × Name → Ordering
by_since a b = ordering_then (nat_cmp a.0 b.0) (by_name a.1 b.1)

-- ---- rows

-- Nine lists of rows, each with its key: a function is no value that a program can keep, so a set of rows is seen as these lists.
pub record KeptRows : Type 0 where
  pub parts : List Name
  pub alternates : List (Name × Name)
  pub sheets : List ((Name × Name × ℕ) × SheetRow)
  pub selected : List (Name × Name)
  pub reels : List (Name × ReelRow)
  pub mounts : List (Name × MountRow)
  pub boards : List (Name × BoardRow)
  pub placements : List ((ℕ × ℕ) × PlacementRow)
  pub found : List (Name × ℕ)

-- Whether the key is in the list.
abbrev pub has_key : {K : Type 0} → (K → K → Ordering) → List K → K → Bool
has_key cmp ks k = list_any (is_at (cmp k)) ks

-- The row with the key.
abbrev pub row_at : {K X : Type 0} → (K → K → Ordering) → List (K × X) → K → Option X
row_at cmp es k = lookup (is_at (cmp k)) es

-- The tables that have these rows, each row found by its key.
abbrev pub tables_in : KeptRows → Tables
tables_in kept = record {
  parts = has_key by_name kept.parts;
  alternates = λ p q. has_key by_pair kept.alternates (p, q);
  sheets = λ p m k. row_at by_sheet_place kept.sheets (p, m, k);
  selected = row_at by_name kept.selected;
  reels = row_at by_name kept.reels;
  mounts = row_at by_name kept.mounts;
  boards = row_at by_name kept.boards;
  placements = λ n k. row_at by_piece kept.placements (n, k);
  found = row_at by_name kept.found;
}

-- Whether the edit is of `placement`.
abbrev pub is_placement : RowEdit → Bool
is_placement (PutPlacement row) = true
is_placement edit = false

-- The tables t, with the placements of other tables.
abbrev pub but_placements : Tables → Tables → Tables
but_placements t other = record t { placements = other.placements }

-- The row without its number.
abbrev pub without_number : MountRow → MountRow
without_number row = record row { since = 0 }

-- The tables without the numbers of commands: without placements, and without the `since` of each mount.
abbrev pub unnumbered : Tables → Tables
unnumbered t = record t {
  mounts = λ r. option_map without_number (t.mounts r);
  placements = λ n k. None;
}

-- ---- lists of a table's rows

-- The entries are the rows of the table: their keys ascend, and each key has the table's row, if any.
pub record Lists {K X : Type 0} (cmp : K → K → Ordering) (entries : List (K × X))
    (table : K → Option X) : Type 0 where
  pub ascending : IsStrictlySortedBy cmp (keys_of entries)
  pub rows : (k : K) → row_at cmp entries k ≡ table k

-- The keys are those of the table, in ascending order.
pub record ListsKeys {K : Type 0} (cmp : K → K → Ordering) (keys : List K)
    (table : K → Bool) : Type 0 where
  pub ascending : IsStrictlySortedBy cmp keys
  pub rows : (k : K) → has_key cmp keys k ≡ table k

-- The row, if its number is this one.
abbrev pub since_is : ℕ → Option MountRow → Option MountRow
since_is since row = option_and_then
    (λ (m : MountRow). if m.since == since then Some m else None) row

-- The entries are the rows of `mount` in the order of their numbers: each reel has the row that the table has, and each entry is one of the table.
pub record ListsMounts (entries : List ((ℕ × Name) × MountRow))
    (table : Name → Option MountRow) : Type 0 where
  pub ascending : IsStrictlySortedBy by_since (keys_of entries)
  pub rows : (reel : Name) → lookup (λ k. same reel k.1) entries ≡ table reel
  pub each : All (λ e. since_is e.0.0 (table e.0.1) ≡ Some e.1) entries

-- The rows by numbers and reels are those by reels.
abbrev pub AreTheSame : List ((ℕ × Name) × MountRow) → List (Name × MountRow) → Type 0
AreTheSame numbered named = (k : ℕ × Name)
    → row_at by_since numbered k ≡ since_is k.0 (row_at by_name named k.1)
