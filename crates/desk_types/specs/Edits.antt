-- Edits of the state tables.
use Rattle.std.specs.Prelude.{◌==◌, ◌&&◌, ◌||◌, ◌≡◌, ◌<◌, ◌+◌, ⊤, Bool, true, false, Some, None, List, [], ◌∷◌, if◌then◌else◌}
use Rattle.std.specs.List.{AllByRecursion, list_any}
use Rattle.desk_types.specs.Id.{same}
use Rattle.desk_types.specs.declared.edit.RowEdit.{RowEdit}
use Rattle.desk_types.specs.declared.edit.RowEdit.TheVariants.{TakeSheetRow, TakeMount, PutPart, PutAlternate, PutSheetRow, PutSelected, PutReel, PutMount, PutBoard, PutPlacement, PutFound}
use Rattle.desk_types.specs.Tables.{Tables}

-- The tables after one edit: it removes a row, or puts a row and replaces one with the same key.
abbrev pub with_edit : RowEdit → Tables → Tables
with_edit (TakeSheetRow product machine place) t =
    record t {
      sheets = λ p m k. if same product p && same machine m && (place == k)
          then None else t.sheets p m k;
    }
with_edit (TakeMount reel) t = record t { mounts = λ r. if same reel r then None else t.mounts r }
with_edit (PutPart part) t = record t { parts = λ p. same part p || t.parts p }
with_edit (PutAlternate part alternate) t =
    record t { alternates = λ p q. same part p && same alternate q || t.alternates p q }
with_edit (PutSheetRow product machine place row) t =
    record t {
      sheets = λ p m k. if same product p && same machine m && (place == k)
          then Some row else t.sheets p m k;
    }
with_edit (PutSelected machine product) t =
    record t { selected = λ m. if same machine m then Some product else t.selected m }
with_edit (PutReel row) t =
    record t { reels = λ r. if same row.reel r then Some row else t.reels r }
with_edit (PutMount row) t =
    record t { mounts = λ r. if same row.reel r then Some row else t.mounts r }
with_edit (PutBoard row) t =
    record t { boards = λ b. if same row.board b then Some row else t.boards b }
with_edit (PutPlacement row) t =
    record t {
      placements = λ n k. if row.number == n && (row.place == k)
          then Some row else t.placements n k;
    }
with_edit (PutFound reel pieces) t =
    record t { found = λ r. if same reel r then Some pieces else t.found r }

-- The tables after several edits in order.
abbrev pub with_edits : List RowEdit → Tables → Tables
with_edits [] t = t
with_edits (x ∷ xs) t = with_edits xs (with_edit x t)

-- ---- edits that the constraints of the stored tables allow

-- The edit replaces no placement, mount or sheet row, and puts no row of 0 found pieces.
abbrev pub IsNew : RowEdit → Tables → Type 0
IsNew (PutPlacement row) t = t.placements row.number row.place ≡ None
IsNew (PutMount row) t = t.mounts row.reel ≡ None
IsNew (PutSheetRow product machine place row) t = t.sheets product machine place ≡ None
IsNew (PutFound reel pieces) t = 0 < pieces
IsNew _ t = ⊤

-- Each edit is new when its turn comes.
abbrev pub AreNew : List RowEdit → Tables → Type 0
AreNew [] t = ⊤
AreNew (x ∷ xs) t = IsNew x t × AreNew xs (with_edit x t)

-- Whether the edit removes a row.
abbrev pub takes_out : RowEdit → Bool
takes_out (TakeSheetRow product machine place) = true
takes_out (TakeMount reel) = true
takes_out edit = false

-- Every edit that removes a row comes before those that put one.
abbrev pub AreTakesFirst : List RowEdit → Type 0
AreTakesFirst [] = ⊤
AreTakesFirst (x ∷ xs) = (list_any takes_out xs ≡ true → takes_out x ≡ true) × AreTakesFirst xs

-- A reel row accounts for every received piece: placed, scrapped or remaining.
abbrev pub IsBalanced : RowEdit → Type 0
IsBalanced (PutReel row) = row.received ≡ row.placed + row.scrapped + row.remaining
IsBalanced edit = ⊤

-- Each reel row is balanced.
abbrev pub AreBalanced : List RowEdit → Type 0
AreBalanced edits = AllByRecursion IsBalanced edits
