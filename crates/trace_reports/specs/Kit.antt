-- The kit list of a product on a machine: the reels to bring for a number of boards.
use Rattle.std.specs.Prelude.{ℕ, ◌*◌, ◌-◌, nat_le, nat_lt, not, Option, None, Some, List, [], ◌∷◌, ◌++◌, map, length, codes, decimal, if◌then◌else◌, unwrap_or}
use Rattle.std.specs.Option.{option_map}
use Rattle.std.specs.List.{find, filter, filter_map, sum_by}
use Rattle.desk_types.specs.declared.sheet.SheetRow.{SheetRow}
use Rattle.desk_types.specs.declared.view.ReelView.{ReelView}
use Rattle.desk_types.specs.Id.{Name}
use Rattle.desk_types.specs.History.{History}
use Rattle.desk_types.specs.Free.{free_reels}
use Rattle.desk_types.specs.Setup.{sheet_of}
use Rattle.setup_sheets.specs.Names.{is_among}
use Rattle.trace_reports.specs.Csv.{csv_text}
use Rattle.trace_reports.specs.Shown.{left_text}
use Rattle.trace_reports.specs.declared.kit.KitRow.{KitRow}
use Rattle.trace_reports.specs.declared.kit.Supply.{Supply}
use Rattle.trace_reports.specs.declared.kit.Supply.TheVariants.{Reel, Short}

-- ---- the reels for a sheet row

-- The pieces that a sheet row needs: one for each designator on each board.
abbrev pub needed_by : ℕ → SheetRow → ℕ
needed_by boards row = boards * length row.designators

-- The total pieces on the reels.
abbrev pub pieces_of_reels : List ReelView → ℕ
pieces_of_reels reels = sum_by (λ (r : ReelView). r.remaining) reels

-- The prefixes of a list, shortest first.
unfoldable pub prefixes : {X : Type 0} → List X → List (List X)
prefixes [] = [] ∷ []
prefixes (x ∷ xs) = [] ∷ map (λ p. x ∷ p) (prefixes xs)

-- The shortest prefix of the reels with the pieces needed, or else all of them.
abbrev pub enough : ℕ → List ReelView → List ReelView
enough needed reels =
    unwrap_or (find (λ p. nat_le needed (pieces_of_reels p)) (prefixes reels)) reels

-- The free reels for the part in order of use, except those already given.
abbrev pub still_free : History → List Name → Name → List ReelView
still_free H given part = filter (λ (r : ReelView). not (is_among given r.reel)) (free_reels H part)

-- The reels for a sheet row, given the earlier ones.
abbrev pub reels_for : History → ℕ → List Name → SheetRow → List ReelView
reels_for H boards given row = enough (needed_by boards row) (still_free H given row.part)

-- ---- the kit's rows

-- One reel for a sheet row.
abbrev pub reel_row : SheetRow → ℕ → ReelView → KitRow
reel_row row needed r = record {
  slot = row.slot;
  part = row.part;
  needed = needed;
  supply = Reel r.reel r.remaining r.left;
}

-- The pieces that a sheet row lacks.
abbrev pub short_row : SheetRow → ℕ → ℕ → KitRow
short_row row needed missing =
    record { slot = row.slot; part = row.part; needed = needed; supply = Short missing }

-- The kit's rows for one sheet row: its reels, then the missing pieces, if any.
abbrev pub rows_for : SheetRow → ℕ → List ReelView → List KitRow
rows_for row needed reels =
    map (reel_row row needed) reels
    ++ (if nat_lt (pieces_of_reels reels) needed
    then short_row row needed (needed - pieces_of_reels reels) ∷ [] else [])

-- The kit's rows for the sheet rows in order; no reel is given twice.
unfoldable pub kit_rows : History → ℕ → List Name → List SheetRow → List KitRow
kit_rows H boards given [] = []
kit_rows H boards given (row ∷ rows) =
    rows_for row (needed_by boards row) (reels_for H boards given row)
    ++ kit_rows H boards
    (given ++ map (λ (r : ReelView). r.reel) (reels_for H boards given row)) rows

-- The reel in a kit row.
abbrev pub reel_in : Supply → Option Name
reel_in (Reel reel pieces left) = Some reel
reel_in (Short missing) = None

-- The reels in the kit's rows.
abbrev pub reels_in : List KitRow → List Name
reels_in rows = filter_map (λ (row : KitRow). reel_in row.supply) rows

-- ---- the text

abbrev pub kit_header : List (List ℕ)
kit_header = codes "slot" ∷ codes "part" ∷ codes "needed" ∷ codes "reel" ∷ codes "pieces"
    ∷ codes "minutes_left" ∷ []

-- The last three fields: a reel, its pieces and its floor life; or no reel, the missing pieces and
-- a word.
abbrev pub supply_fields : Supply → List (List ℕ)
supply_fields (Reel reel pieces left) = reel ∷ decimal pieces ∷ left_text left ∷ []
supply_fields (Short missing) = [] ∷ decimal missing ∷ codes "short" ∷ []

abbrev pub kit_fields : KitRow → List (List ℕ)
kit_fields row = row.slot ∷ row.part ∷ decimal row.needed ∷ supply_fields row.supply

-- The kit list, if the product has a sheet on the machine.
abbrev pub kit_list : History → Name → Name → ℕ → Option (List ℕ)
kit_list H product machine boards =
    option_map (λ sheet. csv_text kit_header (map kit_fields (kit_rows H boards [] sheet)))
    (sheet_of H product machine)
