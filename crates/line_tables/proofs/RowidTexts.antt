-- The meaning of the texts that read rowids.
use Rattle.desk_types.proofs.Common.{[], ◌∷◌, codes, false, inl, inr, List, negsuc, None, pos, refl, true, ℕ}
use Rattle.line_tables.proofs.Common.{ascending, Binary, col, end, everything, found, Indexed, inner, Int}
use Rattle.line_tables.proofs.Common.{lit, One, Plain, Query, tree_in, Two, understood}
use Rattle.line_tables.proofs.FindTexts.{IsSelect, IsSelectBy}
use Rattle.sqlite.specs.Listing.{listing_schema}

abbrev pub rowids_from : ℕ → Query
rowids_from tree = record { from = inner tree end; filter = []; group = None; project = col 1 0 ∷ []; distinct = false; collations = []; order = (col 1 0, ascending Binary) ∷ []; limit = lit (Int (negsuc 0)); offset = lit (Int (pos 0)) }

-- The text reads them under the name of the column that stores them.
abbrev pub IsRowids : List ℕ → ℕ → List ℕ → Type 0
IsRowids sql tree name = IsSelect sql (rowids_from tree) (name ∷ [])

pub part_is : IsRowids (codes "SELECT rowid FROM part ORDER BY rowid") 3 (codes "rowid")
unfolding understood everything
part_is rules indexed = inl (refl, refl, (refl, refl))

pub alternate_is : IsRowids (codes "SELECT rowid FROM alternate ORDER BY rowid") 5 (codes "rowid")
unfolding understood everything
alternate_is rules indexed = inl (refl, refl, (refl, refl))

pub sheet_row_is : IsRowids (codes "SELECT rowid FROM sheet_row ORDER BY rowid") 7 (codes "rowid")
unfolding understood everything
sheet_row_is rules indexed = inl (refl, refl, (refl, refl))

pub selected_is : IsRowids (codes "SELECT rowid FROM selected ORDER BY rowid") 9 (codes "rowid")
unfolding understood everything
selected_is rules indexed = inl (refl, refl, (refl, refl))

pub reel_is : IsRowids (codes "SELECT rowid FROM reel ORDER BY rowid") 11 (codes "rowid")
unfolding understood everything
reel_is rules indexed = inl (refl, refl, (refl, refl))

pub mount_is : IsRowids (codes "SELECT rowid FROM mount ORDER BY rowid") 13 (codes "since")
unfolding understood everything
mount_is rules indexed = inl (refl, refl, (refl, refl))

pub board_is : IsRowids (codes "SELECT rowid FROM board ORDER BY rowid") 15 (codes "rowid")
unfolding understood everything
board_is rules indexed = inl (refl, refl, (refl, refl))

-- Version 1 has no such table.
pub found_is : IsSelectBy (codes "SELECT rowid FROM found ORDER BY rowid") (λ schema. rowids_from (tree_in found schema)) (codes "rowid" ∷ [])
unfolding understood everything listing_schema
found_is One indexed = inr refl
found_is Two (Indexed others) = inl (refl, refl, (refl, refl))
found_is Two (Plain others) = inl (refl, refl, (refl, refl))
