-- The rows of a kit, sheet row by sheet row and reel by reel.
use Rattle.desk_types.proofs.Common.{[], ◌++◌, ◌+◌, ◌<◌, ◌∙◌, ◌∷◌, ◌≡◌, ap, append-nil, append_assoc, drop}
use Rattle.desk_types.proofs.Common.{drop-next, get_or, History, length, List, map, map-append, Name, sym}
use Rattle.desk_types.proofs.Common.{take, take-next, ℕ}
use Rattle.desk_laws.proofs.Common.{ReelView, SheetRow}
use Rattle.std.proofs.lemmas.List.Sums.{sum_by_push}
use Rattle.trace_reports.specs.Kit.{kit_rows, needed_by, pieces_of_reels, reels_for, rows_for}
use Rattle.trace_reports.specs.declared.kit.KitRow.{KitRow}

-- ---- one more reel

pub read-next : {Y : Type 0} (read : ReelView → Y) (reels : List ReelView) (i : ℕ) (reel : ReelView) → i < length reels → reel ≡ get_or reels i reel
    → map read (take (i + 1) reels) ≡ map read (take i reels) ++ read reel ∷ []
read-next read reels i reel inside is = ap (map read) (take-next reels i reel inside is) ∙ map-append read (take i reels) (reel ∷ [])

pub pieces-next : (reels : List ReelView) (i : ℕ) (reel : ReelView) → i < length reels → reel ≡ get_or reels i reel
    → pieces_of_reels (take (i + 1) reels) ≡ pieces_of_reels (take i reels) + reel.remaining
pieces-next reels i reel inside is = ap pieces_of_reels (take-next reels i reel inside is) ∙ sum_by_push (λ (r : ReelView). r.remaining) (take i reels) reel

-- ---- one more sheet row

module _ (H : History) (boards : ℕ) (names : List Name) (sheet : List SheetRow) (i : ℕ) where
  pub kit-next : (row : SheetRow) (was now : List KitRow) (needed : ℕ) (reels : List ReelView) → i < length sheet → row ≡ get_or sheet i row
      → needed ≡ needed_by boards row → reels ≡ reels_for H boards names row → now ≡ was ++ rows_for row needed reels
      → now ++ kit_rows H boards (names ++ map (λ (r : ReelView). r.reel) reels) (drop (i + 1) sheet) ≡ was ++ kit_rows H boards names (drop i sheet)
  unfolding kit_rows
  kit-next row was now needed reels inside is pieces gets put =
      let rest : List ReelView → List KitRow = λ rs. kit_rows H boards (names ++ map (λ (r : ReelView). r.reel) rs) (drop (i + 1) sheet) in
      ap (λ l. l ++ rest reels) put
      ∙ ap (λ n. (was ++ rows_for row n reels) ++ rest reels) pieces
      ∙ ap (λ rs. (was ++ rows_for row (needed_by boards row) rs) ++ rest rs) gets
      ∙ append_assoc was (rows_for row (needed_by boards row) (reels_for H boards names row)) (rest (reels_for H boards names row))
      ∙ ap (λ l. was ++ kit_rows H boards names l) (sym (drop-next sheet i row inside is))

  pub kit-end : (kit all : List KitRow) → drop i sheet ≡ [] → kit ++ kit_rows H boards names (drop i sheet) ≡ all → kit ≡ all
  unfolding kit_rows
  kit-end kit all none is = sym (append-nil kit) ∙ ap (λ l. kit ++ kit_rows H boards names l) (sym none) ∙ is
