-- Searching a tape from one of its reels on.
use Rattle.desk_types.proofs.Common.{[], ◌++◌, ◌+◌, ◌<◌, ◌||◌, ◌∙◌, ◌∷◌, ◌≡◌, ◌≤◌, ap, append-nil}
use Rattle.desk_types.proofs.Common.{append_assoc, arith, Bool, drop, filter, History, left_of, length, List}
use Rattle.desk_types.proofs.Common.{list_any, live_on, lt-ltb, Name, nat_lt, same, slice_get, Some, sym}
use Rattle.desk_types.proofs.Common.{tape_of, ℕ}
use Rattle.judging.proofs.Reels.{drop-at, filter-end, filter-here, filter-past, spent}

-- Whether the reel is on the tape from this index on.
pub any-from : (reel : Name) (tape : List Name) (i : ℕ) (other : Name) (b : Bool) → slice_get tape i ≡ Some other → same reel other ≡ b
    → list_any (same reel) (drop i tape) ≡ (b || list_any (same reel) (drop (i + 1) tape))
any-from reel tape i other b at is = ap (list_any (same reel)) (drop-at tape i other at) ∙ ap (λ c. c || list_any (same reel) (drop (i + 1) tape)) is

abbrev pub has_pieces : History → Name → Bool
has_pieces H reel = nat_lt 0 (left_of H reel)

module _ (H : History) (machine slot : Name) (i : ℕ) where
  pub live-put : (reel : Name) (live : List Name) → slice_get (tape_of H machine slot) i ≡ Some reel → (left : ℕ) → left ≡ left_of H reel → 0 < left
      → live ++ filter (has_pieces H) (drop i (tape_of H machine slot)) ≡ filter (has_pieces H) (tape_of H machine slot)
      → (live ++ reel ∷ []) ++ filter (has_pieces H) (drop (i + 1) (tape_of H machine slot)) ≡ filter (has_pieces H) (tape_of H machine slot)
  live-put reel live at left is some so_far =
      append_assoc live (reel ∷ []) (filter (has_pieces H) (drop (i + 1) (tape_of H machine slot)))
      ∙ ap (λ rest. live ++ rest) (sym (filter-here (has_pieces H) (tape_of H machine slot) i reel at (lt-ltb 0 (left_of H reel) (omega (arith, is, some)))))
      ∙ so_far

  pub live-passed : (reel : Name) (live : List Name) → slice_get (tape_of H machine slot) i ≡ Some reel → (left : ℕ) → left ≡ left_of H reel → left ≤ 0
      → live ++ filter (has_pieces H) (drop i (tape_of H machine slot)) ≡ filter (has_pieces H) (tape_of H machine slot)
      → live ++ filter (has_pieces H) (drop (i + 1) (tape_of H machine slot)) ≡ filter (has_pieces H) (tape_of H machine slot)
  live-passed reel live at left is none so_far =
      ap (λ rest. live ++ rest) (filter-past (has_pieces H) (tape_of H machine slot) i reel at (spent (left_of H reel) left is none)) ∙ so_far

  pub live-all : (live : List Name) (n : ℕ) → n ≡ length (tape_of H machine slot) → n ≤ i
      → live ++ filter (has_pieces H) (drop i (tape_of H machine slot)) ≡ filter (has_pieces H) (tape_of H machine slot) → live ≡ live_on H machine slot
  unfolding live_on
  live-all live n is past so_far =
      sym (append-nil live)
      ∙ ap (λ rest. live ++ rest) (sym (filter-end (has_pieces H) (tape_of H machine slot) i (omega (arith, is, past))))
      ∙ so_far
