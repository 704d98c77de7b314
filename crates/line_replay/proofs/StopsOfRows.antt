-- The place where the rows stop being a history.
use Rattle.desk_types.proofs.Common.{[], ◌+◌, ◌<◌, ◌∙◌, ◌∷◌, ◌≡◌, ◌≤◌, ◌⊎◌, ap, arith, filter, History, inl}
use Rattle.desk_types.proofs.Common.{inr, IsJudged, length, length-map, length_permutation, List, pos, refl}
use Rattle.desk_types.proofs.Common.{Some, sym, ℕ, ℤ}
use Rattle.line_tables.proofs.Common.{column, has_number, IsLeast, Row, Rules}
use Rattle.desk_types.specs.declared.command.Entry.{Entry}
use Rattle.line_replay.proofs.RowsOfLists.{lawful_at, more_rows, no_fewer, one_least}
use Rattle.line_replay.specs.Listed.{AreAt, BeginWith, StopsAt}
use Rattle.line_replay.specs.Replay.{IsNumbered, IsStuck}

some_least : (rows : List Row) (n : ℤ) → IsLeast rows (Some n) → 0 < length rows
some_least rows n h = omega (arith, length_permutation _ _ h.1, length-map rows (λ row. column row 0))

pub stops_first : (rules : Rules) (greatest : ℕ) (rows : List Row) (n : ℤ) → IsLeast rows (Some n) → (n ≡ pos 1 → ⊥) → StopsAt rules greatest rows 1
stops_first rules greatest rows n least other = record {
  list = [];
  lawful = lawful_at rules greatest rows [] tt tt (omega arith);
  begin = record { least = λ some. absurd (omega (arith, some)); entries = tt };
  place = refl;
  more = some_least rows n least;
  stops = λ e lawful begin. other (one_least rows n (pos 1) least (begin.least (omega arith)));
}

begin_with : (rows : List Row) (H : History) → IsNumbered rows → AreAt rows H → BeginWith rows H
begin_with rows H (inr least) at = record { least = λ _. least; entries = at }
begin_with rows H (inl none) at = record { least = λ some. absurd (nothing_at H at some); entries = at }
  where
    nothing_at : (H : History) → AreAt rows H → 1 ≤ length H → ⊥
    nothing_at [] at some = omega (arith, some)
    nothing_at (e ∷ H) at some = let found = sym (ap (filter (has_number (length H + 1))) none) ∙ at.0.row in cc

pub stops_stuck : (rules : Rules) (greatest : ℕ) (rows : List Row) (H : History) → IsNumbered rows → IsJudged rules H → AreAt rows H → length H + 1 ≤ greatest → IsStuck rules H rows → StopsAt rules greatest rows (length H + 1)
stops_stuck rules greatest rows H numbered judged at low stuck = record {
  list = H;
  lawful = lawful_at rules greatest rows H judged at (omega (arith, low));
  begin = begin_with rows H numbered at;
  place = refl;
  more = more_rows rules rows H stuck.row judged at stuck.there;
  stops = λ e lawful begin. stuck.stuck e lawful.judged.0 begin.entries.0;
}

pub stops_short : (rules : Rules) (greatest : ℕ) (rows : List Row) (H : History) → IsNumbered rows → IsJudged rules H → AreAt rows H → length H ≤ greatest
    → (length H ≡ greatest) ⊎ (filter (has_number (length H + 1)) rows ≡ []) → (length H ≡ length rows → ⊥) → StopsAt rules greatest rows (length H + 1)
stops_short rules greatest rows H numbered judged at low end other = record {
  list = H;
  lawful = lawful_at rules greatest rows H judged at low;
  begin = begin_with rows H numbered at;
  place = refl;
  more = fewer (no_fewer rules rows H judged at);
  stops = λ e lawful begin. no_next e lawful.numbers begin.entries.0.row end;
}
  where
    fewer : length H ≤ length rows → length H < length rows
    fewer h = omega (arith, h, other)

    no_next : (e : Entry) {row : Row} → length (e ∷ H) ≤ greatest → filter (has_number (length H + 1)) rows ≡ row ∷ [] → (length H ≡ greatest) ⊎ (filter (has_number (length H + 1)) rows ≡ []) → ⊥
    no_next e fits found (inl full) = omega (arith, fits, full)
    no_next e fits found (inr none) = let both = sym none ∙ found in cc
