-- Whether the placements are the expected ones.
use Rattle.desk_types.proofs.Common.{[], ◌&&◌, ◌==◌, ◌∙◌, ◌∷◌, ◌≡◌, and_parts, ap, ap₂, Bool, eq-eqb}
use Rattle.desk_types.proofs.Common.{eqb-true, false, length, Option, refl, subst, sym, true, ℕ}
use Rattle.line_tables.proofs.Common.{Database, has_piece, IsOurs, KeepsCommit, placement_columns, Reads}
use Rattle.line_tables.proofs.Common.{rows_in, State}
use Rattle.desk_types.specs.declared.row.PlacementRow.{PlacementRow}
use Rattle.line_replay.proofs.{Members.alone_by_count, Members.AreTrue, SameRows.same_rows}
use Rattle.line_replay.specs.{Alone.AreAlone, Alone.Decides, Audit.AreByPiece, Audit.ArePlaced}
use Rattle.line_replay.specs.{Audit.HasPlacements, Audit.IsExpected, Audit.Pieces, Placed.HasBefore}
use Rattle.line_replay.specs.{declared.auditing.Placed.Placed}
use Rattle.line_tables.proofs.Keyed.{one_piece, own_piece as piece_true}
use Rattle.line_tables.specs.Line as line

pieces_true : (es : Pieces) → AreByPiece es → AreTrue has_piece (λ _ row. placement_columns row) one_piece es
pieces_true [] h = tt
pieces_true (e ∷ es) h = (ap (λ (k : ℕ × ℕ). has_piece k (placement_columns e.1)) h.0 ∙ piece_true e.1, pieces_true es h.1)

pub same_placements : (old : State) (placed : Placed) (n : ℕ) (es : Pieces) (f : ℕ × ℕ → Option PlacementRow) → IsExpected old placed es f → Reads old (λ db. HasBefore placed.end placed.count db → n ≡ length (rows_in line.placement db))
    → Decides (λ db. HasPlacements db f) old (placed.all && (n == placed.count))
same_placements old looked n es f expected counted = record {
  was_open = counted.was_open;
  are = λ schema.
      let rows = rows_in line.placement old.committed in
      let placed = expected.placed counted.was_open schema in
      let number = counted.are schema (expected.before counted.was_open schema) in
      let same = same_rows has_piece (λ _ row. placement_columns row) one_piece f es rows expected.listed in (
        λ is.
            let p = and_parts looked.all (n == looked.count) is in
            let as_many : length es ≡ length rows = expected.counted ∙ sym (eqb-true n looked.count p.1) ∙ number in
            same.0 (alone_by_count has_piece (λ _ row. placement_columns row) one_piece es expected.listed.distinct (pieces_true es expected.pieces) rows (placed.here p.0) as_many, as_many),
        λ are.
            let alone = same.1 are in
            ap₂ (λ a b. a && b) (found looked.all refl placed alone.0) (eq-eqb n looked.count (number ∙ sym alone.1 ∙ expected.counted)),
      );
}
  where
    found : (b : Bool) → looked.all ≡ b → ArePlaced old.committed looked.all es → AreAlone has_piece (λ _ row. placement_columns row) (rows_in line.placement old.committed) es → looked.all ≡ true
    found true is placed alone = is
    found false is placed alone = absurd (placed.missing is alone)

pub expected_after : (old mid : State) → KeepsCommit old mid → (looked : Placed) (es : Pieces) (f : ℕ × ℕ → Option PlacementRow) → IsExpected old looked es f → IsExpected mid looked es f
expected_after old mid kept looked es f e = record {
  listed = e.listed;
  pieces = e.pieces;
  counted = e.counted;
  placed = λ open_mid schema.
      let same = kept.committed open_mid in
      subst (λ (db : Database). ArePlaced db looked.all es) (sym same) (e.placed (kept.was_open open_mid) (subst (λ (db : Database). IsOurs db.schema) same schema));
  before = λ open_mid schema.
      let same = kept.committed open_mid in
      subst (HasBefore looked.end looked.count) (sym same) (e.before (kept.was_open open_mid) (subst (λ (db : Database). IsOurs db.schema) same schema));
}
