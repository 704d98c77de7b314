use Rattle.desk_types.proofs.Common.{◌≡◌, inl, inr, length, map, rules}
use Rattle.line_tables.proofs.Common.{Database, state}
use Rattle.line_replay.proofs.{ExpectedRows.too_false, ExpectedRows.too_found, ExpectedRows.too_none}
use Rattle.line_replay.proofs.{ReadOfCommitted.reads_as}
use Rattle.line_replay.specs.{Audit.ArePlaced, Audit.piece_of, Expected.ArePlacedToo, Placed.HasMoreBefore}
use Rattle.line_replay.proofs.placed.are_found.Goals as goal

pub returns-then-not-before-clause-told : goal.returns-then-not-before-clause-told
returns-then-not-before-clause-told g c clean = inl (λ db. too_false db c.args.before c.args.rows.now c.if-not-before.true)

pub returns-then-is_empty-clause-told : goal.returns-then-is_empty-clause-told
returns-then-is_empty-clause-told g c clean =
    let empty : length c.args.rows.now ≡ 0 = search rules in
    inl (λ db. too_none db c.args.before c.args.rows.now c.if-not-before.false empty)

pub returns-clause-told : goal.returns-clause-told
returns-clause-told g c clean =
    let r = c.in_ok-has_placements.field-0 in
    inr (reads_as (state g.S.Store c.args.conn.now) (λ (db : Database). ArePlaced db r.all (map piece_of c.args.rows.now) × HasMoreBefore c.args.before.end r.end (length c.args.rows.now) db) (λ (db : Database). ArePlacedToo db c.args.before r.all r.end c.args.rows.now)
    (λ db placed. too_found db c.args.before r.all r.end c.args.rows.now c.if-not-before.false placed) (c.in_ok-has_placements.ensures.found clean))
