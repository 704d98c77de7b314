use Rattle.desk_types.proofs.Common.{get_or, List, map, Some, subst, sym, take_all}
use Rattle.line_tables.proofs.Common.{Has, rows_in}
use Rattle.line_traces.proofs.LookedPieces.{all-got, one-added}
use Rattle.line_traces.specs.{Pieces.piece_at, Working.AddsPieces}
use Rattle.state_rows.specs.{Lists.key_of, declared.lists.PieceKey.PieceKey}
use Rattle.std.proofs.lemmas.List.{get_or_default}
use Rattle.line_tables.specs.Line as line
use Rattle.line_traces.proofs.looked.add_rows.Goals as goal

pub loop-at-preserved : goal.loop-at-preserved
loop-at-preserved g c db H both are =
    let keys = c.args.keys.now in
    let i = c.loop-at.at in
    let none : PieceKey = record { number = 0; place = 0 } in
    let key = get_or keys i none in
    let within = c.loop-at-test.true in
    let got = c.in-Some.ensures.lookup in
    let there = Has (rows_in line.placement db) in
    let here = subst there (sym got.1) (all-got there c.args.rows.now i c.in-Some.row.now are got.3.0) in
    one-added (piece_at H) (map Some c.args.pieces.now.items) c.loop-at.pieces.items c.push.new.self.items keys i key c.in-Some-2.piece within (get_or_default keys i none key within)
    c.in_ok-push.ensures.items ((rw c.in-Some-2.is at c.in_ok-piece.ensures) db H both here) (c.loop-at.invariant db H both are)

pub returns : goal.returns
returns g c all db H both are =
    let keys = c.args.keys.now in
    subst (λ (ks : List PieceKey). AddsPieces H (map key_of ks) c.args.pieces.now.items c.loop-at.pieces.items) (take_all c.loop-at.at keys c.loop-at-test.false) (c.loop-at.invariant db H both are)
