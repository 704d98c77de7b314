use Rattle.desk_types.proofs.Common.{[], ◌++◌, ◌∙◌, ap, arith, by_name, filter, flat_map, List, Name, None, refl, sym, take, take-next, take_all}
use Rattle.std.specs.BTreeSet.{contains_by}
use Rattle.std.proofs.lemmas.List.{flat_map_more}
use Rattle.sqlite.specs.State.{HasCleanDisk}
use Rattle.desk_laws.proofs.Common.{Placement}
use Rattle.line_schema.specs.Stands.{conn_of, state_of}
use Rattle.line_tables.proofs.Frames.{reads_same, reads_then}
use Rattle.chain_check.specs.Rows.{pieces_of}
use Rattle.chain_check.specs.declared.question.Subject.TheVariants.{Lot}
use Rattle.chain_stores.proofs.AskedPieces.{lot-pieces}
use Rattle.chain_stores.proofs.looking.of_lots.Goals as goal

pub loop-lot-init : goal.loop-lot-init
loop-lot-init g c = record {
  reads = record {
    stands = λ L stands. stands;
    working = refl;
    reads = reads_same g.S.Store
        (conn_of c.args.store.now);
  };
  pieces = λ L stands clean own. c.new-kept.ensures.items;
}

pub loop-lot-preserved : goal.loop-lot-preserved
loop-lot-preserved g c =
    let was = c.loop-lot.invariant in
    let it = c.in_ok-pieces.ensures in
    let test : Placement → _ = λ p. contains_by (by_name p.reel) c.args.reels.now in
    let lots = c.args.lots.now in
    let i = c.loop-lot.lot-index in
    let lot = c.lot-item.result in
    let mid = c.loop-lot.store in
    let new = c.of_lot.new.store in
    let early : HasCleanDisk (state_of g.S.Store new)
    → HasCleanDisk (state_of g.S.Store mid) = λ clean. omega (arith, it.reads.reads.survives.clean, clean) in
    record {
      reads = record {
        stands = λ L stands. it.reads.stands L (was.reads.stands L stands);
        working = it.reads.working ∙ was.reads.working;
        reads = reads_then g.S.Store (conn_of c.args.store.now) (conn_of mid)
            (conn_of new) was.reads.reads it.reads.reads;
      };
      pieces = λ L stands clean own.
          let here = was.reads.stands L stands in
          let of : Name → List Placement = λ lot. filter test (pieces_of (Lot lot None) L.history) in
          let found = c.as_slice.ensures ∙ it.pieces L here clean own ∙ lot-pieces L.history lot here.judged in
          c.in_ok-add_pieces.ensures
          ∙ (λ j. was.pieces L stands (early clean) own j ++ filter test (found j))
          ∙ flat_map_more of [] (take i lots) lot
          ∙ ap (flat_map of) (sym (take-next lots i lot c.loop-lot-test.true c.lot-item.is));
    }

pub returns-clause-pieces : goal.returns-clause-pieces
returns-clause-pieces g c L stands clean own =
    c.new.ensures
    ∙ c.loop-lot.invariant.pieces L stands clean own
    ∙ ap (flat_map (λ lot. filter (λ p. contains_by (by_name p.reel) c.args.reels.now)
    (pieces_of (Lot lot None) L.history))) (take_all c.loop-lot.lot-index c.args.lots.now c.loop-lot-test.false)
