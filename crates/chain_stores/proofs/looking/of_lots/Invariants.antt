use Rattle.desk_types.proofs.Common.{◌≡◌, by_name, filter, flat_map, None, take}
use Rattle.std.specs.BTreeSet.{contains_by}
use Rattle.line_schema.specs.Frames.{ReadsStore}
use Rattle.line_schema.specs.Stands.{ForKept}
use Rattle.chain_check.specs.Rows.{pieces_of}
use Rattle.chain_check.specs.declared.question.Subject.TheVariants.{Lot}
use Rattle.chain_stores.proofs.looking.of_lots.Given as goal

abbrev pub invariant-loop-lot : goal.invariant-loop-lot
invariant-loop-lot g l = record {
  reads : ReadsStore g.S.Store g.D.Desk.Stands l.fn.store l.store;
  pieces : ForKept g.S.Store g.D.Desk.Stands l.fn.store l.store
      (λ L. l.kept.items ≡ flat_map (λ lot. filter (λ p. contains_by (by_name p.reel) l.reels)
      (pieces_of (Lot lot None) L.history)) (take l.lot-index l.lots));
}
