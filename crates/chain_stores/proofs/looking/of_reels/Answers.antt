use Rattle.desk_types.proofs.Common.{◌∙◌, ap, Bool, filter, flat_map, List, Name, None, set_of}
use Rattle.desk_laws.proofs.Common.{Placement}
use Rattle.chain_check.specs.Rows.{is_of, pieces_of}
use Rattle.chain_check.specs.declared.question.Subject.TheVariants.{Lot, Reels}
use Rattle.chain_stores.proofs.AskedPieces.{reels-test}
use Rattle.chain_stores.proofs.looking.of_reels.Goals as goal

pub returns-clause-pieces : goal.returns-clause-pieces
returns-clause-pieces g c L stands clean own =
    let reels = c.args.reels.now in
    let of : (Placement → Bool) → Name → List Placement =
    λ test lot. filter test (pieces_of (Lot lot None) L.history) in
    let received = c.as_slice.ensures.value ∙ c.in_ok-received.ensures L stands in
    let lots = c.as_slice-2.ensures ∙ c.in_ok-lots.ensures ∙ ap set_of received in
    let same-test = reels-test c.in_ok-found.found.keys reels c.in_ok-found.ensures in
    c.in_ok-pieces.ensures.pieces L stands clean own
    ∙ ap (λ (test : Placement → Bool). flat_map (of test) c.as_slice-2.result.now) (λ j p. same-test p j)
    ∙ ap (flat_map (of (is_of (Reels reels)))) lots
