use Rattle.desk_types.proofs.Common.{◌∙◌, ap, filter, Name, None, Option, placements_of, same, sym}
use Rattle.chain_check.specs.Rows.{is_of, pieces_of}
use Rattle.chain_check.specs.declared.question.Subject.TheVariants.{Lot}
use Rattle.chain_stores.proofs.AskedPieces.{kept-twice, lot-pieces}
use Rattle.chain_stores.proofs.looking.of_part.Goals as goal

pub returns-in-None-clause-pieces : goal.returns-in-None-clause-pieces
returns-in-None-clause-pieces g c L stands clean own =
    c.in_ok-pieces.ensures.pieces L stands clean own ∙ lot-pieces L.history c.args.lot.now stands.judged
    ∙ ap (λ (part : Option Name). pieces_of (Lot c.args.lot.now part) L.history) (sym c.in-None.is)

pub returns-in_ok-kept-in-Some-clause-pieces : goal.returns-in_ok-kept-in-Some-clause-pieces
returns-in_ok-kept-in-Some-clause-pieces g c L stands clean own =
    let lot = c.args.lot.now in
    let part = c.in-Some.part in
    c.in_ok-kept-in-Some.ensures
    ∙ ap (filter (λ p. same p.part part))
    (c.as_slice.ensures ∙ c.in_ok-pieces.ensures.pieces L stands clean own ∙ lot-pieces L.history lot stands.judged)
    ∙ kept-twice (is_of (Lot lot None)) (λ p. same p.part part) (placements_of L.history)
    ∙ ap (λ (part : Option Name). pieces_of (Lot lot part) L.history) (sym c.in-Some.is)
