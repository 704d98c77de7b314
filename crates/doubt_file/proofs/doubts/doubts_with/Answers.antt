use Rattle.desk_types.proofs.Common.{◌∙◌, ◌≡◌, ap, arith, subst, sym}
use Rattle.desk_types.specs.Placements.{placements_of}
use Rattle.line_tables.proofs.Common.{HasCleanDisk}
use Rattle.line_book.specs.Restored.{history_of}
use Rattle.line_doubt.specs.Reasons.{AreExplained}
use Rattle.line_schema.specs.Stands.{state_of}
use Rattle.doubt_file.proofs.doubts.doubts_with.Goals as goal

pub returns-in-Ok-doubtful-clause-doubts : goal.returns-in-Ok-doubtful-clause-doubts
returns-in-Ok-doubtful-clause-doubts g c L stands clean own =
    let early : HasCleanDisk (state_of g.S.Store c.commands_of.new.store) = omega
    (arith, c.placed_rows.ensures.reads.reads.survives.clean, clean) in
    let here = c.commands_of.ensures.reads.stands L stands in
    let told : history_of c.deref.result.now ≡ L.history = ap history_of c.deref.ensures.value
    ∙ c.in_ok-commands.ensures.commands L stands early own in
    let pieces : c.as_slice-pieces.result.now ≡ placements_of L.history = c.as_slice-pieces.ensures
    ∙ c.in-Ok.ensures.rows L here clean own in
    subst (λ H. AreExplained H c.args.book.now c.args.within c.in-Ok-doubtful.found.items) told
    (c.in-Ok-doubtful.ensures (pieces ∙ ap placements_of (sym told)))
