use Rattle.std.proofs.Common.{sym}
use Rattle.chain_files.proofs.ReadWords.{options-only}
use Rattle.chain_files.proofs.words.options_in.Goals as goal

pub returns-clause-only : goal.returns-clause-only
returns-clause-only c chosen rest behind has =
    let part = c.part_in-part.ensures in
    let flag = c.flag_in-with_pieces.ensures in
    let first = options-only _ _ _ _ _ part.words part.none flag.words flag.none chosen rest behind has in
    let links = c.links_in.ensures.only chosen.links rest behind (sym first.2) in
    (λ j. record { part = first.0 j; with_pieces = first.1 j; links = links.0 j }, links.1)
