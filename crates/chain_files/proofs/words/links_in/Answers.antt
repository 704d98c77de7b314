use Rattle.chain_files.proofs.ReadWords.{links-only}
use Rattle.chain_files.proofs.words.links_in.Goals as goal

pub returns-clause-only : goal.returns-clause-only
returns-clause-only c =
    let middle = c.flag_in-from_middle.ensures in
    let marks = c.flag_in-without_marks.ensures in
    links-only _ _ _ _ _ middle.words middle.none marks.words marks.none
