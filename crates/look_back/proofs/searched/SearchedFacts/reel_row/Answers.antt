use Rattle.desk_types.proofs.Common.{◌≡◌, reel_row, rules}
use Rattle.desk_laws.proofs.RowsOfReels.{row-told}
use Rattle.look_back.proofs.searched.SearchedFacts.reel_row.Goals as goal

pub returns : goal.returns
returns c = λ H stands.
    let name = c.args.reel.now in
    let is : c.reel_row.result ≡ reel_row H name = search rules in
    row-told H name c.reel_row.result stands.1 is
