use Rattle.desk_types.proofs.Common.{◌∙◌, ◌≡◌, length, refl, rules}
use Rattle.line_tables.proofs.Finds.{seven}
use Rattle.line_tables.proofs.reading.accepted_of.Goals as goal

pub returns-clause-ok : goal.returns-clause-ok
returns-clause-ok c =
    let all : length c.args.row.now ≡ 7 = search rules in
    seven c.args.row.now all
    ∙ rw (c.in_ok-get.ensures.ok.1, c.in_ok-get-2.ensures.ok.1, c.in_ok-get-3.ensures.ok.1, c.in_ok-get-4.ensures.ok.1, c.in_ok-get-5.ensures.ok.1, c.in_ok-get-6.ensures.ok.1, c.in_ok-get-7.ensures.ok.1) refl
