use Rattle.desk_types.proofs.Common.{◌∙◌, ◌≡◌, length, refl, rules}
use Rattle.line_traces.proofs.Columns.{all-columns}
use Rattle.line_traces.proofs.decode.placement.Goals as goal

pub returns-clause-ok : goal.returns-clause-ok
returns-clause-ok c =
    let all : length c.args.row.now ≡ 8 = search rules in
    all-columns c.args.row.now 8 all
    ∙ rw (c.in_ok-get.ensures.ok.1, c.in_ok-get-2.ensures.ok.1, c.in_ok-name.ensures.ok, c.in_ok-designator.ensures.ok, c.in_ok-name-2.ensures.ok, c.in_ok-name-3.ensures.ok, c.in_ok-name-4.ensures.ok, c.in_ok-yes_or_no.ensures.ok) refl
