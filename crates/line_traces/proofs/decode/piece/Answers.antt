use Rattle.desk_types.proofs.Common.{◌∙◌, ◌≡◌, ◌≢◌, length, refl, rules}
use Rattle.desk_laws.proofs.Common.{Placement}
use Rattle.line_tables.specs.Faults.{OnlyWhere}
use Rattle.line_traces.proofs.Columns.{all-columns, no_flag}
use Rattle.line_traces.specs.Committed.{IsPiece, placed_columns}
use Rattle.line_traces.proofs.decode.piece.Goals as goal

pub returns-clause-ok : goal.returns-clause-ok
returns-clause-ok c =
    let all : length c.args.row.now ≡ 11 = search rules in
    all-columns c.args.row.now 11 all
    ∙ rw (c.in_ok-get.ensures.ok.1, c.in_ok-get-2.ensures.ok.1, c.in_ok-name.ensures.ok, c.in_ok-designator.ensures.ok, c.in_ok-name-2.ensures.ok, c.in_ok-name-3.ensures.ok, c.in_ok-name-4.ensures.ok, c.in_ok-name-5.ensures.ok, c.in_ok-name-6.ensures.ok, c.in_ok-minute.ensures.ok, c.in_ok-yes_or_no.ensures.ok) refl

pub returns-in_err-yes_or_no-clause-err : goal.returns-in_err-yes_or_no-clause-err
returns-in_err-yes_or_no-clause-err c =
    let none : OnlyWhere ((p : Placement) → IsPiece p → c.args.row.now ≢ placed_columns p) c.in_err-yes_or_no.field-0.0 = λ other p _. no_flag c.args.row.now (c.in_err-yes_or_no.ensures.err other) p in
    search (none, rules)
