use Rattle.desk_types.proofs.Common.{[], ◌++◌, ◌∙◌, ◌∷◌, ◌≡◌, ◌≢◌, ap, arith, Err, false, length, map, nat_le}
use Rattle.desk_types.proofs.Common.{nat_tests, Ok, refl, rules, true}
use Rattle.cfx_profile.proofs.Faults.{IsSaid-fault}
use Rattle.csv.specs.Records.{fields_of}
use Rattle.imports.proofs.EachRow.{each-fault, each-more}
use Rattle.imports.specs.File.{each, row_at}
use Rattle.imports.specs.declared.fault.ImportFault.TheVariants.{NoMemory, OverLimit}
use Rattle.imports.specs.declared.rows.TheConstants.{FIRST_ROW, LAST_ROW}
use Rattle.std.proofs.lemmas.List.{length_push}
use Rattle.imports.proofs.rows.each.Goals as goal

pub loop-record-preserved : goal.loop-record-preserved
loop-record-preserved g c =
    let i = c.loop-record.record-index in
    let before = c.loop-record.invariant in
    let early : nat_le c.loop-record.line LAST_ROW ≡ true = grind (arith, nat_tests) in
    let read : row_at g.T.Row.said c.loop-record.line (fields_of c.record-item.result) ≡ Ok c.in_ok-row.row = rw early (search rules) in
    let pushed : c.put.new.rows.items ≡ c.loop-record.rows.items ++ c.in_ok-row.row ∷ [] = c.in_ok-put.ensures in
    let count = ap length pushed ∙ length_push c.loop-record.rows.items c.in_ok-row.row in
    record {
      said = rw pushed (each-more fields_of g.T.Row.said FIRST_ROW c.args.records.now i c.record-item.result _ _ c.loop-record-test.true c.record-item.is before.said (rw (before.line) at read));
      line = omega (arith, before.line);
      count = omega (arith, count, before.count);
      bound = omega (arith, count, before.count, before.line, c.if-line-gt-LAST_ROW.false);
    }

pub returns-then-line-gt-LAST_ROW-clause-said : goal.returns-then-line-gt-LAST_ROW-clause-said
returns-then-line-gt-LAST_ROW-clause-said g c =
    let before = c.loop-record.invariant in
    let late : nat_le c.loop-record.line LAST_ROW ≡ false = grind (arith, nat_tests) in
    let read : row_at g.T.Row.said c.loop-record.line (fields_of c.record-item.result) ≡ Err OverLimit = rw late refl in
    λ _. each-fault fields_of g.T.Row.said FIRST_ROW c.args.records.now c.loop-record.record-index c.record-item.result _ _ c.loop-record-test.true c.record-item.is before.said (rw (before.line) at read)

pub returns-in_err-row-clause-said : goal.returns-in_err-row-clause-said
returns-in_err-row-clause-said g c =
    let before = c.loop-record.invariant in
    let fault = c.in_err-row.field-0.0 in
    let early : nat_le c.loop-record.line LAST_ROW ≡ true = grind (arith, nat_tests) in
    let read : fault ≢ NoMemory → row_at g.T.Row.said c.loop-record.line (fields_of c.record-item.result) ≡ Err fault = λ other. rw early (c.in_err-row.ensures other) in
    let whole : fault ≢ NoMemory → each g.T.Row.said FIRST_ROW (map fields_of c.args.records.now) ≡ Err fault =
    λ other. each-fault fields_of g.T.Row.said FIRST_ROW c.args.records.now c.loop-record.record-index c.record-item.result _ _ c.loop-record-test.true c.record-item.is before.said (rw (before.line) at (read other)) in
    IsSaid-fault _ _ fault whole c.from_residual.ensures.1
