use Rattle.desk_types.proofs.Common.{[], arith, subst, sym}
use Rattle.desk_commands.proofs.EndsOfRuns.{print_follows, print_refused}
use Rattle.line_reads.specs.Ends.{IsBookBy}
use Rattle.line_reads.proofs.book.tell_rows.Goals as goal

pub returns-in-Ok : goal.returns-in-Ok
returns-in-Ok g c = record {
  ends = (
    c.as_slice.result.now,
    print_follows c.tell_csv.ensures.ends (λ none. absurd none),
    λ _. subst (IsBookBy c.args.line.now) (sym c.as_slice.ensures) c.in-Ok.ensures,
  );
}

pub returns-in-Err : goal.returns-in-Err
returns-in-Err g c =
    let is = c.unavailable.ensures.status in
    record { ends = ([], print_refused is c.unavailable.ensures.told, λ at. absurd (omega (arith, is, at))) }
