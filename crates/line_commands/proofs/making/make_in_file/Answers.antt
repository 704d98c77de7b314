use Rattle.desk_types.proofs.Common.{arith, inl, inr, refl}
use Rattle.desk_commands.proofs.EndsOfRuns.{print_follows, print_refused}
use Rattle.line_commands.proofs.making.make_in_file.Goals as goal

pub returns-in-Ok : goal.returns-in-Ok
returns-in-Ok g c =
    let told = c.tell_lists-status.ensures.ends in record {
      ends = (
        told.0,
        told.1,
        print_follows told.2
            (λ none. inr ((c.in-Ok.store, c.in-Ok.ensures.opened, λ line stands clean. (line, stands, refl)), none)),
        λ ended. (
          c.in-Ok.store,
          c.in-Ok.ensures.opened,
          λ line stands clean. let both = told.3 ended line stands in (line, stands, (refl, both.0, both.1)),
        ),
      );
    }

pub returns-in-Err : goal.returns-in-Err
returns-in-Err g c =
    let is = c.tell_fault.ensures.status in record {
      ends = (
        0,
        0,
        print_refused is (inl (c.in-Err.fault, c.in-Err.ensures.refused, c.tell_fault.ensures.told)),
        λ at. absurd (omega (arith, is, at)),
      );
    }
