use Rattle.desk_types.proofs.Common.{inl, inr, refl, rules}
use Rattle.line_reads.proofs.texts.tell_csv.Goals as goal

pub returns-in-Ok : goal.returns-in-Ok
returns-in-Ok g c = record {
  ends = record {
    status = inl refl;
    done = λ _. c.in-Ok.ensures.ok;
    no_desk = search rules;
    untouched = search rules;
    failed = search rules;
    front = search rules;
    well = search rules;
  };
}

pub returns-in-Err : goal.returns-in-Err
returns-in-Err g c = record {
  ends = record {
    status = inr (inr refl);
    done = search rules;
    no_desk = search rules;
    untouched = search rules;
    failed = λ _. (c.in-Err.ensures.failed, c.tell_line.ensures);
    front = λ _. c.in-Err.ensures.front;
    well = search rules;
  };
}
