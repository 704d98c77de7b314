use Rattle.desk_types.proofs.Common.{◌≡◌, ◌≢◌, inl, inr, refl, rules}
use Rattle.desk_commands.proofs.Questions.{answers_report}
use Rattle.http_stream.specs.Answers.{code_of, response_told}
use Rattle.desk_commands.proofs.port.tell_report.Goals as goal

pub returns-in-Ok-clause-ends : goal.returns-in-Ok-clause-ends
returns-in-Ok-clause-ends g c =
    let asked = c.ask-response in
    let well : code_of asked.result.status ≡ 200 = search rules in
    let list = answers_report g.L.Owner.Stands g.L.Owner.Trusts g.L.ReportedOwner.reports c.args.owner.now asked.new.owner c.args.target.now c.as_bytes.result.now (response_told asked.result) c.as_bytes.ensures.value asked.ensures.told asked.ensures.stands in record {
      status = inl refl;
      done = λ is. (response_told asked.result, well, c.in-Ok.ensures.ok, list);
      refused = search rules;
      no_desk = search rules;
      untouched = search rules;
      failed = search rules;
      well = search rules;
    }

pub returns-in-Ok-2-clause-ends : goal.returns-in-Ok-2-clause-ends
returns-in-Ok-2-clause-ends g c =
    let asked = c.ask-response in
    let ill : code_of asked.result.status ≢ 200 = search rules in
    let list = answers_report g.L.Owner.Stands g.L.Owner.Trusts g.L.ReportedOwner.reports c.args.owner.now asked.new.owner c.args.target.now c.as_bytes.result.now (response_told asked.result) c.as_bytes.ensures.value asked.ensures.told asked.ensures.stands in record {
      status = inr (inl refl);
      done = search rules;
      refused = λ is. (response_told asked.result, ill, c.in-Ok-2.ensures.ok, list);
      no_desk = search rules;
      untouched = search rules;
      failed = search rules;
      well = search rules;
    }

pub returns-clause-ends : goal.returns-clause-ends
returns-clause-ends g c =
    let asked = c.ask-response in
    let list = answers_report g.L.Owner.Stands g.L.Owner.Trusts g.L.ReportedOwner.reports c.args.owner.now asked.new.owner c.args.target.now c.as_bytes.result.now (response_told asked.result) c.as_bytes.ensures.value asked.ensures.told asked.ensures.stands in record {
      status = inr (inr (inr refl));
      done = search rules;
      refused = search rules;
      no_desk = search rules;
      untouched = search rules;
      failed = λ is. ((c.in-Err.ensures.failed, c.tell_line.ensures), response_told asked.result, c.in-Err.ensures.front, list);
      well = search rules;
    }
