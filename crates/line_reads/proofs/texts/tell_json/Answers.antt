use Rattle.desk_types.proofs.Common.{◌≡◌, ◌≢◌, inl, inr, refl, rules}
use Rattle.http_stream.specs.Answers.{code_of}
use Rattle.line_reads.specs.Ends.{json_told}
use Rattle.line_reads.proofs.texts.tell_json.Goals as goal

pub returns-in-Ok : goal.returns-in-Ok
returns-in-Ok g c =
    let well : code_of c.args.status ≡ 200 = search rules in record {
      ends = record {
        status = inl refl;
        done = λ is. (json_told c.args.status c.args.text.now, well, c.in-Ok.ensures.ok, refl);
        refused = search rules;
        no_desk = search rules;
        untouched = search rules;
        failed = search rules;
        well = search rules;
      };
    }

pub returns-in-Ok-2 : goal.returns-in-Ok-2
returns-in-Ok-2 g c =
    let ill : code_of c.args.status ≢ 200 = search rules in record {
      ends = record {
        status = inr (inl refl);
        done = search rules;
        refused = λ is. (json_told c.args.status c.args.text.now, ill, c.in-Ok-2.ensures.ok, refl);
        no_desk = search rules;
        untouched = search rules;
        failed = search rules;
        well = search rules;
      };
    }

pub returns-in-Err : goal.returns-in-Err
returns-in-Err g c = record {
  ends = record {
    status = inr (inr (inr refl));
    done = search rules;
    refused = search rules;
    no_desk = search rules;
    untouched = search rules;
    failed = λ is. (
      (c.in-Err.ensures.failed, c.tell_line.ensures),
      json_told c.args.status c.args.text.now,
      c.in-Err.ensures.front,
      refl,
    );
    well = search rules;
  };
}
