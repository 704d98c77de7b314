use Rattle.std.proofs.Common.{◌≡◌, ◌∙◌, ◌++◌, [], subst}
use Rattle.desk_types.specs.declared.rules.Rules.TheVariants.{Two}
use Rattle.desk_types.specs.History.{basis}
use Rattle.trace_reports.specs.Csv.{HasWritten}
use Rattle.chain_check.specs.Rows.{asked_of, facts_of, rows_in, rows_text}
use Rattle.chain_files.proofs.chain.add_first.Goals as goal

pub returns-in-Ok-clause-ok : goal.returns-in-Ok-clause-ok
returns-in-Ok-clause-ok c H text says written =
    let question = c.args.question.now in
    let file : record { begun = 0; commands = c.from.result; minute = c.minute.result } ≡ facts_of (record { rules = Two; begun = []; whole = H }) = λ j. record { begun = 0; commands = (c.from.ensures ∙ says.count) j; minute = c.minute.ensures (basis Two H) says.whole j } in
    let pieces : c.as_slice.result.now ≡ asked_of question H = c.as_slice.ensures ∙ says.pieces in
    record {
      begun = [];
      adds = c.first.ensures H says.whole;
      is_begin = tt;
      written = subst (HasWritten c.write_rows.new.writer) (λ j. text ++ rows_text (rows_in question c.args.path.now (file j) (pieces j))) (c.in-Ok.ensures text written);
    }
