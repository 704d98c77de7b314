use Rattle.std.proofs.Common.{◌≡◌, ◌∙◌, ◌++◌, subst}
use Rattle.desk_types.specs.History.{basis}
use Rattle.desk_types.specs.declared.rules.Rules.TheVariants.{Two}
use Rattle.trace_reports.specs.Csv.{HasWritten}
use Rattle.chain_check.specs.Rows.{asked_of, facts_of, rows_in, rows_text}
use Rattle.chain_files.specs.Marks.{IsWanted}
use Rattle.chain_files.proofs.OneFileMore.{behind, stops-next}
use Rattle.chain_files.proofs.chain.add_next.Goals as goal

pub returns-in-Ok-next-clause-ok : goal.returns-in-Ok-next-clause-ok
returns-in-Ok-next-clause-ok c files H text is says written =
    let question = c.args.question.now in
    let file : record { begun = c.from.result; commands = c.from-2.result; minute = c.minute.result } ≡ facts_of (record { rules = Two; begun = says.first; whole = H }) = λ j. record { begun = (c.from.ensures ∙ says.begun_with) j; commands = (c.from-2.ensures ∙ says.count) j; minute = c.minute.ensures (basis Two H) says.whole j } in
    let pieces : c.as_slice.result.now ≡ asked_of question H = c.as_slice.ensures ∙ says.pieces in
    record {
      begun = says.first;
      adds = c.in-Ok-next.ensures.ok files says.first H is says.begun.state says.whole says.prefix;
      is_begin = behind files H says.first says.is_begin;
      written = subst (HasWritten c.write_rows.new.writer) (λ j. text ++ rows_text (rows_in question c.args.path.now (file j) (pieces j))) (c.in-Ok.ensures text written);
    }

pub returns-clause-err : goal.returns-clause-err
returns-clause-err c wanted files H is says = stops-next (IsWanted wanted) c.args.chain files H says.first c.in-Err.difference is says.prefix says.is_begin (λ G stands. c.in-Err.ensures.err G says.first stands says.begun.state)
