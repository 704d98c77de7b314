use Rattle.desk_types.proofs.Common.{◌++◌, OnOk, subst, sym}
use Rattle.chain_check.specs.{Rows.header_of, declared.question.Question.Question}
use Rattle.trace_reports.specs.Csv.{HasWritten, record_text}
use Rattle.chain_check.proofs.rows.write_header.Goals as goal

pub returns-in-Chain : goal.returns-in-Chain
returns-in-Chain c text written =
    subst (λ (q : Question). OnOk c.write_fields.result (HasWritten c.write_fields.new.writer (text ++ record_text (header_of q)))) (sym c.in-Chain.is) (c.write_fields.ensures text written)

pub returns-in-Pieces : goal.returns-in-Pieces
returns-in-Pieces c text written =
    subst (λ (q : Question). OnOk c.write_fields-in-Pieces.result (HasWritten c.write_fields-in-Pieces.new.writer (text ++ record_text (header_of q)))) (sym c.in-Pieces.is) (c.write_fields-in-Pieces.ensures text written)
