use Rattle.desk_types.proofs.Common.{◌++◌, ◌≡◌, map, values}
use Rattle.desk_types.specs.declared.edit.RowEdit.TheVariants.{PutReel}
use Rattle.state_rows.proofs.takes.put_all.Given as goal

abbrev pub invariant-loop-row : goal.invariant-loop-row
invariant-loop-row l = l.edits.items ++ map (λ row. PutReel row) l.row-iterator ≡ l.initial.edits.items ++ map (λ row. PutReel row) (values l.rows)
