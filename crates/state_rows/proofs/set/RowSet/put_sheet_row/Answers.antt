use Rattle.desk_types.proofs.Common.{◌∙◌, ◌≡◌, ap, rules, with_edit}
use Rattle.desk_laws.proofs.Common.{SheetRow}
use Rattle.desk_types.specs.declared.edit.RowEdit.TheVariants.{PutSheetRow}
use Rattle.state_rows.proofs.RowLists.{sheet_row-put}
use Rattle.state_rows.specs.{Kept.tables_in, contracts.set.RowSet.the_view}
use Rattle.state_rows.proofs.set.RowSet.put_sheet_row.Goals as goal

pub returns : goal.returns
returns c =
    let copy : c.in_ok-copy.copy ≡ c.args.row.now = search rules in
    sheet_row-put (the_view c.self.inside) c.args.self.now c.self.view_is c.insert.new.self.entries c.args.product c.args.machine c.args.place c.in_ok-copy.copy c.in_ok-insert.ensures.updates.0
    ∙ ap (λ (r : SheetRow). with_edit (PutSheetRow c.args.product c.args.machine c.args.place r) (tables_in c.args.self.now)) copy
