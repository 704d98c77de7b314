use Rattle.desk_types.proofs.Common.{sheet_of}
use Rattle.chain_check.proofs.SameRows.{either-some, none-then}
use Rattle.chain_check.proofs.sheets.first_sheet.Goals as goal

pub returns : goal.returns
returns g c = record {
  same = λ H H' is is' of_old of_new product machine.
      none-then c.sheet_in-2.result
      (λ new. either-some (sheet_of H product machine) (sheet_of H' product machine)
      (c.in_default.ensures.same H H H' (g.met.F.Facts.is_judged c.args.old.now H of_old) is of_old of_new product machine) new)
      (c.sheet_in-2.ensures.same H' H H' (g.met.F.Facts.is_judged c.args.new.now H' of_new) is' of_old of_new product machine);
  differs = c.sheet_in-2.ensures.differs;
}
