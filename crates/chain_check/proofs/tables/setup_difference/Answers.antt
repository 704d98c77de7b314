use Rattle.desk_types.proofs.Common.{Tables}
use Rattle.chain_check.proofs.SameTables.{back, over}
use Rattle.chain_check.proofs.tables.setup_difference.Goals as goal

pub returns-in-Some-clause-differs : goal.returns-in-Some-clause-differs
returns-in-Some-clause-differs c = λ H H' is is' same.
    c.in-Some.ensures.differs (back H H' c.args.old.now c.args.new.now is is' (λ (t : Tables). t.parts c.in-Some.part) same)

pub returns-in-Some-first_alternate-clause-differs : goal.returns-in-Some-first_alternate-clause-differs
returns-in-Some-first_alternate-clause-differs c = λ H H' is is' same.
    let p = c.in-Some-first_alternate.pair.0 in
    let q = c.in-Some-first_alternate.pair.1 in
    c.in-Some-first_alternate.ensures.differs (back H H' c.args.old.now c.args.new.now is is' (λ (t : Tables). t.alternates p q) same)

pub returns-in-Some-first_selection-clause-differs : goal.returns-in-Some-first_selection-clause-differs
returns-in-Some-first_selection-clause-differs c = λ H H' is is' same.
    let machine = c.in-Some-first_selection.machine in
    c.in-Some-first_selection.ensures.differs (back H H' c.args.old.now c.args.new.now is is' (λ (t : Tables). t.selected machine) same)

pub returns-clause-same : goal.returns-clause-same
returns-clause-same c = λ H H' is is'. record {
  parts = λ part. over H H' c.args.old.now c.args.new.now is is' (λ (t : Tables). t.parts part) (c.in_default.ensures.same part);
  alternates = λ p q. over H H' c.args.old.now c.args.new.now is is' (λ (t : Tables). t.alternates p q) (c.in_default-first_alternate.ensures.same p q);
  selections = λ machine. over H H' c.args.old.now c.args.new.now is is' (λ (t : Tables). t.selected machine) (c.in_default-first_selection.ensures.same machine);
}
