use Rattle.desk_types.proofs.Common.{◌≡◌, ap, in_work_on, is_some, rules, ◌∙◌}
use Rattle.desk_laws.proofs.Common.{judged-by-two}
use Rattle.line_book.proofs.Going.{all-told, exact-told}
use Rattle.line_book.proofs.guard.Guard.causes.Goals as goal

pub add_causes-requires : goal.add_causes-requires
add_causes-requires g c = (c.requires.0, c.requires.1, c.in_ok-sheet.ensures c.requires.0 c.requires.1)

pub returns-clause-all : goal.returns-clause-all
returns-clause-all g c = λ S B stands is.
    let machine = c.args.machine.now in
    let works : c.is_some.result ≡ is_some (in_work_on S.history machine) = search (
      rules,
      ap is_some
          (is.running machine),
    ) in
    let on = c.in_ok-sheet.ensures S stands in
    all-told S.history B machine c.is_some.result c.as_slice.result.now c.in_ok-sheet.sheet
    c.in_ok-found.found.items c.add_open.new.found.items c.add_causes.new.found.items
    works (c.as_slice.ensures.value ∙ is.open_notes) on c.in_ok-found.ensures c.in_ok-add_open.ensures
    (c.in_ok-add_causes.ensures S B stands is.setup on)

pub returns-clause-exact : goal.returns-clause-exact
returns-clause-exact g c = λ S B stands is.
    exact-told S.history B c.args.machine.now c.add_causes.new.found.items
    (judged-by-two S.rules S.history (g.met.D.Desk.is_judged c.args.desk.now S stands))
    (returns-clause-all g c S B stands is)
