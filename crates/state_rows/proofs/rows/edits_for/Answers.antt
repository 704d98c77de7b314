use Rattle.desk_types.proofs.Common.{◌∙◌, ap, AreBalanced, AreTakesFirst, Basis, IsMinute, map, subst, sym}
use Rattle.desk_types.proofs.Common.{tables_of, with_edits}
use Rattle.desk_laws.proofs.Common.{judged-by-two}
use Rattle.desk_types.specs.Edits.{AreNew}
use Rattle.state_rows.proofs.RowsLess.{change-fits, rows-fit, rows-lead, rows-new, rows-same}
use Rattle.state_rows.specs.{EditsOf.AreEditsOf, EditsOf.ArePiecesFitting, EditsOf.pick_of, Kept.unnumbered}
use Rattle.state_rows.proofs.rows.edits_for.Goals as goal

pub edits_of-requires-clause-judged : goal.edits_of-requires-clause-judged
edits_of-requires-clause-judged g c = λ B stands. judged-by-two _ B.history (g.met.D.Views.is_judged c.args.desk.now B stands)

pub edits_of-requires-clause-fits : goal.edits_of-requires-clause-fits
edits_of-requires-clause-fits g c =
    let change = c.args.change.now in
    let room = c.requires.room in
    let B : Basis = room.0 in
    let few = room.2 in
    let range : IsMinute change.minute = subst IsMinute c.get.ensures.value c.get.ensures.range in (
      B,
      room.1,
      subst (λ takes. ArePiecesFitting B.history (map pick_of takes)) (sym c.takes.ensures)
          (change-fits _ B.history change.stamped change (c.requires.judged B room.1) (g.met.D.Views.is_judged c.args.desk.now B room.1) c.ranges_hold.ensures range few),
    )

pub returns-clause-lead : goal.returns-clause-lead
returns-clause-lead g c = λ B stands next.
    let change = c.args.change.now in
    let range : IsMinute change.minute = subst IsMinute c.get.ensures.value c.get.ensures.range in
    ap (λ xs. with_edits xs (tables_of B.history)) c.new.ensures
    ∙ rows-lead _ B.history change.stamped change (c.requires.judged B stands) (g.met.D.Views.is_judged c.args.desk.now B stands) c.ranges_hold.ensures range c.args.number c.in_ok-edits.edits.items
    (subst (λ takes. AreEditsOf B.history c.args.number change.minute takes change.stamped.command c.in_ok-edits.edits.items) c.takes.ensures (c.in_ok-edits.ensures B stands)) next

pub returns-clause-new : goal.returns-clause-new
returns-clause-new g c = λ B stands next.
    let change = c.args.change.now in
    let range : IsMinute change.minute = subst IsMinute c.get.ensures.value c.get.ensures.range in
    subst (λ xs. AreNew xs (tables_of B.history)) (sym c.new.ensures)
    (rows-new _ B.history change.stamped change (c.requires.judged B stands) (g.met.D.Views.is_judged c.args.desk.now B stands) c.ranges_hold.ensures range c.args.number c.in_ok-edits.edits.items
    (subst (λ takes. AreEditsOf B.history c.args.number change.minute takes change.stamped.command c.in_ok-edits.edits.items) c.takes.ensures (c.in_ok-edits.ensures B stands)) next)

pub returns-clause-same : goal.returns-clause-same
returns-clause-same g c = λ B stands.
    let change = c.args.change.now in
    let range : IsMinute change.minute = subst IsMinute c.get.ensures.value c.get.ensures.range in
    ap (λ xs. unnumbered (with_edits xs (tables_of B.history))) c.new.ensures
    ∙ rows-same _ B.history change.stamped change (c.requires.judged B stands) (g.met.D.Views.is_judged c.args.desk.now B stands) c.ranges_hold.ensures range c.args.number c.in_ok-edits.edits.items
    (subst (λ takes. AreEditsOf B.history c.args.number change.minute takes change.stamped.command c.in_ok-edits.edits.items) c.takes.ensures (c.in_ok-edits.ensures B stands))

pub returns-clause-in_order : goal.returns-clause-in_order
returns-clause-in_order g c =
    let change = c.args.change.now in
    let B : Basis = c.requires.room.0 in
    let stands = c.requires.room.1 in
    let range : IsMinute change.minute = subst IsMinute c.get.ensures.value c.get.ensures.range in
    subst (λ xs. AreTakesFirst xs × AreBalanced xs) (sym c.new.ensures)
    (rows-fit _ B.history change.stamped change (c.requires.judged B stands) (g.met.D.Views.is_judged c.args.desk.now B stands) c.ranges_hold.ensures range c.args.number c.in_ok-edits.edits.items
    (subst (λ takes. AreEditsOf B.history c.args.number change.minute takes change.stamped.command c.in_ok-edits.edits.items) c.takes.ensures (c.in_ok-edits.ensures B stands)))
