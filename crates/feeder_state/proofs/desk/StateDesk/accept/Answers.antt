use Rattle.desk_types.proofs.Common.{◌∙◌, ap, tables_of, with_edits}
use Rattle.state_rows.specs.Kept.{unnumbered}
use Rattle.feeder_state.proofs.desk.StateDesk.accept.Goals as goal

pub apply-requires-clause-lead : goal.apply-requires-clause-lead
apply-requires-clause-lead c = λ B stands.
    ap (λ edits. unnumbered (with_edits edits (tables_of B.history))) c.as_slice.ensures ∙ c.in_ok-edits.ensures.same B stands
