use Rattle.desk_types.proofs.Common.{inl, inr}
use Rattle.line_schema.proofs.UnansweredCommands.{again, clean_before, leaves, still_stands}
use Rattle.line_schema.proofs.store.LineStore.unanswered_commands_leave_the_list.Goals as goal

pub returns-clause-stands : goal.returns-clause-stands
returns-clause-stands g c = λ L sent stands own gone clean. still_stands g.S.Store g.D.Desk.Stands sent c.args.self.now c.args.last.now L stands own gone clean

pub returns-clause-crash : goal.returns-clause-crash
returns-clause-crash g c = λ L sent stands own on gone clean trees may.
    elim (leaves g.S.Store g.D.Desk.Stands sent c.args.self.now c.args.last.now L stands own gone clean trees may) [
      | inl was ↦ inl (c.crash_leaves_the_list.ensures.list L stands (clean_before g.S.Store g.D.Desk.Stands sent c.args.self.now c.args.last.now gone clean) own on trees was)
      | inr made ↦ inr made
    ]

pub returns-clause-again : goal.returns-clause-again
returns-clause-again g c = again
