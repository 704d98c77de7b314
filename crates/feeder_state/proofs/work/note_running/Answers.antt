use Rattle.desk_types.proofs.Common.{◌∙◌, ap, name-written, None, same, Some, sym, unwrap_or, work_by}
use Rattle.feeder_state.{proofs.NameSets.says-over, specs.Work.running_at}
use Rattle.feeder_state.proofs.work.note_running.Goals as goal

pub returns-in_ok-insert-in-WorkStarted : goal.returns-in_ok-insert-in-WorkStarted
returns-in_ok-insert-in-WorkStarted c = λ m.
    name-written _ _ c.in-WorkStarted.machine _ (λ o. o) c.in_ok-insert-in-WorkStarted.ensures.updates.0 m
    ∙ says-over (same c.in-WorkStarted.machine m) (Some c.in-WorkStarted.board) (running_at c.args.running.now m)
    ∙ ap (λ command. unwrap_or (work_by m command) (running_at c.args.running.now m)) (sym c.in-WorkStarted.is)

pub returns-in-WorkCompleted : goal.returns-in-WorkCompleted
returns-in-WorkCompleted c = λ m.
    name-written _ _ c.in-WorkCompleted.machine _ (λ o. o) c.remove.ensures.updates.0 m
    ∙ says-over (same c.in-WorkCompleted.machine m) None (running_at c.args.running.now m)
    ∙ ap (λ command. unwrap_or (work_by m command) (running_at c.args.running.now m)) (sym c.in-WorkCompleted.is)
