use Rattle.desk_types.proofs.Common.{◌||◌, ◌∙◌, ap, in_work_on, is_placed_on, places, sym, unwrap_or, work_by}
use Rattle.desk_laws.proofs.BoardsInWork.{work-next}
use Rattle.feeder_state.proofs.work.Work.note.Goals as goal

pub returns : goal.returns
returns c = λ H e is work.
    let command = c.args.command.now in
    record {
      running = λ m.
          c.in_ok-note_running.ensures m
          ∙ ap (unwrap_or (work_by m command)) (work.running m)
          ∙ ap (λ said. unwrap_or (work_by m said) (in_work_on H m)) (sym is)
          ∙ sym (work-next H e m);
      placed = λ b d.
          c.in_ok-note_placed.ensures b d
          ∙ ap (λ placed. places b d command || placed) (work.placed b d)
          ∙ ap (λ said. places b d said || is_placed_on H b d) (sym is);
    }
