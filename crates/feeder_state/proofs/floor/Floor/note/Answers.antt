use Rattle.desk_types.proofs.Common.{◌∙◌, ◌∷◌, ap, List, live_on, Name, sym, tape_after}
use Rattle.feeder_state.proofs.{AtRest.part-row, AtRest.part-stays, AtRest.rests-next, AtRest.row-there}
use Rattle.feeder_state.proofs.TapeSteps.{lives-kept}
use Rattle.feeder_state.specs.{Noted.may_take, Resting.rests_at, Sets.is_name_at}
use Rattle.feeder_state.specs.{Resting.resting_after, Tape.tape_at}
use Rattle.feeder_state.proofs.floor.Floor.note.Goals as goal

pub note_takes-requires-clause-takes : goal.note_takes-requires-clause-takes
note_takes-requires-clause-takes c = sym c.may_take.ensures ∙ c.if-may_take.true

pub note_takes-requires-clause-known : goal.note_takes-requires-clause-known
note_takes-requires-clause-known c = c.requires

pub returns-then-may_take : goal.returns-then-may_take
returns-then-may_take c = λ H e at noted rows stay floor. c.note_takes.ensures H e at noted rows stay floor

pub returns : goal.returns
returns c = λ H e at noted rows stay floor.
    let command = c.args.command.now in
    let other = ap may_take noted.command_is ∙ sym c.may_take.ensures ∙ c.if-may_take.false in
    record {
      tapes = λ m s.
          c.in_ok-note_tape.ensures m s
          ∙ ap (tape_after m s command) (floor.tapes m s)
          ∙ ap (λ said. tape_after m s said (live_on H m s)) (sym noted.command_is)
          ∙ lives-kept H e m s noted.judged other;
      resting = λ r rest.
          let kept = c.args.rows.now in
          let old = c.args.self.now.resting in
          let before = rests_at kept old r in
          let own = part-row (e ∷ H) kept r rows in
          ap (λ p. is_name_at c.note_resting.new.resting p r) (sym own)
          ∙ c.in_ok-note_resting.ensures r (row-there (e ∷ H) kept r rows rest)
          ∙ ap (λ said. resting_after (tape_at c.args.self.now.tapes) r said before) (sym noted.command_is)
          ∙ ap (λ (live : Name → Name → List Name). resting_after live r e.stamped.command before) (λ j m s. floor.tapes m s j)
          ∙ rests-next H e r before noted.judged (λ was. ap (λ p. is_name_at old p r) (own ∙ part-stays H e r noted.judged was) ∙ floor.resting r was) rest;
    }
