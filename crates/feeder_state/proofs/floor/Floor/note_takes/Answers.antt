use Rattle.desk_types.proofs.Common.{◌∙◌, ◌∷◌, ap, IsDistinct, list_any, not, rules, same, subst, sym}
use Rattle.desk_laws.proofs.Tapes.{live-distinct}
use Rattle.feeder_state.proofs.{AtRest.part-row, AtRest.part-stays, AtRest.rests-left, AtRest.rests-taken}
use Rattle.feeder_state.proofs.RowReels.{row-left}
use Rattle.feeder_state.proofs.{TapeSteps.lives-stay, TapeSteps.lives-taken}
use Rattle.feeder_state.specs.{Noted.may_take, Sets.is_name_at, Rows.left_at, Spending.is_spent_by}
use Rattle.std.specs.List.{filter}
use Rattle.feeder_state.proofs.floor.Floor.note_takes.Goals as goal

pub drop_all_spent-requires : goal.drop_all_spent-requires
drop_all_spent-requires c = λ m s. let known = c.requires.known in subst (IsDistinct same) (sym (known.4.tapes m s)) (live-distinct known.0 m s known.3.judged.1)

pub returns-then-not-spends : goal.returns-then-not-spends
returns-then-not-spends c = λ H e at noted rows stay floor. record {
  tapes = λ m s.
      floor.tapes m s
      ∙ lives-stay H e c.args.command.now at c.args.takes.now (left_at c.args.rows.now) m s noted c.requires.takes (λ r. row-left (e ∷ H) c.args.rows.now rows r)
      (stay (search rules));
  resting = λ r rest.
      let was = rests-taken H e r noted.judged (ap may_take noted.command_is ∙ c.requires.takes) rest in
      ap (λ p. is_name_at c.args.self.now.resting p r) (part-stays H e r noted.judged was) ∙ floor.resting r was;
}

pub returns : goal.returns
returns c = λ H e at noted rows stay floor.
    let left = left_at c.args.rows.now in
    let takes = c.args.takes.now in
    record {
      tapes = λ m s.
          c.drop_all_spent.ensures m s
          ∙ ap (filter (λ r. not (list_any (is_spent_by left m s r) takes))) (floor.tapes m s)
          ∙ lives-taken H e c.args.command.now at takes left m s noted c.requires.takes (λ r. row-left (e ∷ H) c.args.rows.now rows r);
      resting = λ r rest.
          let was = rests-taken H e r noted.judged (ap may_take noted.command_is ∙ c.requires.takes) rest in
          let own = part-row (e ∷ H) c.args.rows.now r rows in
          ap (λ p. is_name_at c.end_rests.new.resting p r) (sym own)
          ∙ c.end_rests.ensures r (rests-left (e ∷ H) r (left r) (row-left (e ∷ H) c.args.rows.now rows r) rest)
          ∙ ap (λ p. is_name_at c.args.self.now.resting p r) (own ∙ part-stays H e r noted.judged was)
          ∙ floor.resting r was;
    }
