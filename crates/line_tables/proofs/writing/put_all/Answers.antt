use Rattle.desk_types.proofs.Common.{[], ◌≡◌, arith, drop, List, refl, rules, subst, sym, take}
use Rattle.line_tables.proofs.Common.{AreNew, command_edits, Edit, Edits, HasCleanDisk, IsDatabase, row_edits}
use Rattle.line_tables.proofs.Common.{RowEdit, state}
use Rattle.line_tables.proofs.{Alterations.no_length, Beside.others_stay_then, Frames.within_then}
use Rattle.line_tables.proofs.{Puts.Remain, Puts.remain_less, Puts.remain_none, Puts.sound_less}
use Rattle.line_tables.specs.Edit.{EditRow}
use Rattle.std.proofs.lemmas.List.{drop-map, take-map}
use Rattle.line_tables.proofs.writing.put_all.Goals as goal

pub loop-rest-init : goal.loop-rest-init
loop-rest-init g c =
    let old = state g.S.Store c.args.tx.now.conn.now in
    let new = state g.S.Store c.put_accepted.new.tx.conn.now in
    let all = command_edits c.args.row.now c.args.edits.now in
    let start : Remain all all old.now old.now = λ tables holds fresh. (tables, holds, fresh, refl, refl) in record {
      left = λ clean. remain_less all all 1 old.now old.now start new.now (c.in_ok-put_accepted.ensures.done clean).done;
      was_open = λ clean. (c.in_ok-put_accepted.ensures.done clean).was_open;
      sound = λ clean. sound_less all all 1 old.now old.now start (IsDatabase new.now) (c.in_ok-put_accepted.ensures.done clean).sound;
      others = λ clean. (c.in_ok-put_accepted.ensures.done clean).others;
      within = c.put_accepted.ensures.within;
    }

pub loop-rest-preserved : goal.loop-rest-preserved
loop-rest-preserved g c =
    let old = state g.S.Store c.args.tx.now.conn.now in
    let mid = state g.S.Store c.loop-rest.tx.conn.now in
    let new = state g.S.Store c.put_first.new.tx.conn.now in
    let all = command_edits c.args.row.now c.args.edits.now in
    let rest : List RowEdit = c.loop-rest.rest.now in
    let n = c.in_ok-taken.taken in
    let was = c.loop-rest.invariant in
    let first : take n (row_edits rest) ≡ row_edits (take n rest) = take-map EditRow n rest in
    let cut : drop n rest ≡ c.split_at.result.1.now = search rules in
    let early : HasCleanDisk new → HasCleanDisk mid = λ clean. omega (arith, c.put_first.ensures.within.survives.clean) in record {
      left = λ clean.
          subst (λ (l : List RowEdit). Remain all (row_edits l) old.now new.now) cut
          (subst (λ (l : List Edit). Remain all l old.now new.now) (drop-map EditRow n rest)
          (remain_less all (row_edits rest) n old.now mid.now (was.left (early clean)) new.now (subst (λ (l : List Edit). Edits l mid.now new.now) (sym first) (c.in_ok-taken.ensures.done clean).done)));
      was_open = λ clean. was.was_open (early clean);
      sound = λ clean.
          sound_less all (row_edits rest) n old.now mid.now (was.left (early clean)) (IsDatabase new.now)
          (λ tables holds fresh. (c.in_ok-taken.ensures.done clean).sound tables holds (subst (λ (l : List Edit). AreNew l tables) first fresh));
      others = λ clean. others_stay_then old.now mid.now new.now (was.others (early clean)) (c.in_ok-taken.ensures.done clean).others;
      within = within_then g.S.Store c.args.tx.now c.loop-rest.tx c.put_first.new.tx was.within c.put_first.ensures.within;
    }

pub returns-clause-done : goal.returns-clause-done
returns-clause-done g c clean =
    let was = c.loop-rest.invariant in
    let all = command_edits c.args.row.now c.args.edits.now in
    let none : c.loop-rest.rest.now ≡ [] = no_length _ (search arith) in
    record {
      was_open = was.was_open clean;
      done = remain_none all _ _ (subst (λ (l : List RowEdit). Remain all (row_edits l) (state g.S.Store c.args.tx.now.conn.now).now (state g.S.Store c.loop-rest.tx.conn.now).now) none (was.left clean));
      sound = was.sound clean;
      others = was.others clean;
    }
