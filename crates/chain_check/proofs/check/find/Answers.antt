use Rattle.std.proofs.Common.{◌≡◌, refl, rules, sym, ap, unwrap_or, ◌∙◌}
use Rattle.desk_types.specs.History.{History, basis, desk_minute, now_of}
use Rattle.feeder_state.specs.declared.desk.StateDesk.{StateDesk}
use Rattle.feeder_state.specs.State.{IsState, Represents}
use Rattle.feeder_state.proofs.AcceptedChanges.{state-two}
use Rattle.chain_check.proofs.SameReels.{carried, reel-difference}
use Rattle.chain_check.proofs.check.find.Goals as goal

represented : (H : History) (desk : StateDesk) → IsState H desk → Represents desk (basis desk.rules H)
represented H desk state = record { rules = refl; state = state }

pub returns-then-ne-clause-differs : goal.returns-then-ne-clause-differs
returns-then-ne-clause-differs c = λ H H' of_old of_new.
    let was = c.minute-of_old.ensures _ (represented H c.args.old.now of_old) in
    let now = c.minute-of_new.ensures _ (represented H' c.args.new.now of_new) in
    search rules

pub returns-in-Some-clause-differs : goal.returns-in-Some-clause-differs
returns-in-Some-clause-differs c = λ H H' of_old of_new.
    c.in-Some.ensures.differs H H' (state-two H c.args.old.now of_old) (state-two H' c.args.new.now of_new)
    (c.rows-old_rows.ensures.same _ (represented H c.args.old.now of_old))
    (c.rows-new_rows.ensures.same _ (represented H' c.args.new.now of_new))

pub returns-in-Some-first_reel-clause-differs : goal.returns-in-Some-first_reel-clause-differs
returns-in-Some-first_reel-clause-differs c = λ H H' of_old of_new.
    let stands = represented H c.args.old.now of_old in
    let stands' = represented H' c.args.new.now of_new in
    let one = c.in-Some-first_reel.ensures.differs _ _ stands stands' in
    reel-difference H H' one.0 _ (state-two H c.args.old.now of_old) (state-two H' c.args.new.now of_new) one.1

pub returns-clause-carries : goal.returns-clause-carries
returns-clause-carries c = λ H H' of_old of_new.
    let B = basis c.args.old.now.rules H in
    let B' = basis c.args.new.now.rules H' in
    let stands = represented H c.args.old.now of_old in
    let stands' = represented H' c.args.new.now of_new in
    let judged = state-two H c.args.old.now of_old in
    let judged' = state-two H' c.args.new.now of_new in
    let is = c.rows-old_rows.ensures.same B stands in
    let is' = c.rows-new_rows.ensures.same B' stands' in
    let tables = c.in_default.ensures.same H H' judged judged' is is' in
    let one : c.minute-of_old.result ≡ c.minute-of_new.result = search rules in
    let minute : desk_minute H ≡ desk_minute H' =
    sym (c.minute-of_old.ensures B stands) ∙ one ∙ c.minute-of_new.ensures B' stands' in
    let now : now_of H ≡ now_of H' = ap (λ o. unwrap_or o 0) minute in
    let reels = c.in_default-first_reel.ensures.same B B' is is' stands stands' in
    record {
      alike = record {
        minute = minute;
        parts = tables.0.parts;
        alternates = tables.0.alternates;
        sheets = c.in_default-first_sheet.ensures.same H H' is is' of_old of_new;
        selections = tables.0.selections;
        old_idle = tables.1.old_idle;
        new_idle = tables.1.new_idle;
        slots = c.in_default-slot_difference.ensures.same H H' of_old of_new;
        left = λ reel. (carried H H' reel judged judged' now (reels reel)).left;
        reels = λ reel. (carried H H' reel judged judged' now (reels reel)).same;
        boards_known = tables.1.boards_known;
        reels_known = λ reel. (carried H H' reel judged judged' now (reels reel)).known;
      };
      quantities = λ reel. (carried H H' reel judged judged' now (reels reel)).quantity;
    }
