use Rattle.desk_types.proofs.Common.{[], ◌++◌, ◌+◌, ◌∙◌, ◌∷◌, ◌≡◌, ap, arith, bench_of, by_name}
use Rattle.desk_types.proofs.Common.{designators_refusal, drop, drop_all, install_picks, is_at, is_placed_on}
use Rattle.desk_types.proofs.Common.{left_of, list_any, live_on, lookup, subst, sym, take, take-next}
use Rattle.desk_laws.proofs.Common.{Pick}
use Rattle.judging.proofs.Feeds.{feeds-first}
use Rattle.judging.proofs.PlacedInTurn.{before_at, picks-end, picks-next, refusal-here, refusal-next}
use Rattle.desk_types.proofs.Common.{err_from_is_err_and}
use Rattle.judging.specs.Placing.{IsFeeding, next_refusal, pick_of}
use Rattle.setup_sheets.specs.Names.{HasSeen}
use Rattle.judging.proofs.Told.{told-of-all}
use Rattle.judging.proofs.placing.place_all.Goals as goal

pub loop-designator-init : goal.loop-designator-init
loop-designator-init g c = λ H stands.
    let a = c.args in
    let bench = bench_of H a.machine.now a.board.now in
    let none = c.in_ok-picks.ensures.items in
    record {
      feeds = subst (λ ps. IsFeeding (live_on H a.machine.now) (left_of H) (g.F.Facts.reels_on a.facts.now a.machine.now) ps c.new-feeds.result) (sym none)
          (feeds-first (live_on H a.machine.now) (left_of H) (g.F.Facts.reels_on a.facts.now a.machine.now) c.new-feeds.result (λ slot. g.met.F.Facts.tells_live c.args.facts.now H a.machine.now slot stands)
          (λ s. ap (lookup (is_at (by_name s))) c.new-feeds.ensures.empty));
      seen = λ x. ap (list_any (is_at (by_name x))) c.new-seen.ensures.empty;
      refusal = ap (λ ps. designators_refusal bench (is_placed_on H a.board.now) ps [] a.designators.now) none;
      picks = ap (λ ps. install_picks bench ps a.designators.now) none;
    }

pub returns-in_err-piece : goal.returns-in_err-piece
returns-in_err-piece g c = λ H stands.
    let a = c.args in
    let bench = bench_of H a.machine.now a.board.now in
    let i = c.loop-designator.designator-index in
    let d = c.designator-item.result in
    let picks = c.loop-designator.picks.items in
    let inv = c.loop-designator.invariant H stands in
    let here = c.in_err-piece.ensures H (before_at a.designators.now picks i) stands inv.feeds inv.seen in
    let told = err_from_is_err_and c.from_residual-in_err-piece.result c.from_residual-in_err-piece.ensures.1 in
    rw (told.1, told.2)
    (told-of-all (next_refusal bench (is_placed_on H bench.board) (before_at a.designators.now picks i) d) _
    c.in_err-piece.field-0.0 here (λ r first.
    sym inv.refusal ∙ refusal-here bench (is_placed_on H a.board.now) a.designators.now picks i d r c.loop-designator-test.true c.designator-item.is first))

pub loop-designator-preserved : goal.loop-designator-preserved
loop-designator-preserved g c = λ H stands.
    let a = c.args in
    let bench = bench_of H a.machine.now a.board.now in
    let i = c.loop-designator.designator-index in
    let d = c.designator-item.result in
    let picks = c.loop-designator.picks.items in
    let inv = c.loop-designator.invariant H stands in
    let here = c.in_ok-piece.ensures H (before_at a.designators.now picks i) stands inv.feeds inv.seen in
    let pick : Pick = pick_of bench d c.in_ok-piece.piece in
    let pushed : c.put_off.new.picks.items ≡ picks ++ pick ∷ [] = c.in_ok-put_off.ensures in
    let none = here.0 in
    let found = here.1 in
    record {
      feeds = subst (λ ps. IsFeeding (live_on H a.machine.now) (left_of H) (g.F.Facts.reels_on a.facts.now a.machine.now) ps c.place.new.feeds) (sym pushed) here.2;
      seen = subst (HasSeen c.place.new.seen) (sym (take-next a.designators.now i d c.loop-designator-test.true c.designator-item.is)) here.3;
      refusal = ap (λ ps. designators_refusal bench (is_placed_on H a.board.now) ps (take (i + 1) a.designators.now) (drop (i + 1) a.designators.now)) pushed
          ∙ refusal-next bench (is_placed_on H a.board.now) a.designators.now picks i d pick c.loop-designator-test.true c.designator-item.is none found
          ∙ inv.refusal;
      picks = ap (λ ps. install_picks bench ps (drop (i + 1) a.designators.now)) pushed
          ∙ picks-next bench (is_placed_on H a.board.now) a.designators.now picks i d pick c.loop-designator-test.true c.designator-item.is found
          ∙ inv.picks;
    }

pub returns : goal.returns
returns g c = λ H stands.
    let a = c.args in
    let bench = bench_of H a.machine.now a.board.now in
    let picks = c.loop-designator.picks.items in
    let inv = c.loop-designator.invariant H stands in
    let none : drop c.loop-designator.designator-index a.designators.now ≡ [] = drop_all c.loop-designator.designator-index a.designators.now (omega arith) in (
      sym inv.refusal ∙ ap (designators_refusal bench (is_placed_on H a.board.now) picks (take c.loop-designator.designator-index a.designators.now)) none,
      c.new.ensures
          ∙ sym (picks-end bench picks)
          ∙ ap (install_picks bench picks) (sym none)
          ∙ inv.picks,
    )
