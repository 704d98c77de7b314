use Rattle.desk_types.proofs.Common.{◌++◌, ◌+◌, ◌∙◌, ◌≡◌, ap, arith, Bool, drop, drop_all, false, not, sym}
use Rattle.desk_types.proofs.Common.{true}
use Rattle.desk_laws.proofs.Common.{ReelView}
use Rattle.setup_sheets.specs.Names.{is_among}
use Rattle.std.specs.List.{filter}
use Rattle.trace_reports.proofs.Prefixes.{end-of_reels, end-reached, step-chosen, step-past}
use Rattle.trace_reports.proofs.kit.enough.Goals.{else-not-contains, then-not-contains+in_ok-push}
use Rattle.trace_reports.specs.Kit.{enough}
use Rattle.trace_reports.proofs.kit.enough.Goals as goal

pub returns-then-missing-eq0 : goal.returns-then-missing-eq0
returns-then-missing-eq0 c = λ names has.
    end-reached c.loop-reel.chosen.items (filter (λ (r : ReelView). not (is_among names r.reel)) (drop c.loop-reel.reel-index c.args.reels.now)) _
    c.loop-reel.missing c.if-missing-eq0.true (c.loop-reel.invariant names has)

pub returns : goal.returns
returns c = λ names has.
    end-of_reels (λ (r : ReelView). not (is_among names r.reel)) c.loop-reel.chosen.items (drop c.loop-reel.reel-index c.args.reels.now) _ c.loop-reel.missing
    (drop_all c.loop-reel.reel-index c.args.reels.now (omega (arith, c.loop-reel-test.false))) (c.loop-reel.invariant names has)

pub loop-reel-preserved : goal.loop-reel-preserved
loop-reel-preserved c = λ names has.
    let fresh : ReelView → Bool = λ (r : ReelView). not (is_among names r.reel) in
    let reels = c.args.reels.now in
    let i = c.loop-reel.reel-index in
    let reel = c.reel-item.result in
    let was = c.loop-reel.chosen.items in
    let told = sym (has reel.reel) ∙ sym c.contains.ensures in
    let step : c.if-not-contains.chosen.items ++ enough c.if-not-contains.missing (filter fresh (drop (i + 1) reels)) ≡ was ++ enough c.loop-reel.missing (filter fresh (drop i reels)) =
    elim c.if-not-contains.branch as (λ _. c.if-not-contains.chosen.items ++ enough c.if-not-contains.missing (filter fresh (drop (i + 1) reels)) ≡ was ++ enough c.loop-reel.missing (filter fresh (drop i reels))) [
      | then-not-contains+in_ok-push w ↦
          (let new : fresh reel ≡ true = ap not (told ∙ w.if-not-contains.true) in
          step-chosen fresh reels i reel c.loop-reel-test.true c.reel-item.is was c.if-not-contains.chosen.items c.loop-reel.missing c.if-not-contains.missing new
          (omega (arith, c.if-missing-eq0.false)) (ap (λ v. v.items) w.chosen-is ∙ w.in_ok-push.ensures.items) (omega (arith, w.missing-is, w.saturating_sub-missing.ensures)))
      | else-not-contains w ↦
          (let seen : fresh reel ≡ false = ap not (told ∙ w.if-not-contains.false) in
          ap (λ v. v.items ++ enough c.if-not-contains.missing (filter fresh (drop (i + 1) reels))) w.chosen-is
          ∙ ap (λ n. was ++ enough n (filter fresh (drop (i + 1) reels))) w.missing-is
          ∙ ap (λ l. was ++ l) (step-past fresh reels i reel c.loop-reel-test.true c.reel-item.is c.loop-reel.missing seen))
    ] in
    step ∙ c.loop-reel.invariant names has
