use Rattle.desk_types.proofs.Common.{◌++◌, ◌+◌, ◌-◌, ◌∙◌, ◌≡◌, ap, arith, drop, left_of, min, pieces_off}
use Rattle.desk_types.proofs.Common.{scrap_picks, sum_by, sym}
use Rattle.desk_laws.proofs.Common.{Rejected}
use Rattle.judging.proofs.{Reels.no-gap, ScrapPicks.scrap-done, ScrapPicks.scrap-step, ScrapPicks.sum-step}
use Rattle.judging.proofs.{scraps.scrap.Goals.in-Some+in_ok-put_off, scraps.scrap.Goals.in_default}
use Rattle.judging.proofs.scraps.scrap.Goals as goal

pub returns-then-wanting-eq0 : goal.returns-then-wanting-eq0
returns-then-wanting-eq0 g c = λ H stands.
    let machine = c.args.machine.now in
    let slot = c.args.slot.now in
    let reels = g.F.Facts.reels_on c.args.facts.now machine slot in
    let inv = c.loop-index.invariant H stands in
    record {
      picks = scrap-done (left_of H) (Rejected machine slot) reels c.loop-index.index c.loop-index.picks.items _ c.loop-index.wanting c.if-wanting-eq0.true inv.picks;
      wanting = omega (arith, inv.wanting, c.if-wanting-eq0.true);
    }

pub loop-index-preserved : goal.loop-index-preserved
loop-index-preserved g c = λ H stands.
    let machine = c.args.machine.now in
    let slot = c.args.slot.now in
    let reels = g.F.Facts.reels_on c.args.facts.now machine slot in
    let i = c.loop-index.index in
    let w = c.loop-index.wanting in
    let inv = c.loop-index.invariant H stands in
    let step : (c.match-reel_at.picks.items ++ scrap_picks (left_of H) (Rejected machine slot) (drop (i + 1) reels) c.match-reel_at.wanting
    ≡ c.loop-index.picks.items ++ scrap_picks (left_of H) (Rejected machine slot) (drop i reels) w)
    × (c.match-reel_at.wanting - sum_by (left_of H) (drop (i + 1) reels) ≡ w - sum_by (left_of H) (drop i reels)) =
    elim c.match-reel_at.branch as (λ _. (c.match-reel_at.picks.items ++ scrap_picks (left_of H) (Rejected machine slot) (drop (i + 1) reels) c.match-reel_at.wanting
    ≡ c.loop-index.picks.items ++ scrap_picks (left_of H) (Rejected machine slot) (drop i reels) w)
    × (c.match-reel_at.wanting - sum_by (left_of H) (drop (i + 1) reels) ≡ w - sum_by (left_of H) (drop i reels))) [
      | in-Some+in_ok-put_off v ↦
          (let reel = v.in-Some.reel in
          let left = v.left_of-left.ensures H stands in
          let here = sym c.reel_at.ensures ∙ v.in-Some.is in
          let some : v.min.result ≡ min w (left_of H reel) = omega (arith, v.min.ensures, left) in
          let put = ap (λ ps. ps.items) v.picks-is ∙ v.in_ok-put_off.ensures ∙ ap (λ n. c.loop-index.picks.items ++ pieces_off reel n (Rejected machine slot)) some in
          let less : c.match-reel_at.wanting ≡ w - left_of H reel = omega (arith, v.wanting-is, v.saturating_sub-wanting.ensures, left) in (
            scrap-step (left_of H) (Rejected machine slot) reels i reel c.loop-index.picks.items c.match-reel_at.picks.items w c.match-reel_at.wanting here put less,
            sum-step (left_of H) (Rejected machine slot) reels i reel w c.match-reel_at.wanting here less,
          ))
      | in_default v ↦ absurd (no-gap reels i c.reel_count-index-end.result c.reel_count-index-end.ensures c.loop-index-test.true (sym c.reel_at.ensures ∙ v.in_default.is))
    ] in
    record { picks = step.0 ∙ inv.picks; wanting = step.1 ∙ inv.wanting }
