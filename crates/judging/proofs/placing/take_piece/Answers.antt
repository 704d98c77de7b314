use Rattle.desk_types.proofs.Common.{[], ◌∙◌, ◌∷◌, ◌≡◌, ap, left_of, live_on, name-written, refl, Some, subst}
use Rattle.desk_types.proofs.Common.{sym, unwrap_or}
use Rattle.desk_laws.proofs.Tapes.{live-distinct}
use Rattle.judging.proofs.Feeds.{fed-front, fed-next, fed-none, feeds-next, given_by-nothing, given_by-reel}
use Rattle.judging.proofs.Feeds.{less-written, other-written}
use Rattle.judging.proofs.Reels.{find-tape}
use Rattle.judging.specs.Placing.{feed_at, IsFed, live_next, live_past, one_less}
use Rattle.judging.proofs.placing.take_piece.Goals as goal

pub returns-in-Reel-clause-front : goal.returns-in-Reel-clause-front
returns-in-Reel-clause-front g c = λ H picks stands is.
    let machine = c.args.machine.now in
    let slot = c.args.slot.now in
    let reels = g.F.Facts.reels_on c.args.facts.now machine slot in
    let hand = given_by-reel (feed_at c.args.feeds.now slot) c.in-Reel.reel (sym c.in-Reel.ensures.given) in
    let here = subst (λ o. IsFed (left_of H) (live_on H machine slot) reels picks o) hand.1 (is slot) in
    ap Some hand.2 ∙ sym (fed-front (left_of H) (live_on H machine slot) reels picks hand.0 hand.3 here) ∙ find-tape H machine slot picks

pub returns-in-Reel-clause-feeds : goal.returns-in-Reel-clause-feeds
returns-in-Reel-clause-feeds g c = λ H picks p stands is one.
    let machine = c.args.machine.now in
    let slot = c.args.slot.now in
    let reels = g.F.Facts.reels_on c.args.facts.now machine in
    let judged = g.met.F.Facts.is_judged c.args.facts.now H stands in
    let hand = given_by-reel (feed_at c.args.feeds.now slot) c.in-Reel.reel (sym c.in-Reel.ensures.given) in
    let here = subst (λ o. IsFed (left_of H) (live_on H machine slot) (reels slot) picks o) hand.1 (is slot) in
    feeds-next H machine reels picks c.args.feeds.now c.take_in_hand.new.feeds slot hand.0 p judged (λ s. live-distinct H machine s judged)
    (sym (ap (λ o. unwrap_or o p.reel) one.0) ∙ hand.2) one.1 is here
    (λ s. c.in-Reel.ensures.lowered s ∙ sym (less-written c.args.feeds.now slot hand.0 (one_less hand.0) hand.1 refl s))

pub returns-in_default-clause-front : goal.returns-in_default-clause-front
returns-in_default-clause-front g c = λ H picks stands is.
    let machine = c.args.machine.now in
    let slot = c.args.slot.now in
    let reels = g.F.Facts.reels_on c.args.facts.now machine slot in
    let feed = feed_at c.args.feeds.now slot in
    let hand = given_by-nothing feed c.in-Nothing.past (sym c.in-Nothing.ensures.given) in
    let none : live_next (left_of H) reels feed ≡ [] = ap (live_past (left_of H) reels) (sym hand.1) ∙ c.in_default.ensures.live H stands in
    sym (fed-none (left_of H) (live_on H machine slot) reels picks feed hand.0 none (is slot)) ∙ find-tape H machine slot picks

pub returns-clause-front : goal.returns-clause-front
returns-clause-front g c = λ H picks stands is.
    let machine = c.args.machine.now in
    let slot = c.args.slot.now in
    let reels = g.F.Facts.reels_on c.args.facts.now machine slot in
    let feed = feed_at c.args.feeds.now slot in
    let f = c.in-Some.next in
    let hand = given_by-nothing feed c.in-Nothing.past (sym c.in-Nothing.ensures.given) in
    let next : live_next (left_of H) reels feed ≡ f.reel ∷ live_past (left_of H) reels f.passed =
    ap (live_past (left_of H) reels) (sym hand.1) ∙ c.in-Some.ensures.live H stands in
    let here = fed-next (left_of H) (live_on H machine slot) reels picks feed f hand.0 (c.in-Some.ensures.pieces H stands) next (is slot) in
    sym (fed-front (left_of H) (live_on H machine slot) reels picks f c.in-Some.ensures.some here) ∙ find-tape H machine slot picks

pub returns-clause-feeds : goal.returns-clause-feeds
returns-clause-feeds g c = λ H picks p stands is one.
    let machine = c.args.machine.now in
    let slot = c.args.slot.now in
    let reels = g.F.Facts.reels_on c.args.facts.now machine in
    let judged = g.met.F.Facts.is_judged c.args.facts.now H stands in
    let feed = feed_at c.args.feeds.now slot in
    let f = c.in-Some.next in
    let hand = given_by-nothing feed c.in-Nothing.past (sym c.in-Nothing.ensures.given) in
    let next : live_next (left_of H) (reels slot) feed ≡ f.reel ∷ live_past (left_of H) (reels slot) f.passed =
    ap (live_past (left_of H) (reels slot)) (sym hand.1) ∙ c.in-Some.ensures.live H stands in
    let here = fed-next (left_of H) (live_on H machine slot) (reels slot) picks feed f hand.0 (c.in-Some.ensures.pieces H stands) next (is slot) in
    feeds-next H machine reels picks c.args.feeds.now c.insert.new.self slot f p judged (λ s. live-distinct H machine s judged)
    (sym (ap (λ o. unwrap_or o p.reel) one.0)) one.1 is here
    (λ s. name-written _ _ slot (Some (one_less f)) (λ o. o) c.in_ok-insert.ensures.updates.0 s
    ∙ other-written c.args.feeds.now c.take_in_hand.new.feeds slot (one_less f) s (c.in-Nothing.ensures.lowered s))
