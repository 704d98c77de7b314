use Rattle.desk_types.proofs.Common.{◌∙◌, name-written, refl, rules, sym}
use Rattle.judging.proofs.Feeds.{less-written, none-less}
use Rattle.judging.specs.{Placing.one_less, declared.placing.Feed.Feed}
use Rattle.judging.proofs.placing.take_in_hand.Goals as goal

pub returns-then-feed-eq0-clause-lowered : goal.returns-then-feed-eq0-clause-lowered
returns-then-feed-eq0-clause-lowered c = λ s.
    let f : Feed = c.in-Some.feed.now in
    let h = c.get_mut.follows.holds f in
    name-written _ _ c.args.slot.now _ (λ o. o) ((h.3 (search rules)).0) s
    ∙ less-written c.args.feeds.now c.args.slot.now f f (sym c.in-Some.ensures.value) (none-less f (search rules)) s

pub returns-clause-lowered : goal.returns-clause-lowered
returns-clause-lowered c = λ s.
    let f : Feed = c.in-Some.feed.now in
    let h = c.get_mut.follows.holds (one_less f) in
    name-written _ _ c.args.slot.now _ (λ o. o) ((h.3 (search rules)).0) s
    ∙ less-written c.args.feeds.now c.args.slot.now f (one_less f) (sym c.in-Some.ensures.value) refl s
