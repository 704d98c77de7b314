use Rattle.desk_types.proofs.Common.{[], ◌++◌, ◌∙◌, ◌∷◌, ap, filter_map, filter_map-append, option_to_list, sym, take, take-next, take_all}
use Rattle.chain_check.specs.Rows.{lots_received}
use Rattle.chain_stores.proofs.AskedPieces.{lot-in, one-more}
use Rattle.chain_stores.proofs.looking.lots_of.Goals as goal

pub loop-reel-preserved : goal.loop-reel-preserved
loop-reel-preserved g c L stands =
    let reels = c.args.reels.now in
    let i = c.loop-reel.reel-index in
    let reel = c.reel-item.result in
    let of = lot-in L.history in
    c.in_ok-add_lot.ensures
    ∙ (λ j. c.loop-reel.invariant L stands j ++ option_to_list (c.in_ok-lot.ensures L stands j))
    ∙ ap (λ lots. lots_received (take i reels) L.history ++ lots) (one-more (of reel))
    ∙ sym (filter_map-append of (take i reels) (reel ∷ []))
    ∙ ap (filter_map of) (sym (take-next reels i reel c.loop-reel-test.true c.reel-item.is))

pub returns : goal.returns
returns g c L stands =
    c.loop-reel.invariant L stands
    ∙ ap (λ reels. lots_received reels L.history)
    (take_all c.loop-reel.reel-index c.args.reels.now c.loop-reel-test.false)
