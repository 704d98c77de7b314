use Rattle.desk_types.proofs.Common.{◌∙◌, ap, columns_of, option_map, reverse, sym, view_of}
use Rattle.look_back.proofs.{Ranges.few-reversed, ReelViews.rowed}
use Rattle.look_back.proofs.views.reel_row.Goals as goal

pub returns-in_err-reel : goal.returns-in_err-reel
returns-in_err-reel c =
    let H = reverse c.args.entries.now in
    c.from_residual.ensures ∙ sym (ap (λ o. option_map columns_of (option_map (view_of H c.args.name.now) o)) c.in_err-reel.ensures)

pub returns : goal.returns
returns c =
    let H = reverse c.args.entries.now in
    let few = few-reversed c.args.entries.now c.requires.most in
    let stands = c.in_ok-reel.ensures in
    rowed H c.args.name.now c.in_ok-reel.reel c.received_of.result c.total.result c.total-2.result c.left_of.result stands.0 stands.1 c.received_of.ensures
    (c.total.ensures H c.requires.judged few c.requires.takes) (c.total-2.ensures H c.requires.judged few c.requires.takes) c.left_of.ensures
