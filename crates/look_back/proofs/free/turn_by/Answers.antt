use Rattle.desk_types.proofs.Common.{◌∙◌, reverse, sym}
use Rattle.judging.proofs.FreeReels.{unreceived-free, untold}
use Rattle.look_back.proofs.FreeReels.{not-free}
use Rattle.look_back.proofs.free.turn_by.Goals as goal

pub returns-in_err-said : goal.returns-in_err-said
returns-in_err-said c =
    let H = reverse c.args.entries.now in
    c.from_residual-in_err-said.ensures
    ∙ sym (not-free H c.args.part.now c.in_ok-reel.reel c.args.command.now (sym c.received_by.ensures ∙ c.in_ok-reel.was)
    (unreceived-free H c.args.part.now c.in_ok-reel.reel c.requires.judged (sym c.receipt.ensures ∙ c.in_err-said.was)))

pub returns-in_err-view : goal.returns-in_err-view
returns-in_err-view c =
    let H = reverse c.args.entries.now in
    c.from_residual-in_err-view.ensures
    ∙ sym (not-free H c.args.part.now c.in_ok-reel.reel c.args.command.now (sym c.received_by.ensures ∙ c.in_ok-reel.was)
    (unreceived-free H c.args.part.now c.in_ok-reel.reel c.requires.judged (untold H c.in_ok-reel.reel (sym c.reel_view.ensures ∙ c.in_err-view.was))))
