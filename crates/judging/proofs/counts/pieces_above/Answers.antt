use Rattle.desk_types.proofs.Common.{◌∙◌, ◌≡◌, ap, arith, false, is_above, is_mounted, is_none, left_of}
use Rattle.desk_types.proofs.Common.{receipt_of, subst, sym}
use Rattle.desk_types.specs.Row.{IsRowIfAny}
use Rattle.setup_sheets.proofs.SeenNames.{HasSeen-push, was-new}
use Rattle.judging.proofs.counts.pieces_above.Goals as goal

pub returns : goal.returns
returns g c = λ H before stands seen.
    let reel = c.args.row.now.reel in
    let row = subst (IsRowIfAny H reel) c.in-Some.is (c.reel_row.ensures H stands) in
    let known : is_none (receipt_of H reel) ≡ false = ap is_none row.is in
    let once = was-new c.args.seen.now before reel c.in_ok-is_added.field-0 seen c.in_ok-is_added.ensures.added c.if-not-branch.false in
    let mounted : is_mounted H reel ≡ false = sym (c.is_mounted.ensures H stands) ∙ c.if-is_mounted.false in
    let left : c.left_of-left.result ≡ left_of H reel = c.left_of-left.ensures H stands in
    let counted : c.get-counted.result ≡ c.args.row.now.quantity = c.get-counted.ensures.value in
    let above : is_above c.args.rules (left_of H reel) c.args.row.now.quantity ≡ false = rw (← left, ← counted) (sym c.is_above.ensures ∙ c.if-is_above.false) in (
      rw (known, once, mounted, above),
      omega (arith, left, counted),
      HasSeen-push c.args.seen.now c.is_added.new.set reel before seen c.in_ok-is_added.ensures.updates.0,
    )
