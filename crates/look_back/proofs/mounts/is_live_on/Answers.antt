use Rattle.desk_types.proofs.Common.{◌&&◌, ◌∙◌, ◌≡◌, ap, arith, false, left_of, list_any, lt-ltb, nat_lt}
use Rattle.desk_types.proofs.Common.{reverse, same, sym, tape_of, true}
use Rattle.desk_laws.proofs.Mounts.{has-live_on}
use Rattle.judging.proofs.Reels.{spent}
use Rattle.look_back.proofs.mounts.is_live_on.Goals as goal

pub returns-then-left_of-gt0 : goal.returns-then-left_of-gt0
returns-then-left_of-gt0 c =
    let H = reverse c.args.entries.now in
    let reel = c.args.reel.now in
    let on = list_any (same reel) (tape_of H c.args.machine.now c.args.slot.now) in
    let some : nat_lt 0 (left_of H reel) ≡ true = ap (nat_lt 0) (sym c.left_of.ensures) ∙ lt-ltb 0 c.left_of.result c.if-left_of-gt0.true in
    c.is_on_tape.ensures ∙ sym (ap (λ b. b && on) some) ∙ sym (has-live_on H c.args.machine.now c.args.slot.now reel)

pub returns-else-left_of-gt0 : goal.returns-else-left_of-gt0
returns-else-left_of-gt0 c =
    let H = reverse c.args.entries.now in
    let reel = c.args.reel.now in
    let on = list_any (same reel) (tape_of H c.args.machine.now c.args.slot.now) in
    let none : nat_lt 0 (left_of H reel) ≡ false = spent (left_of H reel) c.left_of.result c.left_of.ensures (omega (arith, c.if-left_of-gt0.false)) in
    ap (nat_lt 0) c.left_of.ensures ∙ none ∙ sym (ap (λ b. b && on) none) ∙ sym (has-live_on H c.args.machine.now c.args.slot.now reel)
