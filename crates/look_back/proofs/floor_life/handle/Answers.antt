use Rattle.desk_types.proofs.Common.{◌∙◌, ◌≡◌, false, open_by, refl, Some, sym}
use Rattle.look_back.proofs.HandledReels.{sealed}
use Rattle.look_back.proofs.floor_life.handle.Goals as goal

pub returns-in-Some-false-2-clause-stands : goal.returns-in-Some-false-2-clause-stands
returns-in-Some-false-2-clause-stands c H judged stands =
    let result = sym c.open_by.ensures in
    let known = c.in-Some-false-2.is in
    let field = c.in-Some-false-2.field-0-is in
    let says : open_by c.args.name.now c.args.entry.now.stamped.command ≡ Some false = cc in
    let command = sealed H c.args.entry.now c.args.name.now stands.receipt.receipt judged.0 stands.receipt.is says (sym c.is_bake.ensures ∙ c.if-is_bake.false) in
    c.seal.ensures.stands H c.args.name.now c.args.entry.now stands command refl
