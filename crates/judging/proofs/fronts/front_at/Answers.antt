use Rattle.desk_types.proofs.Common.{◌∙◌, ap, is_some, sym}
use Rattle.desk_laws.proofs.Mounts.{front-received}
use Rattle.judging.proofs.fronts.front_at.Goals as goal

pub returns-in_err-row : goal.returns-in_err-row
returns-in_err-row g c = λ H stands.
    let front = sym (c.front.ensures H stands) ∙ c.in_ok-name.was in
    let received = front-received H c.args.machine.now c.args.slot.now c.in_ok-name.name (g.met.F.Facts.is_judged c.args.facts.now H stands) front in
    let none = ap is_some (c.in_err-row.ensures H stands) in
    cc
