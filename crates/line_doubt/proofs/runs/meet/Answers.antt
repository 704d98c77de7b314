use Rattle.desk_types.proofs.Common.{◌∙◌, ap, Name, Option, pair-changed, pair-written, Some, sym}
use Rattle.line_doubt.specs.declared.runs.Run.{Run}
use Rattle.line_doubt.specs.Runs.{is_close, longer, run_in}
use Rattle.line_doubt.proofs.runs.meet.Goals as goal

pub returns-clause-close : goal.returns-clause-close
returns-clause-close c =
    let p = c.args.spot.now in
    c.is_close-close.ensures ∙ ap (λ o. is_close c.args.within o p) c.run_in-run.ensures

pub returns-clause-runs : goal.returns-clause-runs
returns-clause-runs c = λ machine slot.
    let p = c.args.spot.now in
    let t = c.args.within in
    let runs = c.args.runs.now in
    let k : Name × Name = (p.machine, p.slot) in
    let new = c.longer-new.result in
    pair-written _ _ k (Some new) (λ (o : Option Run). o) c.in_ok-insert.ensures.updates.0 machine slot
    ∙ pair-changed c.run_in-run.result (Some new) (run_in runs) (λ o. Some (longer t o p)) k
    (sym c.run_in-run.ensures) (ap Some (sym c.longer-new.ensures)) machine slot
