use Rattle.desk_types.proofs.Common.{◌∙◌, ◌≡◌, ap, None, Some, sym}
use Rattle.desk_laws.proofs.Common.{judged-by-two}
use Rattle.setup_sheets.proofs.VerifiedStarts.{first-told, refusal_in}
use Rattle.setup_sheets.specs.Verification.{first_fault}
use Rattle.setup_sheets.proofs.verification.verify.Goals as goal

pub returns-in-Some-clause-slots_at_fault : goal.returns-in-Some-clause-slots_at_fault
returns-in-Some-clause-slots_at_fault c = λ rules H machine judged le are fronts.
    let found : first_fault c.args.alternates.now c.args.at c.args.rows.now c.args.fronts.now ≡ Some c.in-Some.fault = cc in
    sym (first-told H c.args.alternates.now c.args.at machine c.args.rows.now (judged-by-two rules H judged) le are)
    ∙ ap refusal_in (ap (first_fault c.args.alternates.now c.args.at c.args.rows.now) (sym fronts) ∙ found)

pub returns-in-None-clause-slots_ready : goal.returns-in-None-clause-slots_ready
returns-in-None-clause-slots_ready c = λ rules H machine judged le are fronts.
    let found : first_fault c.args.alternates.now c.args.at c.args.rows.now c.args.fronts.now ≡ None = cc in
    sym (first-told H c.args.alternates.now c.args.at machine c.args.rows.now (judged-by-two rules H judged) le are)
    ∙ ap refusal_in (ap (first_fault c.args.alternates.now c.args.at c.args.rows.now) (sym fronts) ∙ found)
