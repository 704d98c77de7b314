use Rattle.desk_types.proofs.Common.{◌∙◌, ap, change_of, option_map_or, sym}
use Rattle.desk_laws.proofs.Common.{Accepted, accepted-by-two, judged-by-two, Refused}
use Rattle.desk_types.specs.declared.rules.Rules.TheVariants.{One}
use Rattle.desk_laws.proofs.runs.accepted_under_both.Goals as goal

pub returns-clause-answers : goal.returns-clause-answers
returns-clause-answers c = λ H s none. ap (λ refusal. option_map_or Refused refusal (Accepted (change_of H s).detail)) (accepted-by-two One H s none ∙ sym none)

pub returns-clause-lawful : goal.returns-clause-lawful
returns-clause-lawful c = λ greatest H lawful. record { judged = judged-by-two One H lawful.judged; uids = lawful.uids; numbers = lawful.numbers }
