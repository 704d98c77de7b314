use Rattle.desk_types.proofs.Common.{◌∙◌, ap, change_of, effective_minute, option_map_or}
use Rattle.desk_laws.proofs.Common.{Accepted, accepted-by-two, Refused}
use Rattle.desk_laws.proofs.{Accepted.command-accepted, Installs.named-once, WholeInstalls.install-told}
use Rattle.desk_laws.proofs.{WholeInstalls.install-whole}
use Rattle.desk_laws.proofs.placements.installs_are_whole.Goals as goal

pub returns-clause-spots : goal.returns-clause-spots
returns-clause-spots c = λ rules H s machine board designators none is.
    let whole = install-whole H s machine board designators (accepted-by-two rules H s none) is in
    (whole.0, whole.1, whole.2)

pub returns-clause-told : goal.returns-clause-told
returns-clause-told c = λ rules H s machine board designators more none is placed.
    ap (λ refusal. option_map_or Refused refusal (Accepted (change_of H s).detail)) none
    ∙ ap (λ detail. Accepted detail)
    (install-told H s machine board designators more (effective_minute H s.minute) (accepted-by-two rules H s none) is placed)

pub returns-clause-once : goal.returns-clause-once
returns-clause-once c = λ rules H s machine board designators none.
    named-once H (effective_minute H s.minute) s.command machine board designators (command-accepted H s (accepted-by-two rules H s none))
