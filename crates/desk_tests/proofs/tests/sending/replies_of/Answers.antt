use Rattle.desk_types.proofs.Common.{[], ◌+◌, ◌∷◌, ◌≤◌, accept, after_command, after_commands, arith, History, length, List}
use Rattle.desk_types.proofs.Common.{None, Option, option_map_or, refusal_of, Some}
use Rattle.desk_laws.proofs.Common.{Refusal, Stamped}
use Rattle.desk_types.specs.declared.rules.Rules.{Rules}
use Rattle.desk_tests.proofs.tests.sending.replies_of.Goals as goal

many-more : (rules : Rules) (H : History) (ms : List Stamped)
    → length (after_commands rules H ms) ≤ length H + length ms
many-more rules H [] = omega arith
many-more rules H (s ∷ ms) =
    let one = one-more (refusal_of rules H s) in
    let rest = many-more rules (after_command rules H s) ms in
    omega (arith, one, rest)
  where
    one-more : (r : Option Refusal) → length (option_map_or (λ _. H) r (accept H s)) ≤ length H + 1
    one-more None = omega arith
    one-more (Some r) = omega arith

pub returns : goal.returns
returns g c =
    let B = c.requires.0 in
    let ms = c.args.messages.now in
    let more = many-more B.rules B.history ms in
    let room = c.requires.2 in (
      record B { history = after_commands B.rules B.history ms },
      c.in_ok-replies.ensures.stands B c.requires.1,
      omega (arith, more, room),
    )
