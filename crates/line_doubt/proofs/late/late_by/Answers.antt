use Rattle.desk_types.proofs.Common.{◌-◌, ◌<◌, ◌∙◌, ◌≡◌, ◌≤◌, All, ap, arith, length, length-map, map, Option, subst, ℕ}
use Rattle.std.proofs.lemmas.List.Elements.{All-weaker}
use Rattle.desk_types.specs.declared.command.Stamped.{Stamped}
use Rattle.desk_types.specs.declared.limits.TheConstants.{GREATEST_MINUTE}
use Rattle.desk_types.specs.declared.placement.Placement.{Placement}
use Rattle.line_doubt.specs.Late.{ask_from_end, handled_from_end, handled_marks, minutes_of, own_minute}
use Rattle.line_doubt.specs.Marks.{best_before, number_above}
use Rattle.line_doubt.specs.Sources.{ask_of}
use Rattle.line_doubt.proofs.Lists.{always}
use Rattle.line_doubt.proofs.Ordering.{asks-rise, pieces-within}
use Rattle.line_doubt.proofs.late.late_by.Goals as goal

pub own_minutes-requires : goal.own_minutes-requires
own_minutes-requires c =
    let commands = c.args.commands.now in
    let long : length c.deref.result.now ≡ length commands =
    ap length (c.deref.ensures.value ∙ c.in_ok-all.ensures.value)
    ∙ length-map commands (λ (s : Stamped). s.minute) in
    All-weaker (λ (p : Placement). (0 < p.number) × (p.number ≤ length commands))
    (λ (p : Placement). (0 < p.number) × (p.number ≤ length c.deref.result.now))
    (λ p is. let below = is.1 in (is.0, omega (arith, below, long))) c.args.placed.now
    (pieces-within (length commands) c.args.placed.now c.requires)

pub swapped_behind-requires-clause-order : goal.swapped_behind-requires-clause-order
swapped_behind-requires-clause-order c = asks-rise (length c.args.commands.now) c.args.placed.now c.requires

pub swapped_before-requires-clause-order : goal.swapped_before-requires-clause-order
swapped_before-requires-clause-order c = asks-rise (length c.args.commands.now) c.args.placed.now c.requires

pub returns-clause-numbers : goal.returns-clause-numbers
returns-clause-numbers c =
    let commands = c.args.commands.now in
    let placed = c.args.placed.now in
    let many = length commands in
    let own = own_minute (minutes_of commands) in
    let behind : Placement → Option ℕ =
    λ p. number_above (best_before (handled_from_end commands) (ask_from_end many p)) (GREATEST_MINUTE - own p) in
    let before : Placement → Option ℕ = λ p. number_above (best_before (handled_marks commands) (ask_of p)) (own p) in
    let are : c.in_ok-minutes.minutes.items ≡ map own placed = c.in_ok-minutes.ensures
    ∙ ap (λ m. map (own_minute m) placed) (c.deref.ensures.value ∙ c.in_ok-all.ensures.value) in
    c.first_of.ensures behind before placed
    (c.deref-4.ensures.value ∙ c.in_ok-behind.ensures own (c.deref-2.ensures.value ∙ are))
    (c.deref-5.ensures.value ∙ c.in_ok-before.ensures own (c.deref-3.ensures.value ∙ are))

pub returns-clause-minutes : goal.returns-clause-minutes
returns-clause-minutes c =
    let Fits : ℕ → Type 0 = λ m. m ≤ GREATEST_MINUTE in
    let fit = subst (All Fits) c.in_ok-all.ensures.value c.in_ok-all.ensures.range in
    always c.first_of.result fit
