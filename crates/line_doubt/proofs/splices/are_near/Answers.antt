use Rattle.desk_types.proofs.Common.{[], ◌∙◌, ap, Bool, IfOk-weaker, length, length-map, list_any, map, placements_of, sym}
use Rattle.desk_types.specs.declared.placement.Placement.{Placement}
use Rattle.line_book.specs.Doubt.{is_near}
use Rattle.line_book.specs.Restored.{history_of}
use Rattle.line_doubt.specs.declared.runs.Spot.{Spot}
use Rattle.line_doubt.specs.Runs.{spot_from_end, spot_of}
use Rattle.line_doubt.specs.Sources.{restarted_by}
use Rattle.line_doubt.proofs.Lists.{any-or}
use Rattle.line_doubt.proofs.Passed.{behind-long, flags-long, flags-reversed}
use Rattle.line_doubt.proofs.Tapes.{first-are, last-are}
use Rattle.line_doubt.proofs.splices.are_near.Goals as goal

pub are_last-requires : goal.are_last-requires
are_last-requires c =
    ap length (c.deref.ensures.value ∙ c.in_ok-restarted.ensures)
    ∙ length-map c.args.placed.now (restarted_by c.args.commands.now)

pub are_first-requires : goal.are_first-requires
are_first-requires c =
    ap length (c.deref-2.ensures.value ∙ c.in_ok-restarted.ensures)
    ∙ length-map c.args.placed.now (restarted_by c.args.commands.now)

pub either-requires : goal.either-requires
either-requires c =
    let commands = c.args.commands.now in
    let placed = c.args.placed.now in
    let restarted = restarted_by commands in
    let back : Placement → Spot = λ p. spot_from_end (length commands) p (restarted p) in
    let fore : Placement → Spot = λ p. spot_of p (restarted p) in
    ap length (c.deref-3.ensures.value
    ∙ c.in_ok-last.ensures restarted (c.deref.ensures.value ∙ c.in_ok-restarted.ensures)
    ∙ flags-reversed c.args.within (map back placed))
    ∙ behind-long c.args.within (map back placed) ∙ length-map placed back
    ∙ sym (ap length (c.deref-4.ensures.value
    ∙ c.in_ok-first.ensures restarted (c.deref-2.ensures.value ∙ c.in_ok-restarted.ensures))
    ∙ flags-long c.args.within [] (map fore placed) ∙ length-map placed fore)

pub returns-clause-each : goal.returns-clause-each
returns-clause-each c =
    let commands = c.args.commands.now in
    let placed = c.args.placed.now in
    let restarted = restarted_by commands in
    let back : Placement → Spot = λ p. spot_from_end (length commands) p (restarted p) in
    IfOk-weaker c.either.result _ _
    (λ found is. is ∙ ap length (c.deref-3.ensures.value
    ∙ c.in_ok-last.ensures restarted (c.deref.ensures.value ∙ c.in_ok-restarted.ensures)
    ∙ flags-reversed c.args.within (map back placed))
    ∙ behind-long c.args.within (map back placed) ∙ length-map placed back)
    c.either.ensures.each

pub returns-clause-near : goal.returns-clause-near
returns-clause-near c = λ whole.
    let commands = c.args.commands.now in
    let placed = c.args.placed.now in
    let t = c.args.within in
    let H = history_of commands in
    let restarted = restarted_by commands in
    let last : Placement → Bool = λ p. list_any (λ q. is_near H t p q) (placements_of H) in
    let first : Placement → Bool = λ p. list_any (λ q. is_near H t q p) (placements_of H) in
    IfOk-weaker c.either.result _ _
    (λ found is. is ∙ ap (λ test. map test placed)
    (λ j p. sym (any-or (λ q. is_near H t p q) (λ q. is_near H t q p) (placements_of H)) j))
    (c.either.ensures.flags last first placed
    (c.deref-3.ensures.value
    ∙ c.in_ok-last.ensures restarted (c.deref.ensures.value ∙ c.in_ok-restarted.ensures)
    ∙ last-are commands t placed whole)
    (c.deref-4.ensures.value
    ∙ c.in_ok-first.ensures restarted (c.deref-2.ensures.value ∙ c.in_ok-restarted.ensures)
    ∙ first-are commands t placed whole))
