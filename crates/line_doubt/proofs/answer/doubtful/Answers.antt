use Rattle.desk_types.proofs.Common.{◌∙◌, ap, IfOk-weaker, length}
use Rattle.line_book.specs.Doubt.{is_near_splice}
use Rattle.line_book.specs.Restored.{history_of}
use Rattle.line_doubt.specs.Late.{late_by}
use Rattle.line_doubt.specs.Sources.{boundary_by, unsettled_by}
use Rattle.line_doubt.proofs.Explaining.{explains}
use Rattle.line_doubt.proofs.Lists.{mapped-long}
use Rattle.line_doubt.proofs.Ordering.{pieces-within}
use Rattle.line_doubt.proofs.answer.doubtful.Goals as goal

pub explained-requires-clause-entries : goal.explained-requires-clause-entries
explained-requires-clause-entries c =
    ap length c.deref.ensures.value
    ∙ mapped-long (unsettled_by c.args.commands.now c.args.book.now) c.args.placed.now _ c.in_ok-entries.ensures

pub explained-requires-clause-boundaries : goal.explained-requires-clause-boundaries
explained-requires-clause-boundaries c =
    ap length c.deref-2.ensures.value
    ∙ mapped-long (boundary_by c.args.book.now) c.args.placed.now _ c.in_ok-boundaries.ensures

pub explained-requires-clause-late : goal.explained-requires-clause-late
explained-requires-clause-late c =
    ap length c.deref-3.ensures.value
    ∙ mapped-long (late_by c.args.commands.now) c.args.placed.now _ c.in_ok-late.ensures.numbers

pub explained-requires-clause-near : goal.explained-requires-clause-near
explained-requires-clause-near c = ap length c.deref-4.ensures.value ∙ c.in_ok-near.ensures.each

pub returns : goal.returns
returns c = λ whole.
    let commands = c.args.commands.now in
    let book = c.args.book.now in
    let placed = c.args.placed.now in
    let near = is_near_splice (history_of commands) c.args.within in
    IfOk-weaker c.explained.result _ _
    (λ found is. explains commands book c.args.within placed found.items c.in_ok-late.ensures.minutes
    (pieces-within (length commands) placed c.requires.placed) whole is)
    (c.explained.ensures (unsettled_by commands book) (boundary_by book) (late_by commands) near
    (c.deref.ensures.value ∙ c.in_ok-entries.ensures) (c.deref-2.ensures.value ∙ c.in_ok-boundaries.ensures)
    (c.deref-3.ensures.value ∙ c.in_ok-late.ensures.numbers)
    (c.deref-4.ensures.value ∙ c.in_ok-near.ensures.near whole))
