use Rattle.desk_types.proofs.Common.{[], ◌-◌, ◌^◌, ◌∙◌, ◌∷◌, ap, left_of, min, reverse, sym}
use Rattle.look_back.proofs.ReelsLater.{Going, going-back, going-first, going-none, going-told, reverse-last}
use Rattle.look_back.proofs.ReelsLater.{reverse-none, takes-there}
use Rattle.look_back.specs.Kept.{pieces_taken}
use Rattle.look_back.proofs.pieces.left_of.Goals as goal

pub loop-entry-init : goal.loop-entry-init
loop-entry-init c = going-first _ _ _ c.requires

pub returns-in-Some-told_by : goal.returns-in-Some-told_by
returns-in-Some-told_by c =
    let H = reverse c.in-Some.before.now in
    let e = c.in-Some.entry.now in
    let last = reverse-last c.loop-entry.rest.now c.in-Some.before.now e c.in-Some.ensures.cases.0 in
    let whole = left_of (reverse c.args.entries.now) c.args.reel.now in
    let kept = reverse c.loop-entry.kept.now in
    let going : Going (e ∷ H) kept c.loop-entry.gone whole c.args.reel.now = rw last at c.loop-entry.invariant in
    c.saturating_sub.ensures ∙ going-told H e kept c.loop-entry.gone whole c.in-Some-told_by.pieces c.args.reel.now going
    (sym c.told_by.ensures.value ∙ c.in-Some-told_by.is) c.in-Some-told_by.ensures.range

pub loop-entry-preserved : goal.loop-entry-preserved
loop-entry-preserved c =
    let H = reverse c.in-Some.before.now in
    let e = c.in-Some.entry.now in
    let last = reverse-last c.loop-entry.rest.now c.in-Some.before.now e c.in-Some.ensures.cases.0 in
    let none = reverse-none c.loop-entry.kept.now c.in_default-split_last.ensures.cases in
    let going : Going (e ∷ H) [] c.loop-entry.gone (left_of (reverse c.args.entries.now) c.args.reel.now) c.args.reel.now = rw none at (rw last at c.loop-entry.invariant) in
    absurd (takes-there H e going.takes)

pub loop-entry-preserved-in-Some-split_last : goal.loop-entry-preserved-in-Some-split_last
loop-entry-preserved-in-Some-split_last c =
    let H = reverse c.in-Some.before.now in
    let e = c.in-Some.entry.now in
    let last = reverse-last c.loop-entry.rest.now c.in-Some.before.now e c.in-Some.ensures.cases.0 in
    let takes = c.in-Some-split_last.last.now in
    let kept = reverse c.in-Some-split_last.earlier.now in
    let kept_last = reverse-last c.loop-entry.kept.now c.in-Some-split_last.earlier.now takes c.in-Some-split_last.ensures.cases.0 in
    let whole = left_of (reverse c.args.entries.now) c.args.reel.now in
    let going : Going (e ∷ H) (takes ∷ kept) c.loop-entry.gone whole c.args.reel.now = rw kept_last at (rw last at c.loop-entry.invariant) in
    going-back H e takes kept c.loop-entry.gone c.pieces_taken.result c.saturating_add-gone.result whole c.args.reel.now going
    (sym c.told_by.ensures.value ∙ c.in_default-told_by.is) (c.pieces_taken.ensures ∙ ap (λ ts. min (pieces_taken ts c.args.reel.now) (2 ^ 64 - 1)) c.as_slice.ensures) c.saturating_add-gone.ensures

pub returns : goal.returns
returns c =
    let none = reverse-none c.loop-entry.rest.now c.in_default.ensures.cases in
    going-none (reverse c.loop-entry.kept.now) c.loop-entry.gone (left_of (reverse c.args.entries.now) c.args.reel.now) c.args.reel.now (rw none at c.loop-entry.invariant)
