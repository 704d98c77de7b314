use Rattle.desk_types.proofs.Common.{◌++◌, ◌∙◌, ap, flat_map, front_at, map, now_of, sym}
use Rattle.desk_types.specs.Refusals.{slots_of_rows}
use Rattle.setup_sheets.proofs.VerifiedStarts.{fronts-slots}
use Rattle.setup_sheets.specs.Verification.{slots_of_fronts}
use Rattle.line_book.specs.Causes.{setup_causes, slot_causes}
use Rattle.line_book.proofs.Setups.{fronts-told, no-minute}
use Rattle.line_book.proofs.setup.Setup.add_causes.Goals as goal

pub returns-in_default-minute : goal.returns-in_default-minute
returns-in_default-minute g c = λ S B stands keeps on.
    absurd (no-minute S.history c.args.machine.now c.in-Some.rows (sym (c.minute.ensures S stands)
    ∙ c.in_default-minute.is)
    (sym on ∙ c.in-Some.is))

pub add_slots-requires : goal.add_slots-requires
add_slots-requires g c =
    let S = c.requires.0 in
    let on = sym c.requires.2 ∙ c.in-Some.is in
    ap slots_of_fronts (c.as_slice-2.ensures ∙ fronts-told S.history c.args.machine.now c.in-Some.rows
    c.in_ok-fronts.fronts on
    (c.in_ok-fronts.ensures S c.requires.1))
    ∙ fronts-slots S.history (now_of S.history) c.args.machine.now c.in-Some.rows
    ∙ sym (ap slots_of_rows c.as_slice.ensures.value)

pub returns : goal.returns
returns g c = λ S B stands keeps on.
    let H = S.history in
    let machine = c.args.machine.now in
    let old = c.args.found.now.items in
    let at = sym (c.minute.ensures S stands) ∙ c.in-Some-minute.is in
    let are = c.as_slice-2.ensures ∙ fronts-told H machine c.in-Some.rows c.in_ok-fronts.fronts (sym on
    ∙ c.in-Some.is)
    (c.in_ok-fronts.ensures S stands) in
    c.in_ok-add_slots.ensures S B machine stands keeps at
    (are ∙ sym (ap (map (front_at H (now_of H) machine)) c.as_slice.ensures.value))
    ∙ ap (λ rows. old ++ flat_map (slot_causes H B machine) rows) c.as_slice.ensures.value
    ∙ ap (λ sheet. old ++ setup_causes H B machine sheet) (sym c.in-Some.is)
