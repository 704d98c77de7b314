use Rattle.desk_types.proofs.Common.{[], ◌∙◌, ◌≡◌, ap, front_at, map, now_of, rules, Some, sym, unwrap_or}
use Rattle.desk_types.specs.{Setup.sheet_on, declared.front.Front.Front}
use Rattle.setup_sheets.proofs.VerifiedStarts.{fronts-slots}
use Rattle.std.specs.Option.{option_copied}
use Rattle.judging.proofs.starts.check_slots.Goals as goal

pub verify-requires : goal.verify-requires
verify-requires g c =
    let H = c.requires.0.0 in
    let stands = c.requires.0.1 in
    let machine = c.args.machine.now in
    let sheet : sheet_on H machine ≡ Some c.in-Some.rows.now = sym (c.sheet_on.ensures H stands) ∙ ap option_copied c.in-Some.is in
    ap (map (λ (front : Front). front.slot)) (c.in_ok-fronts.ensures H stands ∙ ap (λ rows. map (front_at H (now_of H) machine) (unwrap_or rows [])) sheet)
    ∙ fronts-slots H (now_of H) machine c.in-Some.rows.now

pub returns : goal.returns
returns g c = let judged = g.met.F.Facts.is_judged c.args.facts.now in search rules
