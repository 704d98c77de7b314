use Rattle.desk_types.proofs.Common.{[], ◌++◌, ◌∙◌, ◌∷◌, ap, append_assoc, arith, map, subst, sym, take}
use Rattle.desk_laws.proofs.Common.{ReelView}
use Rattle.setup_sheets.{proofs.SeenNames.HasSeen-push, specs.Names.HasSeen}
use Rattle.trace_reports.{proofs.KitRows.pieces-next, proofs.KitRows.read-next, specs.Kit.reel_row}
use Rattle.trace_reports.proofs.kit.put_rows.Goals as goal

pub loop-reel-preserved : goal.loop-reel-preserved
loop-reel-preserved c =
    let reels = c.args.reels.now in
    let i = c.loop-reel.reel-index in
    let reel = c.reel-item.result in
    let inside = c.loop-reel-test.true in
    let is = c.reel-item.is in
    let before = map (λ (r : ReelView). r.reel) (take i reels) in
    let row = reel_row c.args.row.now c.args.needed in
    let more = pieces-next reels i reel inside is in
    record {
      given = λ names has.
          subst (HasSeen c.insert.new.self) (append_assoc names before (reel.reel ∷ []) ∙ ap (λ l. names ++ l) (sym (read-next (λ (r : ReelView). r.reel) reels i reel inside is)))
          (HasSeen-push c.loop-reel.given c.insert.new.self reel.reel (names ++ before) (c.loop-reel.invariant.given names has) c.in_ok-insert.ensures.updates.0);
      rows = c.in_ok-push.ensures.items
          ∙ ap (λ l. l ++ row reel ∷ []) c.loop-reel.invariant.rows
          ∙ append_assoc c.args.kit.now.items (map row (take i reels)) (row reel ∷ [])
          ∙ ap (λ l. c.args.kit.now.items ++ l) (sym (read-next row reels i reel inside is));
      missing = omega (arith, c.saturating_sub-missing.ensures, c.loop-reel.invariant.missing, more);
    }
