use Rattle.desk_types.proofs.Common.{◌+◌, ◌∙◌, ap, length, List, subst}
use Rattle.line_tables.proofs.Common.{Database, state}
use Rattle.desk_types.specs.declared.row.PlacementRow.{PlacementRow}
use Rattle.line_replay.specs.Expected.{ArePlacedToo, HoldsAsRead}
use Rattle.line_replay.proofs.placed.look_up.Goals as goal

pub returns-clause-ok : goal.returns-clause-ok
returns-clause-ok g c =
    let same = c.as_slice-rows.ensures.value ∙ c.in_ok-placements.ensures in record {
      count = c.in_ok-count.ensures.ok ∙ ap (λ n. c.args.placed.now.count + n) (ap length same);
      told = λ clean.
          subst (λ (rows : List PlacementRow). HoldsAsRead (state g.S.Store c.args.conn.now) (λ (db : Database). ArePlacedToo db c.args.placed.now c.in_ok-found.found.all c.in_ok-found.found.end rows))
          same (c.in_ok-found.ensures.told clean);
    }
