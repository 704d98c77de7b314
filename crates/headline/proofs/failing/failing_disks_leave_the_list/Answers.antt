use Rattle.desk_types.proofs.Common.{◌≡◌, inl, refl}
use Rattle.desk_laws.proofs.Common.{Two}
use Rattle.line_tables.proofs.Common.{HasCleanDisk}
use Rattle.headline.proofs.CallsInTurn.{goes_on}
use Rattle.headline.specs.{Failing.IsWatched, Failing.no_reports, Failing.own_kept, Runs.by_two}
use Rattle.line_schema.specs.Stands.{state_of}
use Rattle.headline.proofs.failing.failing_disks_leave_the_list.Goals as goal

pub returns : goal.returns
returns g c = record {
  list = λ calls greatest G stands on made clean.
      let store = g.S.Store in
      let after = goes_on no_reports (λ w L. (L.rules ≡ Two) × IsWatched store g.D.Desk.Stands w.store (own_kept L)) (λ w. HasCleanDisk (state_of store w.store)) calls c.args.first.now c.args.last.now made (by_two greatest G)
      (refl, record { stands = stands; crash = λ early trees may. inl (c.crash_leaves_the_list.ensures.list (own_kept (by_two greatest G)) stands early refl on trees may) }) clean in
      (after.0, after.2, after.1.1);
}
