use Rattle.desk_types.proofs.Common.{ap₂, Bool, cond, inl, inr, IfOk-weaker, List, subst₂, ℕ}
use Rattle.sqlite_disk.specs.Events.{Event, replay}
use Rattle.sqlite_disk.specs.History.{MayLeave}
use Rattle.sqlite_wal.specs.Recovery.{Image}
use Rattle.desk_file.proofs.path.open_at.Goals as goal

abbrev image : List ℕ → List ℕ → Image
image log db = record { log = log; db = db }

abbrev seen : List ℕ → List ℕ → Bool → List Event → List ℕ
seen log db is_log history = (replay (cond is_log log db) history).seen

abbrev May : Bool → List ℕ → List ℕ → List ℕ → Bool → List Event → Type 0
May mixes log db c is_log history =
    let m = replay (cond is_log log db) history in
    MayLeave mixes m.seen m.synced m.steps c

pub returns-clause-fresh : goal.returns-clause-fresh
returns-clause-fresh g c =
    let log = g.T.Start.log in
    let db = g.T.Start.db in
    let mixes = g.T.Start.is_mixing in
    IfOk-weaker c.open.result _ _ (λ files fresh. record {
      held = ap₂ image (ap₂ (seen log db) fresh.0.0 fresh.0.1) (ap₂ (seen log db) fresh.1.0 fresh.1.1);
      settled = λ left out. ap₂ image
          (elim (subst₂ (May mixes log db left.log) fresh.0.0 fresh.0.1 out.0) [ inl is ↦ is | inr is ↦ is ])
          (elim (subst₂ (May mixes log db left.db) fresh.1.0 fresh.1.1 out.1) [ inl is ↦ is | inr is ↦ is ]);
    }) c.open.ensures.fresh
