use Rattle.std.proofs.Common.{◌≡◌, ◌∙◌, ◌+◌, ◌++◌, ℕ, codes, append-nil, sym, subst, arith}
use Rattle.sqlite_trees.specs.declared.store.Store.{Ghosts}
use Rattle.sqlite.specs.State.{HasCleanDisk}
use Rattle.sqlite.specs.Held.{Held, state}
use Rattle.desk_types.specs.declared.command.Stamped.{Stamped}
use Rattle.desk_types.specs.declared.rules.Rules.{Rules}
use Rattle.desk_types.specs.History.{History}
use Rattle.line_tables.specs.Frames.{ReadsOnly}
use Rattle.line_tables.proofs.Frames.{reads_same, reads_then}
use Rattle.line_replay.proofs.ReadOfCommitted.{reads_back}
use Rattle.chain_stores.specs.Begin.{BegunSoFar, IsPlaceOf, ReadsMessage}
use Rattle.chain_stores.specs.First.{HoldsHistory}
use Rattle.chain_stores.proofs.BegunParts.{begun-all, begun-before-work, begun-more, begun-same, none-begun, so-far-none}
use Rattle.chain_stores.proofs.FirstMessage.{EntryRead, entry-read}
use Rattle.chain_stores.proofs.begin.begun_with.Goals.{in-Begin, in-Other}
use Rattle.chain_stores.proofs.begin.begun_with.Goals as goal

-- The entry whose message was read behind those that were looked at.
read-at : {S : Type 0} (g : Ghosts S) (first mid last : Held S) (rules : Rules) (greatest : ℕ) (G : History)
    (at begun : ℕ) (m : Stamped) → ReadsOnly g first mid → ReadsOnly g mid last
    → HoldsHistory rules (state g first) greatest G → HasCleanDisk (state g last)
    → ReadsMessage (HasCleanDisk (state g last)) (state g mid) (at + 1) m → (it : BegunSoFar G at begun)
    → EntryRead it.part G m
read-at g first mid last rules greatest G at begun m before after holds clean reads it =
    let After = HasCleanDisk (state g last) in
    let early : After → HasCleanDisk (state g mid) = λ clean. omega (arith, after.survives.clean, clean) in
    let back : ReadsMessage After (state g first) (at + 1) m = record {
      row = reads.row;
      says = reads.says;
      in_range = reads.in_range;
      found = λ clean. reads_back (state g first) (state g mid) _ (before.kept (early clean)) (reads.found clean);
    } in
    entry-read rules After (state g first) greatest it.part G m it.prefix holds clean
    (subst (λ (n : ℕ). ReadsMessage After (state g first) (n + 1) m) (sym it.counted) back)

pub returns-in_default-clause-begun : goal.returns-in_default-clause-begun
returns-in_default-clause-begun g c rules greatest G e holds count clean first uid =
    none-begun G e first (λ stem named. c.in_default.ensures stem (sym uid ∙ named))

pub loop-at-init : goal.loop-at-init
loop-at-init g c = record {
  bound = omega arith;
  reads = reads_same g.S.Store c.args.conn.now;
  so_far = λ rules greatest G e holds count clean first uid. so-far-none G (G, sym (append-nil G));
}

pub returns-in-Work-clause-begun : goal.returns-in-Work-clause-begun
returns-in-Work-clause-begun g c rules greatest G e holds count clean first uid =
    let was = c.loop-at.invariant in
    let told = c.in_ok-place_of.ensures.place in
    let early : HasCleanDisk (state g.S.Store c.loop-at.conn) =
    omega (arith, c.place_of.ensures.reads.survives.clean, clean) in
    let it = was.so_far rules greatest G e holds count early first uid in
    let read =
    read-at g.S.Store c.args.conn.now c.loop-at.conn c.place_of.new.conn rules greatest G c.loop-at.at
    c.loop-at.begun told.0 was.reads c.place_of.ensures.reads holds clean told.1 it in
    begun-before-work G c.loop-at.at c.loop-at.begun it told.0 read
    (subst (IsPlaceOf c.in-Some.stem.now (c.loop-at.at + 1) told.0) c.in-Work.is told.2)

pub loop-at-preserved : goal.loop-at-preserved
loop-at-preserved g c =
    let was = c.loop-at.invariant in
    let told = c.in_ok-place_of.ensures.place in
    let at = c.loop-at.at in
    let stem = c.in-Some.stem.now in
    record {
      bound = elim c.match-branch-2.branch [
        | in-Begin w ↦ omega (arith, w.begun-is)
        | in-Other w ↦ omega (arith, w.begun-is, was.bound)
      ];
      reads = reads_then g.S.Store c.args.conn.now c.loop-at.conn c.place_of.new.conn was.reads c.place_of.ensures.reads;
      so_far = λ rules greatest G e holds count clean first uid.
          let early : HasCleanDisk (state g.S.Store c.loop-at.conn) =
          omega (arith, c.place_of.ensures.reads.survives.clean, clean) in
          let it = was.so_far rules greatest G e holds count early first uid in
          let read =
          read-at g.S.Store c.args.conn.now c.loop-at.conn c.place_of.new.conn rules greatest G at c.loop-at.begun
          told.0 was.reads c.place_of.ensures.reads holds clean told.1 it in
          let named : e.stamped.uid ≡ stem ++ codes "1" = uid ∙ c.in-Some.ensures in
          elim c.match-branch-2.branch [
            | in-Begin w ↦ (
                let says = subst (IsPlaceOf stem (at + 1) told.0) w.in-Begin.is told.2 in
                subst (λ (n : ℕ). BegunSoFar G (at + 1) n) (sym w.begun-is)
                (begun-more G at c.loop-at.begun it told.0 read e first says.0 stem named says.1))
            | in-Other w ↦ (
                let says = subst (IsPlaceOf stem (at + 1) told.0) w.in-Other.is told.2 in
                subst (λ (n : ℕ). BegunSoFar G (at + 1) n) (sym w.begun-is)
                (begun-same G at c.loop-at.begun it told.0 read e first says.0 stem named says.1))
          ];
    }

pub returns-clause-begun : goal.returns-clause-begun
returns-clause-begun g c rules greatest G e holds count clean first uid =
    begun-all G c.loop-at.at c.loop-at.begun (omega (arith, c.loop-at-test.false, c.loop-at.auto.at-end, count))
    (c.loop-at.invariant.so_far rules greatest G e holds count clean first uid)
