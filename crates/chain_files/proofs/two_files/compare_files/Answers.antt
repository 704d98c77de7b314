use Rattle.std.proofs.Common.{◌≡◌, ◌∙◌, ◌∷◌, ◌++◌, [], ℕ, true, List, ap, arith, length, refl, subst}
use Rattle.sqlite_disk.specs.declared.Disk as disk
use Rattle.sqlite_disk.specs.declared.Files.{Files}
use Rattle.sqlite_wal.specs.Recovery.{Image}
use Rattle.desk_types.specs.History.{History}
use Rattle.feeder_state.specs.State.{IsState}
use Rattle.chain_files.specs.declared.chain.Taken.{Taken}
use Rattle.desk_laws.specs.Chain.{Carries}
use Rattle.chain_check.specs.Difference.{IsDifference, Refutes}
use Rattle.chain_check.specs.declared.question.Question.TheVariants.{Chain}
use Rattle.chain_files.specs.Compared.{HoldBoth, placed_both}
use Rattle.chain_files.specs.Files.{IsRefused, Takes, files_in}
use Rattle.chain_files.specs.Kept.{AddsKept, AreKept}
use Rattle.chain_files.proofs.KeptFiles.{more-kept, none-kept}
use Rattle.chain_files.proofs.two_files.compare_files.Goals as goal

module _ {D : Type 0} (g : disk.Ghosts D) (image : ℕ → Image) (closed first after : List (Files D))
    (one : Taken) (none : closed ≡ []) (takes : Takes g (image 0) Chain true closed first one) where
  first-alone : first ≡ takes.0 ∷ []
  first-alone = takes.1 ∙ ap (λ (fs : List (Files D)). fs ++ takes.0 ∷ []) none

  both-found : (two : Taken) (Relates : History → History → Type 0)
      → Takes g (image 1) Chain true first after two
      → ((H H' : History) → IsState H one.looked.whole → IsState H' two.looked.whole → Relates H H')
      → (old : Files D) × (new : Files D) × (after ≡ old ∷ new ∷ []) × HoldBoth g image old new Relates
  both-found two Relates takes' says = (
    takes.0,
    takes'.0,
    takes'.1 ∙ ap (λ (fs : List (Files D)). fs ++ takes'.0 ∷ []) first-alone,
    λ clean ours.
        let said = takes.2 clean ours in (
          said.0,
          said.1,
          λ clean' ours'.
              let said' = takes'.2 clean' ours' in
              (said'.0, said'.1, says said.0 said'.0 said.2.whole.state said'.2.whole.state),
        ),
  )

  new-refused : (fault : _) → IsRefused g (image 1) first after fault
      → (old : Files D) × IsRefused g (image 1) (old ∷ []) after fault
  new-refused fault refused =
      (takes.0, subst (λ (fs : List (Files D)). IsRefused g (image 1) fs after fault) first-alone refused)

-- Both files hold what they held.
first-kept : {D : Type 0} (g : disk.Ghosts D) {image : List ℕ → ℕ → Image} (old new : List ℕ)
    {opened opened' : List (List ℕ)} {closed first : List (Files D)} → closed ≡ []
    → AddsKept g (image old 0) old opened opened' closed first → AreKept g image (old ∷ new ∷ []) opened opened' first
first-kept g {image} old new {opened} {opened'} {closed} none one =
    let two : length (old ∷ new ∷ []) ≡ 2 = refl in
    more-kept g (old ∷ new ∷ []) opened 0 old refl refl (omega (arith, two)) (ap length none)
    (none-kept g image (old ∷ new ∷ []) opened closed none) one

both-kept : {D : Type 0} (g : disk.Ghosts D) {image held : List ℕ → ℕ → Image} (old new : List ℕ)
    {opened opened' opened'' : List (List ℕ)} {first after : List (Files D)} → length first ≡ 1
    → AreKept g image (old ∷ new ∷ []) opened opened' first → held ≡ image
    → AddsKept g (held new 1) new opened' opened'' first after
    → AreKept g image (old ∷ new ∷ []) opened opened'' after
both-kept g old new long kept same more =
    let two : length (old ∷ new ∷ []) ≡ 2 = refl in
    more-kept g (old ∷ new ∷ []) _ 1 new same refl (omega (arith, two)) long kept more

pub returns-in-Err-clause-found : goal.returns-in-Err-clause-found
returns-in-Err-clause-found g c =
    let image = g.O.Opener.image c.args.opener.now c.args.old.now 0 in
    let after = files_in c.look_at.new.closed in
    subst (λ (fs : List (Files _)). IsRefused g.O.File.Disk image fs after c.in-Err.fault) c.requires.none
    c.in-Err.ensures.refused

pub returns-in-Err-look_at-clause-found : goal.returns-in-Err-look_at-clause-found
returns-in-Err-look_at-clause-found g c =
    new-refused g.O.File.Disk (placed_both (g.O.Opener.image c.args.opener.now) c.args.old.now c.args.new.now)
    (files_in c.args.closed.now)
    (files_in c.look_at.new.closed) (files_in c.look_at-2.new.closed) c.in-Ok.first c.requires.none
    c.in-Ok.ensures.takes c.in-Err-look_at.fault
    (subst (λ (image : List ℕ → ℕ → Image). IsRefused g.O.File.Disk (image c.args.new.now 1) (files_in c.look_at.new.closed)
    (files_in c.look_at-2.new.closed) c.in-Err-look_at.fault)
    c.look_at.ensures.same c.in-Err-look_at.ensures.refused)

pub returns-in-Some-clause-found : goal.returns-in-Some-clause-found
returns-in-Some-clause-found g c =
    both-found g.O.File.Disk (placed_both (g.O.Opener.image c.args.opener.now) c.args.old.now c.args.new.now)
    (files_in c.args.closed.now)
    (files_in c.look_at.new.closed) (files_in c.look_at-2.new.closed) c.in-Ok.first c.requires.none
    c.in-Ok.ensures.takes
    c.in-Ok-look_at.second (λ H H'. IsDifference H H' c.in-Some.difference × Refutes H H' c.in-Some.difference)
    (subst (λ (image : List ℕ → ℕ → Image). Takes g.O.File.Disk (image c.args.new.now 1) Chain true (files_in c.look_at.new.closed) (files_in c.look_at-2.new.closed) c.in-Ok-look_at.second)
    c.look_at.ensures.same c.in-Ok-look_at.ensures.takes)
    (λ H H' old new. (c.in-Some.ensures.differs H H' old new, c.in-Some.ensures.refutes H H' old new))

pub returns-clause-found : goal.returns-clause-found
returns-clause-found g c =
    both-found g.O.File.Disk (placed_both (g.O.Opener.image c.args.opener.now) c.args.old.now c.args.new.now)
    (files_in c.args.closed.now)
    (files_in c.look_at.new.closed) (files_in c.look_at-2.new.closed) c.in-Ok.first c.requires.none
    c.in-Ok.ensures.takes
    c.in-Ok-look_at.second Carries (subst (λ (image : List ℕ → ℕ → Image). Takes g.O.File.Disk (image c.args.new.now 1) Chain true (files_in c.look_at.new.closed) (files_in c.look_at-2.new.closed) c.in-Ok-look_at.second)
    c.look_at.ensures.same c.in-Ok-look_at.ensures.takes)
    (λ H H' old new. c.in-None.ensures.carries H H' old new)

pub returns-in-Err-clause-kept : goal.returns-in-Err-clause-kept
returns-in-Err-clause-kept g c =
    first-kept g.O.File.Disk c.args.old.now c.args.new.now c.requires.none c.look_at.ensures.kept

pub returns-in-Err-look_at-clause-kept : goal.returns-in-Err-look_at-clause-kept
returns-in-Err-look_at-clause-kept g c =
    let image = placed_both (g.O.Opener.image c.args.opener.now) c.args.old.now c.args.new.now in
    let alone = first-alone g.O.File.Disk image (files_in c.args.closed.now) (files_in c.look_at.new.closed)
    (files_in c.look_at-2.new.closed) c.in-Ok.first c.requires.none c.in-Ok.ensures.takes in
    both-kept g.O.File.Disk c.args.old.now c.args.new.now (ap length alone)
    (first-kept g.O.File.Disk c.args.old.now c.args.new.now c.requires.none c.look_at.ensures.kept)
    c.look_at.ensures.same c.look_at-2.ensures.kept

pub returns-in-Some-clause-kept : goal.returns-in-Some-clause-kept
returns-in-Some-clause-kept g c =
    let image = placed_both (g.O.Opener.image c.args.opener.now) c.args.old.now c.args.new.now in
    let alone = first-alone g.O.File.Disk image (files_in c.args.closed.now) (files_in c.look_at.new.closed)
    (files_in c.look_at-2.new.closed) c.in-Ok.first c.requires.none c.in-Ok.ensures.takes in
    both-kept g.O.File.Disk c.args.old.now c.args.new.now (ap length alone)
    (first-kept g.O.File.Disk c.args.old.now c.args.new.now c.requires.none c.look_at.ensures.kept)
    c.look_at.ensures.same c.look_at-2.ensures.kept

pub returns-clause-kept : goal.returns-clause-kept
returns-clause-kept g c =
    let image = placed_both (g.O.Opener.image c.args.opener.now) c.args.old.now c.args.new.now in
    let alone = first-alone g.O.File.Disk image (files_in c.args.closed.now) (files_in c.look_at.new.closed)
    (files_in c.look_at-2.new.closed) c.in-Ok.first c.requires.none c.in-Ok.ensures.takes in
    both-kept g.O.File.Disk c.args.old.now c.args.new.now (ap length alone)
    (first-kept g.O.File.Disk c.args.old.now c.args.new.now c.requires.none c.look_at.ensures.kept)
    c.look_at.ensures.same c.look_at-2.ensures.kept
