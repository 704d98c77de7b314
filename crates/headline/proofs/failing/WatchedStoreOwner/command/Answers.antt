use Rattle.desk_types.proofs.Common.{refl}
use Rattle.headline.proofs.FailingDisks.{answer_so, step, watched_so}
use Rattle.headline.specs.Failing.{own_kept}
use Rattle.headline.proofs.failing.WatchedStoreOwner.command.Goals as goal

pub returns-clause-answer : goal.returns-clause-answer
returns-clause-answer g c = λ G watched clean.
    answer_so g.S.Store g.D.Desk.Stands c.args.self.now.store G c.args.stamped.now watched.0 _ (c.command.ensures.answers (own_kept G) watched.1.stands clean refl).is

pub returns-clause-stands : goal.returns-clause-stands
returns-clause-stands g c = λ G watched clean.
    let L = own_kept G in
    let s = c.args.stamped.now in
    watched_so g.S.Store g.D.Desk.Stands _ G s watched.0 _ (record {
      stands = (c.command.ensures.answers L watched.1.stands clean refl).stands;
      crash = λ still trees may.
          let told = c.command.ensures.answers L watched.1.stands still refl in
          step L s _ trees (λ before. watched.1.crash (c.command.ensures.file.clean still) trees before) _ told.is (told.crash trees may);
    })
