use Rattle.headline.proofs.failing.WatchedStoreOwner.is_lawful.Goals as goal

pub returns : goal.returns
returns g c = λ G watched clean. c.is_lawful.ensures G (watched.0, watched.1.stands) clean
