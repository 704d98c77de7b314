use Rattle.desk_types.proofs.Common.{◌∙◌, AllByRecursion, ap, map, subst, sym, take_of}
use Rattle.desk_laws.proofs.Common.{Pick}
use Rattle.judging.{proofs.PicksOfCommands.picks-known, specs.Facts.IsKnownReel}
use Rattle.judging.proofs.judging.takes_by.Goals as goal

pub takes_for-requires-clause-known : goal.takes_for-requires-clause-known
takes_for-requires-clause-known g c = λ H stands.
    subst (AllByRecursion (λ (p : Pick). IsKnownReel H p.reel)) (sym (c.requires.are H stands)) (picks-known H c.args.command.now (g.met.F.Facts.is_judged c.args.facts.now H stands))

pub returns : goal.returns
returns g c = λ H stands. c.in_ok-takes_for.ensures H stands ∙ ap (map (take_of H c.args.minute)) (c.requires.are H stands)
