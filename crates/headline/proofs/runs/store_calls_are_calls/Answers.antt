use Rattle.headline.proofs.runs.store_calls_are_calls.Goals as goal

pub returns : goal.returns
returns g c = λ calls made. made
