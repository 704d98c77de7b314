use Rattle.desk_types.proofs.Common.{refl}
use Rattle.desk_commands.{proofs.EndsOfRuns.feed_follows, proofs.EndsOfRuns.feed_refused, specs.Runs.fresh}
use Rattle.desk_file.proofs.Truth.{stays_clean}
use Rattle.desk_commands.proofs.exchange.feed_in_memory.Goals as goal

pub returns-in-Ok-clause-ends : goal.returns-in-Ok-clause-ends
returns-in-Ok-clause-ends g c =
    let fed = c.feed_lines-status in
    feed_follows fed.ensures.ends
    (λ Fact goes.
    let lists = goes (fresh c.args.greatest) (refl, c.in-Ok.ensures.stands) (stays_clean fed.new.owner.conn) in
    (lists.0, lists.1.1.consistent, lists.2))
    (λ none. absurd none)

pub returns-in-Err-clause-ends : goal.returns-in-Err-clause-ends
returns-in-Err-clause-ends g c = feed_refused c.unavailable.ensures.status c.unavailable.ensures.told
