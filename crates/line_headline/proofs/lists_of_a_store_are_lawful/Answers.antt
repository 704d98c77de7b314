use Rattle.line_headline.proofs.lists_of_a_store_are_lawful.Goals as goal

pub returns : goal.returns
returns g c L is = record { judged = is.both.stands.judged; read = (c.args.store.now.reading, is.read) }
