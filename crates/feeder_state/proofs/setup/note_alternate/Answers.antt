use Rattle.desk_types.proofs.Common.{◌||◌, ◌∙◌, ap, sym}
use Rattle.desk_types.specs.Setup.{allows}
use Rattle.feeder_state.specs.Sets.{is_name_at}
use Rattle.feeder_state.proofs.setup.note_alternate.Goals as goal

pub returns-in_ok-put_name : goal.returns-in_ok-put_name
returns-in_ok-put_name c = λ p q.
    c.in_ok-put_name.ensures p q ∙ ap (λ command. allows p q command || is_name_at c.args.alternates.now p q) (sym c.in-AlternateAllowed.is)
