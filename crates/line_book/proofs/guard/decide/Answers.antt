use Rattle.desk_types.proofs.Common.{not, rules}
use Rattle.std.proofs.lemmas.Fn.{filter_same}
use Rattle.line_book.specs.declared.note.Note.{Note}
use Rattle.line_book.specs.Book.{decides}
use Rattle.line_book.proofs.guard.decide.Goals as goal

pub returns : goal.returns
returns c = filter_same _ (λ (n : Note). not (decides n.number c.args.decision.now.matter)) _
    (λ n b f' h. search (rules, h)) _ _ c.retain.ensures.filtered
