use Rattle.desk_types.proofs.Common.{[], ◌∙◌, ◌≡◌, ap, arith, length, rules, subst, sym}
use Rattle.line_book.specs.{Guard.IsGuard, Rows.first_reading}
use Rattle.book_store.proofs.Until.{all_until, none_until}
use Rattle.line_file.proofs.lists.read_history.Goals as goal

pub returns-clause-ok : goal.returns-clause-ok
returns-clause-ok g c L stands =
    let counted : c.count-commands.result ≡ length L.history = c.count-commands.ensures L stands in
    let same : c.from.result ≡ c.count-commands.result = search rules in (
      c.new-reading.ensures ∙ ap first_reading (same ∙ counted),
      λ sound own.
          let start = subst (λ H. IsGuard H [] c.new-guard.result) (sym (none_until L.history)) c.new-guard.ensures in
          subst (λ H. IsGuard H [] c.advance.new.guard)
          (all_until L.history c.count-commands.result (omega (arith, counted)))
          (c.in_ok-advance.ensures.guard L stands sound.0 own (omega arith) (omega (arith, counted)) [] start),
    )
