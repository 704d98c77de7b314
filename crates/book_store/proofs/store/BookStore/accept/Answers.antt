use Rattle.desk_types.proofs.Common.{◌++◌, ◌∙◌, ◌≡◌, accept, err_from_is_err_and, IfSome, inl, inr, length}
use Rattle.desk_types.proofs.Common.{refl, rules, subst, sym}
use Rattle.desk_types.specs.declared.answer.Reply.TheVariants as reply
use Rattle.desk_answers.specs.Commands.{judged_answer}
use Rattle.line_book.specs.Guard.{IsGuard}
use Rattle.line_book_store.proofs.ReadEntries.{read-numbers}
use Rattle.line_schema.specs.{Stands.with_command}
use Rattle.book_store.proofs.Accepting.{all_next, go_on, refuses_still, stands_both}
use Rattle.book_store.proofs.Cleaning.{clean_still}
use Rattle.book_store.proofs.Ending.{ends_told}
use Rattle.book_store.specs.Accepted.{AreNextNotes, ArePlacedAt, KeepsCommand, RefusesRows, with_both}
use Rattle.book_store.proofs.store.BookStore.accept.Goals as goal

pub returns-clause-accepted : goal.returns-clause-accepted
returns-clause-accepted g c L was clean own first =
    let old = c.args.self.now in
    let change = c.args.change in
    let rows = c.args.rows.now in
    let s = change.stamped in
    let H = L.kept.history in
    let notes = c.in_ok-notes.notes.items in
    let after = c.read_all.new.reading in
    let are = subst (λ k. ArePlacedAt old.reading k rows notes after) (c.count.ensures L.kept was.both.stands)
    c.in_ok-notes.ensures.read in
    let on = go_on g.S.Store g.D.Desk.Stands old L was rows notes after are in
    let commits = c.in_ok-answer.ensures.commits L.kept L.rows was.both on in
    let both = commits.ok (λ _ _. first) in
    let told : c.in_ok-stamped.stamped ≡ s = c.in_ok-stamped.ensures.cases ∙ c.stamped.ensures in
    let next = subst (AreNextNotes H L.notes) (sym c.as_slice.ensures.value)
    (all_next g.S.Store g.D.Desk.Stands old L was rows notes after are) in
    let took = subst (λ ns. IfSome c.take_all.new.guard (IsGuard H (L.notes ++ ns))) c.as_slice.ensures.value
    (c.take_all.ensures H L.notes was.guard next) in
    let guard = subst (λ t. IfSome c.take_command.new.guard (IsGuard (accept H t) (L.notes ++ notes))) told
    (c.take_command.ensures H (L.notes ++ notes) took) in
    let same : c.from.result ≡ c.count-2.result = search rules in
    let counted : c.from.result ≡ length (accept H s) = same ∙ c.count-2.ensures (with_command L.kept s) both.stands in
    let accepts : KeepsCommand L old.reading change rows c.in_ok-answer.answer (with_both L s rows notes) = record {
      answer = (c.in_ok-answer.ensures.answers L.kept was.both.stands).answer;
      notes = notes;
      after = after;
      are = are;
      lists = refl;
    } in
    record {
      ok = (
        with_both L s rows notes,
        accepts,
        stands_both g.S.Store g.D.Desk.Stands old L was rows notes after are s _ c.from.result counted refl both guard,
        λ trees may. inl (commits.alone clean own trees may),
      );
      err = tt;
      crash = λ trees may. elim ((commits.survives own).crash clean trees may) [
        | inl before ↦ inl before
        | inr left ↦ inr (c.in_ok-answer.answer, with_both L s rows notes, accepts, left)
      ];
    }

pub returns-in_err-answer-clause-accepted : goal.returns-in_err-answer-clause-accepted
returns-in_err-answer-clause-accepted g c L was clean own first =
    let old = c.args.self.now in
    let change = c.args.change in
    let rows = c.args.rows.now in
    let notes = c.in_ok-notes.notes.items in
    let after = c.read_all.new.reading in
    let are = subst (λ k. ArePlacedAt old.reading k rows notes after) (c.count.ensures L.kept was.both.stands)
    c.in_ok-notes.ensures.read in
    let on = go_on g.S.Store g.D.Desk.Stands old L was rows notes after are in
    let commits = c.in_err-answer.ensures.commits L.kept L.rows was.both on in
    let s = change.stamped in
    let answer = judged_answer L.kept.history s (reply.Accepted change.detail) in
    let accepts : KeepsCommand L old.reading change rows answer (with_both L s rows notes) = record {
      answer = refl;
      notes = notes;
      after = after;
      are = are;
      lists = refl;
    } in
    let told = err_from_is_err_and c.from_residual-in_err-answer.result c.from_residual-in_err-answer.ensures.1 in
    ends_told g.S.Store g.D.Desk.Stands old (record old { store = c.commit_with_entries.new.self }) L _ told.0 told.1
    _ (record {
      ok = tt;
      err = record { both = commits.err; read = was.read; guard = was.guard };
      crash = λ trees may. elim ((commits.survives own).crash clean trees may)
          [ inl before ↦ inl before | inr left ↦ inr (answer, with_both L s rows notes, accepts, left) ];
    })

pub returns-clause-clean : goal.returns-clause-clean
returns-clause-clean g c clean =
    let reading = c.args.self.now.reading in
    let read = c.in_ok-notes.ensures.read.read in
    clean_still g.S.Store g.D.Desk.Stands c.args.self.now.store c.commit_with_entries.new.self reading.entries
    c.args.rows.now (read-numbers reading c.read_all.new.reading c.args.rows.now c.in_ok-notes.notes.items read)
    (λ L rows was on own. (_, (c.commit_with_entries.ensures.commits L rows was on).survives own))
    c.requires.serves.0 c.requires.serves.1 clean

pub returns-in_err-answer-clause-clean : goal.returns-in_err-answer-clause-clean
returns-in_err-answer-clause-clean g c clean =
    let reading = c.args.self.now.reading in
    let read = c.in_ok-notes.ensures.read.read in
    clean_still g.S.Store g.D.Desk.Stands c.args.self.now.store c.commit_with_entries.new.self reading.entries
    c.args.rows.now (read-numbers reading c.read_all.new.reading c.args.rows.now c.in_ok-notes.notes.items read)
    (λ L rows was on own. (_, (c.commit_with_entries.ensures.commits L rows was on).survives own))
    c.requires.serves.0 c.requires.serves.1 clean

pub returns-in_err-notes-clause-refused : goal.returns-in_err-notes-clause-refused
returns-in_err-notes-clause-refused g c L stands =
    let old = c.args.self.now in
    let rows = c.args.rows.now in
    let p = err_from_is_err_and c.from_residual.result c.from_residual.ensures.1 in
    let e = c.in_err-notes.field-0.0 in
    rw (p.1, p.2) (refuses_still old (length L.history) rows e
    (subst (λ k. RefusesRows old.reading k rows e) (c.count.ensures L stands) c.in_err-notes.ensures.err))
