use Rattle.desk_types.proofs.Common.{◌≡◌, subst, sym}
use Rattle.desk_laws.proofs.Common.{Stamped, Two}
use Rattle.desk_answers.specs.Commands.{command_answer}
use Rattle.desk_answers.specs.Ledger.{IsAnswer}
use Rattle.desk_answers.specs.declared.answer.Answer.{Answer}
use Rattle.desk_answers.specs.declared.answer.Answer.TheVariants.{Accepted, DeskFull, IdReused, Refused}
use Rattle.desk_answers.specs.declared.answer.Answer.TheVariants.{Unavailable}
use Rattle.line_schema.proofs.ListsAfter.{kept_so}
use Rattle.line_schema.proofs.StandsAfter.{tables_there}
use Rattle.line_schema.specs.Stands.{HasRows, Kept, kept_after, ledger, Stands}
use Rattle.line_schema.proofs.store.LineStore.command.Goals as goal

answer_so : (L : Kept) (s : Stamped) (a : Answer) → a ≡ command_answer Two L.greatest L.history s → IsAnswer (ledger L) s a
answer_so L s (Accepted n text) h = h
answer_so L s (Refused r) h = h
answer_so L s (IdReused n) h = h
answer_so L s DeskFull h = h
answer_so L s Unavailable h = tt

pub returns-in-Ok-clause-kept : goal.returns-in-Ok-clause-kept
returns-in-Ok-clause-kept g c = c.answer.ensures.kept

pub returns-in-Ok-clause-answers : goal.returns-in-Ok-clause-answers
returns-in-Ok-clause-answers g c L stands clean own =
    let s = c.args.stamped.now in
    let told = c.in-Ok.ensures.answers L stands clean own in
    let same = sym (kept_so L s c.in-Ok.answer told.answer) in
    let after = subst (λ (M : Kept). Stands g.S.Store g.D.Desk.Stands c.answer.new.self M) same (c.in-Ok.ensures.ok L stands clean own) in
    record {
      is = answer_so L s c.in-Ok.answer told.answer;
      stands = after;
      tables = tables_there g.S.Store g.D.Desk.Stands c.answer.new.self (kept_after L s c.in-Ok.answer) after;
      rows = λ was. subst (λ (M : Kept). HasRows g.D.KeepsRows.kept_rows c.answer.new.self M.history) same (told.rows was);
      crash = c.in-Ok.ensures.crash L stands clean own;
    }

pub returns-in-Ok-clause-file : goal.returns-in-Ok-clause-file
returns-in-Ok-clause-file g c = c.answer.ensures.file

pub returns-in-Err-clause-kept : goal.returns-in-Err-clause-kept
returns-in-Err-clause-kept g c = c.answer.ensures.kept

pub returns-in-Err-clause-answers : goal.returns-in-Err-clause-answers
returns-in-Err-clause-answers g c L stands clean own =
    let told = c.in-Err.ensures.answers L stands clean own in
    record {
      is = tt;
      stands = told.err;
      tables = tables_there g.S.Store g.D.Desk.Stands c.answer.new.self L told.err;
      rows = told.rows_stay;
      crash = c.in-Err.ensures.crash L stands clean own;
    }

pub returns-in-Err-clause-file : goal.returns-in-Err-clause-file
returns-in-Err-clause-file g c = c.answer.ensures.file
