use Rattle.desk_laws.proofs.Common.{is_started, judged-by-two}
use Rattle.desk_laws.{proofs.AfterCommands.judged-run, proofs.AfterCommands.many-commands}
use Rattle.desk_laws.{proofs.FromAlike.agree-from, proofs.FromAlike.alike-from, specs.Past.is_spent}
use Rattle.desk_laws.proofs.law.alike_desks_answer_alike.Goals as goal

pub returns-clause-replies : goal.returns-clause-replies
returns-clause-replies c = λ rules H H' commands of_old of_new alike ranges new.
    (many-commands (is_started H) (is_spent H) rules commands H H' ranges (λ k d lt. let it = new k d lt in record { boards = it.boards; reels = it.reels }) of_old of_new
    (agree-from H H' (judged-by-two rules H of_old) (judged-by-two rules H' of_new) alike)).0

pub returns-clause-alike : goal.returns-clause-alike
returns-clause-alike c = λ rules H H' commands of_old of_new alike ranges new idle.
    alike-from (is_started H) (is_spent H) _ _ (judged-by-two rules _ (judged-run rules commands H' ranges of_new))
    (many-commands (is_started H) (is_spent H) rules commands H H' ranges (λ k d lt. let it = new k d lt in record { boards = it.boards; reels = it.reels }) of_old of_new
    (agree-from H H' (judged-by-two rules H of_old) (judged-by-two rules H' of_new) alike)).1 idle
