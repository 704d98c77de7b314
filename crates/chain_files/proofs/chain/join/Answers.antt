use Rattle.desk_types.proofs.Common.{[], ◌≡◌, IfErr, IfOk, List, Option, Some, subst, sym}
use Rattle.desk_laws.proofs.Common.{DeskFile}
use Rattle.chain_check.specs.declared.chain.Chain.{Chain}
use Rattle.chain_files.specs.Files.{Adds, Continues, Stops}
use Rattle.chain_files.specs.Marks.{IsWanted}
use Rattle.chain_files.proofs.chain.join.Goals as goal

pub returns-in-None-clause-ok : goal.returns-in-None-clause-ok
returns-in-None-clause-ok c files H text is says written =
    let none : files ≡ [] = subst (λ (o : Option Chain). Continues o files) c.in-None.is is in
    subst (λ (fs : List DeskFile). IfOk c.add_first.result (λ it. Adds (Some it) fs H c.args.question.now c.args.path.now text c.add_first.new.answer)) (sym none) (c.add_first.ensures.ok H text says written)

pub returns-in-None-clause-err : goal.returns-in-None-clause-err
returns-in-None-clause-err c wanted files H is says =
    let none : files ≡ [] = subst (λ (o : Option Chain). Continues o files) c.in-None.is is in
    subst (λ (fs : List DeskFile). IfErr c.add_first.result (Stops (IsWanted wanted) fs H)) (sym none) (c.add_first.ensures.err wanted H)

pub returns-in-Some-clause-ok : goal.returns-in-Some-clause-ok
returns-in-Some-clause-ok c files H text is says written = c.add_next.ensures.ok files H text (subst (λ (o : Option Chain). Continues o files) c.in-Some.is is) says written

pub returns-in-Some-clause-err : goal.returns-in-Some-clause-err
returns-in-Some-clause-err c wanted files H is says = c.add_next.ensures.err wanted files H (subst (λ (o : Option Chain). Continues o files) c.in-Some.is is) says
