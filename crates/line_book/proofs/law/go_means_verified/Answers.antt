use Rattle.desk_laws.proofs.Common.{judged-by-two}
use Rattle.line_book.proofs.Going.{go-exactly, go-verified}
use Rattle.line_book.proofs.law.go_means_verified.Goals as goal

pub returns-clause-exact : goal.returns-clause-exact
returns-clause-exact c = λ rules H B machine judged. go-exactly H B machine (judged-by-two rules H judged)

pub returns-clause-start : goal.returns-clause-start
returns-clause-start c = λ rules H B machine judged go. go-verified H B machine go
