-- The rows of the book that are asked for.
use Rattle.std.specs.Prelude.{ℕ}
use Rattle.line_answers.specs.declared.book.Wanted.{Wanted}
use Rattle.line_answers.specs.declared.book.Wanted.TheVariants.{After, Undecided}

-- The number behind which all rows are that may be asked for.
abbrev pub before_wanted : Wanted → ℕ
before_wanted (After number) = number
before_wanted Undecided = 0
