-- The effect of an answer on a store.
use Rattle.std.specs.Prelude.{◌≡◌, IfOk, OnErr, Result}
use Rattle.sqlite_trees.specs.declared.store.Store.{Ghosts}
use Rattle.sqlite.specs.State.{HasCleanDisk}
use Rattle.desk_types.specs.History.{Basis}
use Rattle.http_stream.specs.Answers.{response_told}
use Rattle.http_stream.specs.Stream.{Outcome}
use Rattle.http_stream.specs.declared.response.Response.{Response}
use Rattle.book_store.specs.declared.store.BookStore.{BookStore}
use Rattle.book_store.specs.Lists.{book_state}
use Rattle.line_http.specs.Line.{Line, Represents}

-- The answer is that of the outcome, whose lists the store represents; or there is no answer, and it
-- represents the lists of before.
abbrev pub GivesOne : {S D E : Type 0} → Ghosts S → (D → Basis → Type 0) → BookStore S D
    → Result Response E → Line → Outcome Line → Type 0
GivesOne g Desks store result before outcome =
    IfOk result (λ response. (response_told response ≡ outcome.told)
    × Represents g Desks store outcome.after) × OnErr result (Represents g Desks store before)

-- The same for all lists that the store represented, if the disk is honest.
abbrev pub Gives : {S D E : Type 0} → Ghosts S → (D → Basis → Type 0) → BookStore S D
    → BookStore S D → Result Response E → (Line → Outcome Line) → Type 0
Gives g Desks old new result outcome = (line : Line) → Represents g Desks old line
    → HasCleanDisk (book_state g new) → GivesOne g Desks new result line (outcome line)
