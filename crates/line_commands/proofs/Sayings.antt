-- The answer to what somebody says, as it is printed.
use Rattle.desk_types.proofs.Common.{◌≡◌, Err, List, Ok, refl, Result, sym, ℕ}
use Rattle.http_stream.specs.Answers.{Told}
use Rattle.http_stream.specs.declared.response.MediaType.TheVariants.{Json}
use Rattle.line_answers.specs.declared.fault.LineFault.{LineFault}
use Rattle.line_answers.specs.declared.noted.Noted.{Noted}
use Rattle.line_book.specs.declared.note.Matter.{Matter}
use Rattle.line_http.specs.Line.{Line}
use Rattle.line_http.specs.Rule.{said_outcome}
use Rattle.line_reads.specs.Ends.{json_told}

pub is_json : (line : Line) (noted : Noted) (body : List ℕ) (said : Result Matter LineFault)
    → (said_outcome line noted body said).told.kind ≡ Json
is_json line noted body (Ok m) = refl
is_json line noted body (Err fault) = refl

pub as_json : (told : Told) → told.kind ≡ Json → told ≡ json_told told.status told.body
as_json told kind = λ i. record { status = told.status; kind = kind i; body = told.body }
