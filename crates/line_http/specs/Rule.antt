-- The answer to a request, and both lists after it.
use Rattle.std.specs.Prelude.{ℕ, ◌+◌, Bool, Err, false, List, None, Ok, Option, Result, Some, length, true}
use Rattle.gateway_http.specs.Answer as request
use Rattle.gateway_http.specs.Asked.{path_of, query_of}
use Rattle.gateway_http.specs.Requests.{csv, json}
use Rattle.gateway_http.specs.Statuses.{request_fault_status}
use Rattle.gateway_http.specs.declared.fault.AskFault.{AskFault}
use Rattle.http_stream.specs.Answers.{Told}
use Rattle.http_stream.specs.Cut.{Request}
use Rattle.http_stream.specs.Stream.{Outcome, Rule}
use Rattle.http_stream.specs.declared.response.Status.{Status}
use Rattle.http_stream.specs.declared.response.Status.TheVariants as status
use Rattle.line_answers.specs.Bodies.{decision_said, hold_said, release_said}
use Rattle.line_answers.specs.Book.{book_text}
use Rattle.line_answers.specs.Counts.{counts_of, counts_text}
use Rattle.line_answers.specs.Fault.{fault_text}
use Rattle.line_answers.specs.NotFound.{not_found_text}
use Rattle.line_answers.specs.Noted.{noted_text}
use Rattle.line_answers.specs.State.{state_text}
use Rattle.line_answers.specs.declared.book.Wanted.{Wanted}
use Rattle.line_answers.specs.declared.fault.LineFault.{LineFault}
use Rattle.line_answers.specs.declared.fault.LineFault.TheVariants.{BodyMember, NoMemory, NotFound, NotJson, NotObject}
use Rattle.line_answers.specs.declared.kind.Kind.TheVariants.{Machine}
use Rattle.line_answers.specs.declared.noted.Noted.{Noted}
use Rattle.line_answers.specs.declared.noted.Noted.TheVariants.{Decided, Held, Released}
use Rattle.line_book.specs.declared.note.Matter.{Matter}
use Rattle.line_http.specs.declared.asked.Asked.{Asked}
use Rattle.line_http.specs.declared.asked.Asked.TheVariants as asks
use Rattle.line_http.specs.declared.routes.Route.{Route}
use Rattle.line_http.specs.Asked.{asked_by}
use Rattle.line_http.specs.Desk.{desk_outcome}
use Rattle.line_http.specs.Line.{Line, with_saying}
use Rattle.line_http.specs.Routes.{route_of}

-- An answer that leaves both lists unchanged.
abbrev pub leaving : Line → Told → Outcome Line
leaving line told = record { told = told; after = line }

-- ---- what somebody says

-- What a body says in a book of so many entries, or its first fault.
abbrev pub body_said : Noted → ℕ → List ℕ → Result Matter LineFault
body_said Decided entries body = decision_said entries body
body_said Held entries body = hold_said body
body_said Released entries body = release_said body

-- The status of a body that isn't taken.
abbrev pub body_status : LineFault → Status
body_status NotJson = status.BadRequest
body_status NotObject = status.BadRequest
body_status (BodyMember m) = status.UnprocessableEntity
body_status (NotFound kind) = status.NotFound
body_status NoMemory = status.ServiceUnavailable

-- Whether memory was refused, which is no fault of a body.
abbrev pub is_memory : LineFault → Bool
is_memory NoMemory = true
is_memory fault = false

-- The number of the new entry; or a fault, and then the book has no new entry.
abbrev pub said_outcome : Line → Noted → List ℕ → Result Matter LineFault → Outcome Line
said_outcome line noted body (Ok m) = record {
  told = json status.Ok (noted_text noted (length line.notes + 1));
  after = with_saying line m body;
}
said_outcome line noted body (Err fault) =
    leaving line (json (body_status fault) (fault_text fault))

-- ---- a machine

-- Whether it may work, or that no sheet is for it.
abbrev pub state_told : Option (List ℕ) → Told
state_told (Some text) = json status.Ok text
state_told None = json status.NotFound (not_found_text Machine)

-- ---- the book

-- The rows of the book that are asked for, and what each entry still asks for.
abbrev pub book_told : Line → Wanted → Told
book_told line wanted = csv (book_text line.desk.history line.notes wanted line.rows)

abbrev pub counts_told : Line → Told
counts_told line = json status.Ok (counts_text (counts_of line.desk.history line.notes))

-- ---- a request

-- The outcome of a request to one of the line's own routes.
abbrev pub asked_outcome : Line → List ℕ → Result Asked AskFault → Outcome Line
asked_outcome line body (Ok (asks.Say noted)) =
    said_outcome line noted body (body_said noted (length line.notes) body)
asked_outcome line body (Ok (asks.State machine)) =
    leaving line (state_told (state_text line.desk.history line.notes machine))
asked_outcome line body (Ok (asks.Book wanted)) = leaving line (book_told line wanted)
asked_outcome line body (Ok asks.Counts) = leaving line (counts_told line)
asked_outcome line body (Err fault) =
    leaving line (json (request_fault_status fault) (request.fault_text fault))

-- The outcome of a request with this path: one of the line's own routes, or else the desk's.
abbrev pub route_outcome : Line → Request → Option Route → Outcome Line
route_outcome line r (Some route) =
    asked_outcome line r.body (asked_by route r.method (query_of r.target))
route_outcome line r None = desk_outcome line r

-- The rule of a line's routes.
abbrev pub line_rule : Rule Line
line_rule line r = route_outcome line r (route_of (path_of r.target))
