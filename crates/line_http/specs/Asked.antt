-- The content of a request to one of the line's own routes.
use Rattle.std.specs.Prelude.{ℕ, List, Ok, Result}
use Rattle.cfx_profile.specs.Fault.{◌>>=◌}
use Rattle.gateway_http.specs.Asked.{check_method, id_in, number_in}
use Rattle.gateway_http.specs.declared.fault.AskFault.{AskFault}
use Rattle.gateway_http.specs.declared.parameter.Parameter.TheVariants.{After, Machine}
use Rattle.line_answers.specs.declared.book.Wanted.TheVariants as wanted
use Rattle.line_answers.specs.declared.noted.Noted.TheVariants.{Decided, Held, Released}
use Rattle.line_http.specs.declared.asked.Asked.{Asked}
use Rattle.line_http.specs.declared.asked.Asked.TheVariants as asks
use Rattle.line_http.specs.declared.routes.Route.{Route}
use Rattle.line_http.specs.declared.routes.Route.TheVariants.{Book, Counts, Decisions, Holds, Releases, State, Undecided}
use Rattle.line_http.specs.Routes.{route_method}

-- The content of a request to a route, or its faulty parameter.
unfoldable pub asked_at : Route → List ℕ → Result Asked AskFault
asked_at Decisions query = Ok (asks.Say Decided)
asked_at Holds query = Ok (asks.Say Held)
asked_at Releases query = Ok (asks.Say Released)
asked_at State query = do
  machine ← id_in Machine query
  Ok (asks.State machine)
asked_at Book query = do
  number ← number_in After query
  Ok (asks.Book (wanted.After number))
asked_at Undecided query = Ok (asks.Book wanted.Undecided)
asked_at Counts query = Ok asks.Counts

-- The content of a request to a route, or its first fault: of method, then parameters.
unfoldable pub asked_by : Route → List ℕ → List ℕ → Result Asked AskFault
asked_by route method query = do
  allowed ← check_method method (route_method route)
  asked_at route query
