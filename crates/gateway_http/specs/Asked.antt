-- The content of a request, from its method and its target.
use Rattle.std.specs.Prelude.{⊤, ℕ, ◌+◌, ◌==◌, Bool, List, take, drop, Result, Ok, Err, ok_or, if◌then◌else◌}
use Rattle.std.specs.List.{position_or_len}
use Rattle.cfx_profile.specs.Fault.{◌>>=◌}
use Rattle.cfx_profile.specs.Forms.{id_of}
use Rattle.cfx_profile.specs.Minute.{minute_of}
use Rattle.desk_types.specs.Id.{Name, same}
use Rattle.desk_types.specs.declared.trace_detail.TraceDetail.{TraceDetail}
use Rattle.gateway_http.specs.declared.asked.Asked.{Asked}
use Rattle.gateway_http.specs.declared.asked.Asked.TheVariants as asks
use Rattle.gateway_http.specs.declared.asked.Report.TheVariants as report
use Rattle.gateway_http.specs.declared.fault.AskFault.{AskFault}
use Rattle.gateway_http.specs.declared.fault.AskFault.TheVariants.{NoPath, BadMethod, BadQuery}
use Rattle.gateway_http.specs.declared.parameter.Parameter.{Parameter}
use Rattle.gateway_http.specs.declared.parameter.Parameter.TheVariants as parameter
use Rattle.gateway_http.specs.declared.routes.Method.{Method}
use Rattle.gateway_http.specs.declared.routes.Route.{Route}
use Rattle.gateway_http.specs.declared.routes.Route.TheVariants as route
use Rattle.imports.specs.declared.import.Content.TheVariants.{Sheet, Counts}
use Rattle.imports.specs.declared.import.Import.{Import}
use Rattle.gateway_http.specs.Parameter.{parameter_text}
use Rattle.gateway_http.specs.Query.{value_of}
use Rattle.gateway_http.specs.Routes.{method_text, route_method, route_of}
use Rattle.gateway_http.specs.Values.{detail_of, boards_of, number_of}

-- ---- the target

abbrev pub is_mark : ℕ → Bool
is_mark byte = byte == 0x3f

-- The raw target up to the first `?`.
unfoldable pub path_of : List ℕ → List ℕ
path_of target = take (position_or_len is_mark target) target

-- The rest after it.
unfoldable pub query_of : List ℕ → List ℕ
query_of target = drop (position_or_len is_mark target + 1) target

-- ---- one parameter

-- The parameter's value, if it occurs exactly once.
unfoldable pub parameter_value : Parameter → List ℕ → Result (List ℕ) AskFault
parameter_value p query = ok_or (value_of (parameter_text p) query) (BadQuery p)

unfoldable pub id_in : Parameter → List ℕ → Result Name AskFault
id_in p query = do
  text ← parameter_value p query
  ok_or (id_of text) (BadQuery p)

-- The minute of a time text.
unfoldable pub minute_in : List ℕ → Result ℕ AskFault
minute_in query = do
  text ← parameter_value parameter.Time query
  ok_or (minute_of text) (BadQuery parameter.Time)

-- One digit, 1 to 4.
unfoldable pub detail_in : List ℕ → Result TraceDetail AskFault
detail_in query = do
  text ← parameter_value parameter.Detail query
  ok_or (detail_of text) (BadQuery parameter.Detail)

-- 1 to 6 digits, 1 to 100,000.
unfoldable pub boards_in : List ℕ → Result ℕ AskFault
boards_in query = do
  text ← parameter_value parameter.Boards query
  ok_or (boards_of text) (BadQuery parameter.Boards)

-- 1 to 9 digits.
unfoldable pub number_in : Parameter → List ℕ → Result ℕ AskFault
number_in p query = do
  text ← parameter_value p query
  ok_or (number_of 9 text) (BadQuery p)

-- ---- the parameters of each route, in order

-- The parameters of an import of a count file.
unfoldable pub import_in : List ℕ → Result Import AskFault
import_in query = do
  uid ← id_in parameter.Id query
  source ← id_in parameter.Source query
  minute ← minute_in query
  Ok (record { uid = uid; source = source; minute = minute; content = Counts })

-- The content of a request to a route; the first parameter that is missing, repeated or invalid is
-- the fault.
unfoldable pub asked_at : Route → List ℕ → Result Asked AskFault
asked_at route.Messages query = Ok asks.Message
asked_at route.ImportSetup query = do
  import ← import_in query
  product ← id_in parameter.Product query
  machine ← id_in parameter.Machine query
  Ok (asks.Import (record import { content = Sheet product machine }))
asked_at route.ImportCounts query = do
  import ← import_in query
  Ok (asks.Import import)
asked_at route.TraceBoard query = do
  board ← id_in parameter.Board query
  detail ← detail_in query
  Ok (asks.Report (report.BoardTrace board detail))
asked_at route.TraceLot query = do
  lot ← id_in parameter.Lot query
  detail ← detail_in query
  Ok (asks.Report (report.LotTrace lot detail))
asked_at route.Reel query = do
  reel ← id_in parameter.Reel query
  Ok (asks.Report (report.ReelCard reel))
asked_at route.Slots query = do
  machine ← id_in parameter.Machine query
  Ok (asks.Report (report.SlotList machine))
asked_at route.Kit query = do
  product ← id_in parameter.Product query
  machine ← id_in parameter.Machine query
  boards ← boards_in query
  Ok (asks.Report (report.KitList product machine boards))
asked_at route.Overdue query = Ok (asks.Report report.OverdueList)

-- ---- a request

-- Whether this is the only method that a route allows.
abbrev pub check_method : List ℕ → Method → Result ⊤ AskFault
check_method method wanted = if same method (method_text wanted) then Ok tt
    else Err (BadMethod wanted)

-- The content of a request, or its first fault: of path, method, then parameters.
unfoldable pub asked_of : List ℕ → List ℕ → Result Asked AskFault
asked_of method target = do
  found ← ok_or (route_of (path_of target)) NoPath
  allowed ← check_method method (route_method found)
  asked_at found (query_of target)
