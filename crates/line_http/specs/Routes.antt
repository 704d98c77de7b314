-- The line's own routes.
use Rattle.std.specs.Prelude.{ℕ, List, None, Option, Some, codes, if◌then◌else◌}
use Rattle.desk_types.specs.Id.{same}
use Rattle.gateway_http.specs.declared.routes.Method.{Method}
use Rattle.gateway_http.specs.declared.routes.Method.TheVariants.{Get, Post}
use Rattle.line_http.specs.declared.routes.Route.{Route}
use Rattle.line_http.specs.declared.routes.Route.TheVariants.{Book, Counts, Decisions, Holds, Releases, State, Undecided}

-- The only method of a route.
abbrev pub route_method : Route → Method
route_method Decisions = Post
route_method Holds = Post
route_method Releases = Post
route_method State = Get
route_method Book = Get
route_method Undecided = Get
route_method Counts = Get

-- The route with this path, byte by byte.
abbrev pub route_of : List ℕ → Option Route
route_of path =
    if same path (codes "/line/decisions") then Some Decisions
    else if same path (codes "/line/holds") then Some Holds
    else if same path (codes "/line/releases") then Some Releases
    else if same path (codes "/line/state") then Some State
    else if same path (codes "/line/book") then Some Book
    else if same path (codes "/line/undecided") then Some Undecided
    else if same path (codes "/line/counts") then Some Counts else None
