-- The routes that are served.
use Rattle.std.specs.Prelude.{ℕ, List, [], ◌∷◌, Option, codes, map}
use Rattle.std.specs.List.{find}
use Rattle.matchit.specs.Rows.{RowsOf}
use Rattle.matchit.specs.Router.{RouteOf}
use Rattle.desk_types.specs.Id.{same}
use Rattle.gateway_http.specs.declared.routes.Method.{Method}
use Rattle.gateway_http.specs.declared.routes.Method.TheVariants.{Get, Post}
use Rattle.gateway_http.specs.declared.routes.Route.{Route}
use Rattle.gateway_http.specs.declared.routes.Route.TheVariants.{Messages, ImportSetup, ImportCounts, TraceBoard, TraceLot, Reel, Slots, Kit, Overdue}

-- The method as written in a request.
abbrev pub method_text : Method → List ℕ
method_text Get = codes "GET"
method_text Post = codes "POST"

abbrev pub route_path : Route → List ℕ
route_path Messages = codes "/messages"
route_path ImportSetup = codes "/imports/setup"
route_path ImportCounts = codes "/imports/counts"
route_path TraceBoard = codes "/trace/board"
route_path TraceLot = codes "/trace/lot"
route_path Reel = codes "/reel"
route_path Slots = codes "/slots"
route_path Kit = codes "/kit"
route_path Overdue = codes "/overdue"

-- The only method of a route.
abbrev pub route_method : Route → Method
route_method Messages = Post
route_method ImportSetup = Post
route_method ImportCounts = Post
route_method TraceBoard = Get
route_method TraceLot = Get
route_method Reel = Get
route_method Slots = Get
route_method Kit = Get
route_method Overdue = Get

-- All routes, by path in byte order.
abbrev pub routes : List Route
routes = ImportCounts ∷ ImportSetup ∷ Kit ∷ Messages ∷ Overdue ∷ Reel ∷ Slots
    ∷ TraceBoard ∷ TraceLot ∷ []

-- The route with this path, byte by byte.
unfoldable pub route_of : List ℕ → Option Route
route_of path = find (λ route. same (route_path route) path) routes

-- ---- the routes in `matchit`

-- A route: a path without parameters.
abbrev pub row : Route → List ℕ × RouteOf Route
row route = (
  route_path route,
  record { pattern = route_path route; text = route_path route; names = []; value = route },
)

abbrev pub table : RowsOf (RouteOf Route)
table = map row routes
