-- A path that isn't UTF-8 belongs to no route.
use Rattle.desk_types.proofs.Common.{[], ◌∷◌, ◌≡◌, Bool, bytes_eq-Decides, cond, false, is_utf8, IsUtf8}
use Rattle.desk_types.proofs.Common.{IsUtf8-from_is_utf8, List, None, refl, same, Some, subst, true, ℕ}
use Rattle.gateway_http.specs.Routes.{route_of, route_path, routes}
use Rattle.gateway_http.specs.declared.routes.Route.{Route}
use Rattle.gateway_http.specs.declared.routes.Route.TheVariants.{ImportCounts, ImportSetup, Kit, Messages}
use Rattle.gateway_http.specs.declared.routes.Route.TheVariants.{Overdue, Reel, Slots, TraceBoard, TraceLot}
use Rattle.std.specs.List.{find}
use Rattle.std.specs.Str.{chars}
use lib.Utf8.{encode}

path-text : (route : Route) → IsUtf8 (route_path route)
unfolding is_utf8 chars encode
path-text Messages = IsUtf8-from_is_utf8 (route_path Messages) refl
path-text ImportSetup = IsUtf8-from_is_utf8 (route_path ImportSetup) refl
path-text ImportCounts = IsUtf8-from_is_utf8 (route_path ImportCounts) refl
path-text TraceBoard = IsUtf8-from_is_utf8 (route_path TraceBoard) refl
path-text TraceLot = IsUtf8-from_is_utf8 (route_path TraceLot) refl
path-text Reel = IsUtf8-from_is_utf8 (route_path Reel) refl
path-text Slots = IsUtf8-from_is_utf8 (route_path Slots) refl
path-text Kit = IsUtf8-from_is_utf8 (route_path Kit) refl
path-text Overdue = IsUtf8-from_is_utf8 (route_path Overdue) refl

find-none : (path : List ℕ) (rs : List Route) → ¬ (IsUtf8 path) → find (λ r. same (route_path r) path) rs ≡ None
find-none path [] none = refl
find-none path (r ∷ rs) none = by (same (route_path r) path) refl (find-none path rs none)
  where
    by : (b : Bool) → same (route_path r) path ≡ b → find (λ r. same (route_path r) path) rs ≡ None → cond b (Some r) (find (λ r. same (route_path r) path) rs) ≡ None
    by true e later = absurd (none (subst IsUtf8 ((bytes_eq-Decides (route_path r) path).0 e) (path-text r)))
    by false e later = later

pub route_of-none : (path : List ℕ) → ¬ (IsUtf8 path) → route_of path ≡ None
unfolding route_of
route_of-none path none = find-none path routes none
