-- Connections that ask the desk alone.
use Rattle.std.specs.Prelude.{◌≡◌, ⊤, List, None, ℕ}
use Rattle.gateway_http.specs.Asked.{path_of}
use Rattle.http_stream.specs.Cut.{IsPortion, Leads, Portion, bad_head, head_too_large, starved, unread, whole}
use Rattle.line_http.specs.Routes.{route_of}

-- It is no request to one of the line's own routes.
abbrev pub AsksDesk : Portion → Type 0
AsksDesk (whole r ends) = route_of (path_of r.target) ≡ None
AsksDesk bad_head = ⊤
AsksDesk head_too_large = ⊤
AsksDesk (unread method fault) = ⊤
AsksDesk starved = ⊤

-- None of the requests in these bytes is to one of the line's own routes.
abbrev pub AskDesk : List ℕ → Type 0
AskDesk input = (ps : List Portion) (p : Portion) (left rest : List ℕ) → Leads input ps left
    → IsPortion left p rest → AsksDesk p
