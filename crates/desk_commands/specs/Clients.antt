-- The events of the clients of a port.
use Rattle.std.specs.Prelude.{◌≢◌, ℕ, List, [], ◌∷◌, ◌++◌, flat_map, map, Option, Result}
use Rattle.desk_answers.specs.declared.serving.Served.{Served}
use Rattle.desk_answers.specs.declared.serving.ServeFault.{ServeFault}

-- Each try to open a port is an event, and each try to accept a client.
--
-- - `opened`, `unopened`: the port was opened, or could not be.
-- - `came`: a client, with its unsent bytes and the bytes it had received.
-- - `none_came`: no client could be accepted.
-- - `left`: a client, with its unread bytes and the bytes it had received by then.
--
-- The bytes are known as far as the client's reader and writer report them.
pub data Event : Type 0 where
  opened : ℕ → Event
  unopened : ℕ → Event
  came : Option (List ℕ) → Option (List ℕ) → Event
  none_came : Event
  left : Option (List ℕ) → Option (List ℕ) → Event

-- This happened, and nothing else.
abbrev pub Sees : {S : Type 0} → (S → List Event → Type 0) → S → S → List Event → Type 0
Sees Saw old new events = (before : List Event) → Saw old before → Saw new (before ++ events)

-- The end of a connection: the number of answers, and the fault, if any.
abbrev pub Ended : Type 0
Ended = Result Served ServeFault

-- A connection: its client's bytes and the unread rest of them, the bytes the client had received before and after, and
-- the end of the connection.
pub record Exchange : Type 0 where
  pub sent : Option (List ℕ)
  pub unread : Option (List ℕ)
  pub before : Option (List ℕ)
  pub after : Option (List ℕ)
  pub ended : Ended

-- The events of a connection.
abbrev pub events_in : Exchange → List Event
events_in e = came e.sent e.before ∷ left e.unread e.after ∷ []

-- Why serving stopped: all connections were served, the port could not be opened, no further client could be accepted,
-- or a line could not be written.
pub data Stop : Type 0 where
  served_all : Stop
  no_port : Stop
  no_client : Stop
  no_line : Stop

-- The connections of a port, one after another, and why there were no more.
pub record Serving : Type 0 where
  pub exchanges : List Exchange
  pub stop : Stop

-- The event of a client who could not be accepted, if that stopped serving.
abbrev pub last_events : Stop → List Event
last_events no_client = none_came ∷ []
last_events _ = []

-- The events at an open port.
abbrev pub events_on : List Exchange → Stop → List Event
events_on exchanges stop = flat_map events_in exchanges ++ last_events stop

-- All events of a port.
abbrev pub events_at : ℕ → List Exchange → Stop → List Event
events_at port exchanges no_port = unopened port ∷ []
events_at port exchanges served_all = opened port ∷ events_on exchanges served_all
events_at port exchanges no_client = opened port ∷ events_on exchanges no_client
events_at port exchanges no_line = opened port ∷ events_on exchanges no_line

-- An open port had exactly these connections, and no client was let go.
abbrev pub ServesOn : {S : Type 0} → (S → List Event → Type 0) → S → S → Serving → Type 0
ServesOn Saw old new serving =
    Sees Saw old new (events_on serving.exchanges serving.stop) × (serving.stop ≢ no_port)

-- The same of a port that was to be opened.
abbrev pub ServesAt : {S : Type 0} → (S → List Event → Type 0) → S → S → ℕ → Serving → Type 0
ServesAt Saw old new port serving =
    Sees Saw old new (events_at port serving.exchanges serving.stop)

-- Their ends.
abbrev pub ends_of : List Exchange → List Ended
ends_of = map (λ e. e.ended)
