-- The effect of connections that are served one after another, and the lines printed for them.
use Rattle.std.specs.Prelude.{◌≡◌, ◌<◌, ◌≤◌, ℕ, ◌+◌, nat_lt, Bool, true, List, [], ◌∷◌, ◌++◌, length, Option, Ok, Err, codes, decimal, if◌then◌else◌}
use Rattle.std.specs.List.{list_any}
use Rattle.std.specs.Io.KnownBytes.{Appends}
use Rattle.desk_types.specs.History.{History}
use Rattle.desk_answers.specs.Ledger.{Ledger}
use Rattle.desk_answers.specs.Sent.{SendsFront}
use Rattle.desk_answers.specs.declared.serving.Served.{Served}
use Rattle.desk_answers.specs.declared.serving.ServeFault.TheVariants.{Read, Write, TooManyReads}
use Rattle.http_stream.specs.Stream.{Rule, AnswersConnection}
use Rattle.desk_commands.specs.Clients.{Ended, Exchange, Stop, served_all, no_port, no_client, no_line}

-- ---- the state

-- The client of this connection sent these bytes and received their answers by the state before it, which became this
-- one.
abbrev pub Connected : {S : Type 0} → Rule S → S → Exchange → S → Type 0
Connected rule s e s' = AnswersConnection rule e.sent e.unread e.before e.after e.ended s s'

-- Each connection was answered by the state that the previous one left.
abbrev pub AnswersInTurn : {S : Type 0} → Rule S → List Exchange → S → S → Type 0
AnswersInTurn rule [] s s' = s' ≡ s
AnswersInTurn {S = S} rule (e ∷ es) s s' = (mid : S) × Connected rule s e mid
    × AnswersInTurn rule es mid s'

-- The same of a ledger, of which only the history changes.
abbrev pub AnswersEach : Rule Ledger → List Exchange → Ledger → History → Type 0
AnswersEach rule [] G H = H ≡ G.history
AnswersEach rule (e ∷ es) G H = (H₁ : History) × Connected rule G e (record G { history = H₁ })
    × AnswersEach rule es (record G { history = H₁ }) H

-- ---- the lines

abbrev pub served_of : Ended → Served
served_of (Ok served) = served
served_of (Err (Read served)) = served
served_of (Err (Write served)) = served
served_of (Err (TooManyReads served)) = served

-- A space and the name of the fault, if any, and the end of the line.
abbrev pub fault_word : Ended → List ℕ
fault_word (Ok served) = codes "\n"
fault_word (Err (Read served)) = codes " Read\n"
fault_word (Err (Write served)) = codes " Write\n"
fault_word (Err (TooManyReads served)) = codes " TooManyReads\n"

-- The line of a connection: its number, the number of answered requests, and the name of its fault.
abbrev pub connection_line : ℕ → Ended → List ℕ
connection_line number ended =
    decimal number ++ codes " " ++ decimal (served_of ended).answered ++ fault_word ended

-- The lines of connections, numbered from this number on.
abbrev pub lines_from : ℕ → List Ended → List ℕ
lines_from number [] = []
lines_from number (ended ∷ ends) = connection_line number ended ++ lines_from (number + 1) ends

-- ---- the exit status

-- A request was refused, or a fault ended the connection.
abbrev pub is_faulty : Ended → Bool
is_faulty (Ok served) = nat_lt 0 served.refused
is_faulty (Err fault) = true

-- All were served, and each has its line. The status is 0, or 1 if one of them was faulty.
abbrev pub TellsAll : ℕ → List Ended → ℕ → Option (List ℕ) → Option (List ℕ) → ℕ → ℕ → Type 0
TellsAll connections ends status out out' failures failures' =
    (length ends ≡ connections) × (status ≡ (if list_any is_faulty ends then 1 else 0))
    × Appends out out' (lines_from 1 ends) × (failures' ≡ failures)

-- Fewer were served. They have their lines.
abbrev pub TellsSome : ℕ → List Ended → ℕ → Option (List ℕ) → Option (List ℕ) → ℕ → ℕ → Type 0
TellsSome connections ends status out out' failures failures' =
    (length ends < connections) × (status ≡ 4)
    × Appends out out' (lines_from 1 ends) × (failures' ≡ failures)

-- A line could not be written, as the writer's count shows. Only its first bytes were sent, after the lines of all
-- earlier connections.
abbrev pub TellsFront : ℕ → List Ended → ℕ → Option (List ℕ) → Option (List ℕ) → ℕ → ℕ → Type 0
TellsFront connections ends status out out' failures failures' =
    (length ends ≤ connections) × (status ≡ 4) × (failures' ≡ failures + 1)
    × (before : List Ended) × (last : Ended) × (mid : Option (List ℕ))
    × (ends ≡ before ++ last ∷ [])
    × Appends out mid (lines_from 1 before)
    × SendsFront mid out' (connection_line (length before + 1) last)

-- The lines and the exit status of connections with these ends, after which serving stopped for this reason.
abbrev pub TellsConnections : ℕ → List Ended → Stop → ℕ → Option (List ℕ) → Option (List ℕ) → ℕ → ℕ
    → Type 0
TellsConnections connections ends served_all status out out' failures failures' =
    TellsAll connections ends status out out' failures failures'
TellsConnections connections ends no_port status out out' failures failures' =
    (ends ≡ []) × TellsSome connections ends status out out' failures failures'
TellsConnections connections ends no_client status out out' failures failures' =
    TellsSome connections ends status out out' failures failures'
TellsConnections connections ends no_line status out out' failures failures' =
    TellsFront connections ends status out out' failures failures'
