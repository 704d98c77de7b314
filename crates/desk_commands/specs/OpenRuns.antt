-- Answers by the history of a desk.
use Rattle.std.specs.Prelude.{◌≡◌, ℕ, List, Bool, Result, Option}
use Rattle.desk_types.specs.declared.command.Stamped.{Stamped}
use Rattle.desk_types.specs.declared.wire.Wire.{Wire}
use Rattle.desk_types.specs.History.{History}
use Rattle.desk_types.specs.Wire.{inner_of}
use Rattle.desk_answers.specs.Ledger.{Ledger}
use Rattle.desk_answers.specs.declared.serving.Served.{Served}
use Rattle.desk_answers.specs.declared.serving.ServeFault.{ServeFault}
use Rattle.desk_feed.specs.Stream.{AnsweredAll, AnsweredUpTo}
use Rattle.imports.specs.declared.fault.ImportFault.{ImportFault}
use Rattle.imports.specs.declared.import.Import.{Import}
use Rattle.desk_feed.specs.Import.{IsAnswered, IsCutOff, IsSaidBy}
use Rattle.gateway_http.specs.Gateways.{AnswersGet}
use Rattle.gateway_http.specs.Requests.{Reports}
use Rattle.http_stream.specs.Answers.{Told}

-- ---- lines

-- All lines of the input were answered, starting with the history of this desk.
abbrev pub AnswersAll : {R W : Type 0} → (R → Option (List ℕ)) → (W → Option (List ℕ)) → Wire R
    → Wire W → Wire W → Served → Ledger → History → Type 0
AnswersAll remaining contents input output output' served G H =
    AnsweredAll G.rules G.greatest (remaining (inner_of input)) G.history
    (contents (inner_of output)) H (contents (inner_of output')) served

-- The answers before the fault.
abbrev pub AnswersUpTo : {R W : Type 0} → (R → Option (List ℕ)) → (W → Option (List ℕ)) → Wire R
    → Wire W → Wire W → ServeFault → Ledger → History → Type 0
AnswersUpTo remaining contents input output output' fault G H =
    AnsweredUpTo G.rules G.greatest (remaining (inner_of input)) G.history
    (contents (inner_of output)) H (contents (inner_of output')) fault

-- ---- an import

-- The command of an import and its file, as far as known, was answered by the history of this desk, and the answer
-- counts as refused or doesn't.
abbrev pub AnswersImport : {W : Type 0} → (W → Option (List ℕ)) → Wire W → Wire W → Bool → Import
    → Option (List ℕ) → Ledger → History → Type 0
AnswersImport contents output output' refused import file G H =
    (said : Result Stamped ImportFault) × IsSaidBy import file said
    × IsAnswered said (contents (inner_of output)) (contents (inner_of output')) refused G H

-- It was answered, and only the first bytes of the answer were sent.
abbrev pub CutsImport : {W : Type 0} → (W → Option (List ℕ)) → Wire W → Wire W → Import
    → Option (List ℕ) → Ledger → History → Type 0
CutsImport contents output output' import file G H =
    (said : Result Stamped ImportFault) × IsSaidBy import file said
    × IsCutOff said (contents (inner_of output)) (contents (inner_of output')) G H

-- ---- a report

-- The history is unchanged.
abbrev pub StaysSame : Ledger → History → Type 0
StaysSame G H = H ≡ G.history

-- The history is unchanged, and a GET of this target has this answer by these reports, or Unavailable.
abbrev pub AnswersReport : Reports → List ℕ → Told → Ledger → History → Type 0
AnswersReport reports target answer G H = StaysSame G H × AnswersGet reports G target answer
