-- A whole run of the program after others.
use Rattle.desk_types.proofs.Common.{[], ◌∷◌, ◌≡◌, ◌≢◌, ◌⊎◌, Appends, Err, false, History, IfSome, inl}
use Rattle.desk_types.proofs.Common.{inner_of, inr, length, List, None, Ok, Option, refl, Some, sym, true, ℕ}
use Rattle.desk_laws.proofs.Common.{Wire}
use Rattle.desk_answers.specs.{Counts.none_served, Ledger.Ledger, Sent.SendsFront}
use Rattle.desk_answers.specs.declared.serving.ServeFault.TheVariants.{Read}
use Rattle.desk_commands.specs.{Clients.Ended, Clients.Serving, Closed.RunsTo, Closed.whole}
use Rattle.desk_commands.specs.{OpenRuns.AnswersAll, OpenRuns.AnswersImport, OpenRuns.AnswersReport}
use Rattle.desk_commands.specs.{OpenRuns.AnswersUpTo, OpenRuns.CutsImport, OpenRuns.StaysSame}
use Rattle.desk_commands.specs.{Runs.ServesEach, Told.fault_line, Told.report_output, Told.TellsLine}
use Rattle.desk_program.proofs.WaysOfRuns.{one_of_five}
use Rattle.desk_program.specs.{Program.Done, Program.Failed, Program.ImportUnread, Program.Refused}
use Rattle.desk_program.specs.{Program.RunsAs, Program.RunsAsked, Program.RunsImport, Program.RunsReport}
use Rattle.desk_program.specs.{Program.RunsServing, Ways.Ways, Ways.ways_when_closed}
use Rattle.desk_words.specs.CommandLine.{AsksForAudit}
use Rattle.gateway_http.specs.Reports.{report_of}
use Rattle.headline.proofs.{ProgramRuns.is_whole_run, ProgramRuns.serves_each, RunsInTurn.are_one}
use Rattle.headline.proofs.{RunsInTurn.joins, RunsInTurn.OursFirst, RunsInTurn.Same}
use Rattle.headline.specs.{Calls.AnswersByTheList, Calls.Call, Calls.Feeds, Calls.ImportEnded, Calls.Imports}
use Rattle.headline.specs.{Calls.Call.asked, Calls.Call.fed, Calls.Call.imported, Closed.connections_of}
use Rattle.headline.specs.{Closed.run_of, Runs.as_one, Whole.GoesOn, Whole.MakesCalls}
use Rattle.http_stream.specs.Answers.{Told}
use Rattle.imports.specs.declared.import.Import.{Import}
use Rattle.sqlite_disk.specs.declared.Files.{Files}
use Rattle.sqlite_disk.specs.declared.Disk as disk
use Rattle.sqlite_disk.specs.declared.start.Start as start

module _ (ours : OursFirst) (same : Same) {T D R W E : Type 0} (first : start.Ghosts T) (g : disk.Ghosts D) (files : Files D) (holds : List ℕ → Option (List ℕ)) (may_fail : List ℕ → Type 0) (serves : ℕ → Serving → Type 0)
    (reads : R → Option (List ℕ)) (writes : W → Option (List ℕ)) (tells : E → Option (List ℕ)) (words : List (List ℕ)) (input input' : Wire R) (output output' : Wire W) (errors errors' : Wire E) (exit : ℕ) where
  abbrev ways : Ways
  ways = ways_when_closed whole first g (Some files)

  abbrev Goes : Type 0
  Goes =
      GoesOn holds may_fail serves reads writes tells words input input' output output' errors errors' exit first g files

  abbrev Makes : List Call → Type 0
  Makes calls =
      MakesCalls holds may_fail serves reads writes tells words input input' output output' errors errors' exit calls

  after : (make : Option ℕ) (Fact : Ledger → History → Type 0) (calls : List Call) → Makes calls → ((G : Ledger) (H : History) → Fact G H → AnswersByTheList report_of G calls H) → RunsTo whole first g (Some files) make Fact → Goes
  after make Fact calls makes answers runs = inr (
    make,
    calls,
    makes,
    λ run earlier image is are ends clean.
        joins report_of ours same (as_one run earlier) (run_of first make calls image) (sym ends) (are_one report_of ours same run earlier is are) (is_whole_run g first make files image Fact calls answers runs clean),
  )

  lines : (Fact : Ledger → History → Type 0) (ended : Ended) → ((G : Ledger) (H : History) → Fact G H → Feeds G (reads (inner_of input)) (writes (inner_of output)) (writes (inner_of output')) ended H) → RunsAsked ways words Fact → Goes
  lines Fact ended is (inl (greatest, asks, memory)) = inl (inl (greatest, asks))
  lines Fact ended is (inr (file, greatest, asks, runs)) =
      after (Some greatest) Fact (fed (reads (inner_of input)) (writes (inner_of output)) (writes (inner_of output')) ended ∷ []) (inl (file, greatest, ended, asks, refl)) (λ G H fact. (H, is G H fact, refl)) runs

  rows : (Fact : Import → List ℕ → Ledger → History → Type 0) (ended : ImportEnded)
      → ((import : Import) (from : List ℕ) (G : Ledger) (H : History) → Fact import from G H → Imports G import (holds from) (writes (inner_of output)) (writes (inner_of output')) ended H) → RunsImport ways words Fact → Goes
  rows Fact ended is (file, import, from, asks, runs) =
      after None (Fact import from) (imported import (holds from) (writes (inner_of output)) (writes (inner_of output')) ended ∷ []) (inr (inl (file, import, from, ended, asks, refl))) (λ G H fact. (H, is import from G H fact, refl)) runs

  connections : (status : ℕ) → RunsServing ways words serves writes output output' status → Goes
  connections status (file, port, count, greatest, asks, serving, told, are, runs) =
      after (Some greatest) (ServesEach serving.exchanges) (connections_of serving.exchanges) (inr (inr (inl (file, port, count, greatest, serving, asks, are, refl)))) (serves_each serving.exchanges) runs

  report : (Shown : Told → Type 0)
      → ((answer : Told) → Shown answer → Appends (writes (inner_of output)) (writes (inner_of output')) (report_output answer) ⊎ SendsFront (writes (inner_of output)) (writes (inner_of output')) (report_output answer)) → RunsReport ways words Shown → Goes
  report Shown is (file, target, asks, answer, shown, runs) =
      after None (AnswersReport report_of target answer) (asked target answer ∷ []) (inr (inr (inr (inl (file, target, answer, asks, is answer shown, refl))))) (λ G H fact. (H, (fact.1, fact.0), refl)) runs

  unread : exit ≡ 4 → (input' ≡ input) → (output' ≡ output)
      → TellsLine tells errors errors' (fault_line (Read none_served)) → ImportUnread ways words may_fail → Goes
  unread is in_same out_same told (file, import, from, asks, may, stays) =
      after None StaysSame []
      (inr (inr (inr (inr (inr (file, import, from, asks, (may, is, in_same, out_same, told), refl))))))
      (λ G H fact. fact) stays

  audited : (file : List ℕ) (count : ℕ) → AsksForAudit words file → ways.Audits count → Goes
  audited file count asks audits = after None (λ G H. (H ≡ G.history) × (count ≡ length H)) [] (inr (inr (inr (inr (inl (file, asks, refl)))))) (λ G H fact. fact.0) audits

  done : Done ways holds may_fail serves reads writes tells words input input' output output' errors errors' → Goes
  done (inl (all, none, answered)) = lines (AnswersAll reads writes input output output' all) (Ok all) (λ G H fact. fact) answered
  done (inr (inl (file, asks, count, sent, audits))) = audited file count asks audits
  done (inr (inr (inl (file, asks, sent, migrates)))) = inl (inr (inr (file, asks)))
  done (inr (inr (inr (inl import)))) = rows (λ import from. AnswersImport writes output output' false import (holds from)) (Ok false) (λ import from G H fact. fact) import
  done (inr (inr (inr (inr (inl text))))) = inl (inr (inl text.0))
  done (inr (inr (inr (inr (inr (inl serving)))))) = connections 0 serving
  done (inr (inr (inr (inr (inr (inr told)))))) = report _ (λ answer shown. inl shown.1) told

  refused : Refused ways holds may_fail serves reads writes tells words input input' output output' errors errors' → Goes
  refused (inl (all, some, answered)) = lines (AnswersAll reads writes input output output' all) (Ok all) (λ G H fact. fact) answered
  refused (inr (inl import)) = rows (λ import from. AnswersImport writes output output' true import (holds from)) (Ok true) (λ import from G H fact. fact) import
  refused (inr (inr (inl serving))) = connections 1 serving
  refused (inr (inr (inr told))) = report _ (λ answer shown. inl shown.1) told

  failed : exit ≡ 4
      → Failed ways holds may_fail serves reads writes tells words input input' output output' errors errors' → Goes
  failed is (inl (fault, shown, told, inl (leaves, answered))) = lines (AnswersUpTo reads writes input output output' fault) (Err fault) (λ G H fact. fact) answered
  failed is (inl (fault, shown, told, inr (inl (file, asks, count, sent, audits)))) = audited file count asks audits
  failed is (inl (fault, shown, told, inr (inr (inl (file, asks, sent, migrates))))) = inl (inr (inr (file, asks)))
  failed is (inl (fault, shown, told, inr (inr (inr (inl import))))) = rows (λ import from. CutsImport writes output output' import (holds from)) (Err (record {})) (λ import from G H fact. fact) import
  failed is (inl (fault, shown, told, inr (inr (inr (inr (inl text)))))) = inl (inr (inl text.0))
  failed is (inl (fault, shown, told, inr (inr (inr (inr (inr report_told)))))) = report _ (λ answer shown. inr shown) report_told
  failed is (inr (inl (in_same, out_same, told, import))) = unread is in_same out_same told import
  failed is (inr (inr (in_same, told, serving))) = connections 4 serving

  goes_on : {Refusal : Type 0} → RunsAs ways holds may_fail serves reads writes tells words input input' output output' errors errors' Refusal exit → exit ≢ 3 → Goes
  goes_on run closed = elim (one_of_five exit run.status) [
    | inl is ↦ done (run.done is)
    | inr (inl is) ↦ refused (run.refused is)
    | inr (inr (inl is)) ↦ let none = (run.bad is).0 in absurd (cc)
    | inr (inr (inr (inl is))) ↦ absurd (closed is)
    | inr (inr (inr (inr is))) ↦ failed is (run.failed is)
  ]

module _ (ours : OursFirst) (same : Same) {T D R W E : Type 0} (first : start.Ghosts T) (g : disk.Ghosts D) {holds : List ℕ → Option (List ℕ)} {may_fail : List ℕ → Type 0} {serves : ℕ → Serving → Type 0}
    {reads : R → Option (List ℕ)} {writes : W → Option (List ℕ)} {tells : E → Option (List ℕ)} {words : List (List ℕ)} {input input' : Wire R} {output output' : Wire W} {errors errors' : Wire E} where
  pub goes_on_closed : {Refusal : Type 0} (exit : ℕ) (files : Option (Files D))
      → RunsAs (ways_when_closed whole first g files) holds may_fail serves reads writes tells words input input' output output' errors errors' Refusal exit → exit ≢ 3 → IfSome files (GoesOn holds may_fail serves reads writes tells words input input' output output' errors errors' exit first g)
  goes_on_closed exit None run closed = tt
  goes_on_closed exit (Some files) run closed = goes_on ours same first g files holds may_fail serves reads writes tells words input input' output output' errors errors' exit run closed
