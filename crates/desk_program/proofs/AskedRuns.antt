-- A run that the arguments ask for.
use Rattle.desk_types.proofs.Common.{◌≡◌, ◌≢◌, ◌⊎◌, Appends, arith, failures_of, false, History, inl}
use Rattle.desk_types.proofs.Common.{inner_of, inr, List, None, Option, refl, Some, subst, true, ℕ}
use Rattle.desk_laws.proofs.Common.{Wire}
use Rattle.desk_answers.specs.{Counts.none_served, Ledger.Ledger, Sent.SendsFront}
use Rattle.desk_answers.specs.{declared.serving.ServeFault.TheVariants.Write}
use Rattle.desk_commands.specs.{Clients.ends_of, Clients.Serving}
use Rattle.desk_commands.specs.{Connections.TellsConnections, Ends.FeedEnds, Ends.ImportEnds, Ends.PrintEnds}
use Rattle.desk_commands.specs.{Ends.ReportEnds, Ends.ServingEnds, OpenRuns.AnswersAll}
use Rattle.desk_commands.specs.{OpenRuns.AnswersImport, OpenRuns.AnswersReport, OpenRuns.AnswersUpTo}
use Rattle.desk_commands.specs.{OpenRuns.CutsImport, OpenRuns.StaysSame, Runs.HasNoDesk, Runs.LeavesDesk}
use Rattle.desk_commands.specs.{Runs.LeavesFile, Runs.RunsInMemory, Runs.ServesEach, Told.lawful_line}
use Rattle.desk_commands.specs.{Told.report_output, Told.TellsLine, Told.unavailable_line, Told.version_line}
use Rattle.desk_commands.specs.{declared.left.ToClose.ToClose}
use Rattle.desk_program.specs.{Program.Bad, Program.LeavesAs, Program.Names, Program.NamesDesk}
use Rattle.desk_program.specs.{Program.NamesMigrated, Program.RefusesNamed, Program.RunsAs, Program.RunsAsked}
use Rattle.desk_program.specs.{Program.RunsImport, Program.RunsReport, Program.RunsServing, Ways.Ways}
use Rattle.desk_words.specs.CommandLine.{AsksForAudit, AsksForFeed, AsksForImport, AsksForMigration}
use Rattle.desk_words.specs.CommandLine.{AsksForReport, AsksForServing}
use Rattle.gateway_http.specs.Reports.{report_of}
use Rattle.http_stream.specs.{Answers.code_of, Answers.Told}
use Rattle.imports.specs.declared.import.Import.{Import}
use Rattle.line_schema.specs.declared.fault.OpenFault.{OpenFault}
use Rattle.sqlite_disk.specs.declared.Disk as disk
use Rattle.desk_commands.specs.declared.left.ToClose.TheVariants as left

pub runs_import : (ways : Ways) (words : List (List ℕ)) (Fact : Import → List ℕ → Ledger → History → Type 0) (file : List ℕ) (import : Import) (from path : List ℕ)
    → AsksForImport words file import from → path ≡ from → ways.Runs None (Fact import path) → RunsImport ways words Fact
runs_import ways words Fact file import from path asks is runs =
    (file, import, from, asks, subst (λ (at : List ℕ). ways.Runs None (Fact import at)) is runs)

pub runs_report : (ways : Ways) (words : List (List ℕ)) (Shown : Told → Type 0) (file target path : List ℕ) (answer : Told)
    → AsksForReport words file target → path ≡ target → Shown answer → ways.Runs None (AnswersReport report_of path answer) → RunsReport ways words Shown
runs_report ways words Shown file target path answer asks is shown runs =
    (file, target, asks, answer, shown, subst (λ (at : List ℕ). ways.Runs None (AnswersReport report_of at answer)) is runs)

pub runs_serving : {W : Type 0} (ways : Ways) (words : List (List ℕ)) (serves : ℕ → Serving → Type 0) (contents : W → Option (List ℕ)) (output output' : Wire W)
    (file : List ℕ) (port connections greatest status told : ℕ) → AsksForServing words file port connections greatest → status ≡ told
    → (serving : Serving) × TellsConnections connections (ends_of serving.exchanges) serving.stop status (contents (inner_of output)) (contents (inner_of output')) (failures_of output) (failures_of output') × serves port serving × ways.Runs (Some greatest) (ServesEach serving.exchanges)
    → RunsServing ways words serves contents output output' told
runs_serving ways words serves contents output output' file port connections greatest status told asks is served =
    let all = subst (λ (n : ℕ). (serving : Serving) × TellsConnections connections (ends_of serving.exchanges) serving.stop n (contents (inner_of output)) (contents (inner_of output')) (failures_of output) (failures_of output') × serves port serving × ways.Runs (Some greatest) (ServesEach serving.exchanges)) is served in
    (file, port, connections, greatest, asks, all.0, all.1, all.2, all.3)

pub has_none : (IsRefused IsRefused' : OpenFault → Type 0) (IsLeft IsLeft' : Type 0) (Told : List ℕ → Type 0) → ((fault : OpenFault) → IsRefused fault → IsRefused' fault) → (IsLeft → IsLeft')
    → HasNoDesk IsRefused IsLeft Told → HasNoDesk IsRefused' IsLeft' Told
has_none IsRefused IsRefused' IsLeft IsLeft' Told refused left (inl (fault, is, told)) = inl (fault, refused fault is, told)
has_none IsRefused IsRefused' IsLeft IsLeft' Told refused left (inr (is, told)) = inr (left is, told)

pub names_desk : {D : Type 0} {g : disk.Ghosts D} (words : List (List ℕ)) (it : ToClose D g) → LeavesDesk it → NamesDesk words → Names words it
names_desk words left.Nothing leaves names = tt
names_desk words (left.Desk d) leaves names = names
names_desk words (left.Migrated conn) leaves names = absurd leaves
names_desk words (left.Refused r) leaves names = inl names

pub names_migrated : {D : Type 0} {g : disk.Ghosts D} (words : List (List ℕ)) (it : ToClose D g) → LeavesFile it → NamesMigrated words → Names words it
names_migrated words left.Nothing leaves names = tt
names_migrated words (left.Desk d) leaves names = absurd leaves
names_migrated words (left.Migrated conn) leaves names = names
names_migrated words (left.Refused r) leaves names = inr names

-- ---- the end of such a run

module _ {R W E : Type 0} (ways : Ways) {holds : List ℕ → Option (List ℕ)} {may_fail : List ℕ → Type 0} {serves : ℕ → Serving → Type 0} {reads : R → Option (List ℕ)} {writes : W → Option (List ℕ)} {tells : E → Option (List ℕ)}
    {words : List (List ℕ)} {input input' : Wire R} {output output' : Wire W} {errors errors' : Wire E} {exit : ℕ} where
  feeds : (Runs : (Ledger → History → Type 0) → Type 0) (Why : Type 0) → ((Fact : Ledger → History → Type 0) → Runs Fact → RunsAsked ways words Fact)
      → (Why → HasNoDesk (RefusesNamed ways words) (ways.OpensNone ⊎ ways.Runs None StaysSame) (TellsLine tells errors errors'))
      → FeedEnds reads writes tells input input' output output' errors errors' Runs Why exit → LeavesAs ways holds may_fail serves reads writes tells words input input' output output' errors errors' exit
  feeds Runs Why to none fed =
      let at = fed.status in record {
        status = omega (arith, at);
        done = λ is. let all = fed.done is in inl (all.0, all.1, to (AnswersAll reads writes input output output' all.0) all.2);
        refused = λ is. let all = fed.refused is in inl (all.0, all.1, to (AnswersAll reads writes input output output' all.0) all.2);
        bad = λ is. absurd (omega (arith, at, is));
        no_desk = λ is. (fed.untouched is, none (fed.no_desk is));
        failed = λ is. let fault = fed.failed is in inl (fault.0, fault.1, fault.3, inl (fault.2, to (AnswersUpTo reads writes input output output' fault.0) fault.4));
        kept = λ is. (fed.well is).kept;
        quiet = λ is. (fed.well is).quiet;
      }

  pub feeds_asked : (file : List ℕ) (greatest : ℕ) → AsksForFeed words (Some file) greatest
      → FeedEnds reads writes tells input input' output output' errors errors' (ways.Runs (Some greatest)) (HasNoDesk (ways.Refuses (Some greatest)) ⊥ (TellsLine tells errors errors')) exit
      → LeavesAs ways holds may_fail serves reads writes tells words input input' output output' errors errors' exit
  feeds_asked file greatest asks =
      feeds (ways.Runs (Some greatest)) (HasNoDesk (ways.Refuses (Some greatest)) ⊥ (TellsLine tells errors errors')) (λ Fact runs. inr (file, greatest, asks, runs))
      (has_none (ways.Refuses (Some greatest)) (RefusesNamed ways words) ⊥ (ways.OpensNone ⊎ ways.Runs None StaysSame) (TellsLine tells errors errors') (λ fault refuses. inl (file, greatest, asks, refuses)) (λ none. absurd none))

  pub feeds_in_memory : (greatest : ℕ) → AsksForFeed words None greatest → ways.OpensNone
      → FeedEnds reads writes tells input input' output output' errors errors' (RunsInMemory greatest) (TellsLine tells errors errors' unavailable_line) exit
      → LeavesAs ways holds may_fail serves reads writes tells words input input' output output' errors errors' exit
  feeds_in_memory greatest asks opens = feeds (RunsInMemory greatest) (TellsLine tells errors errors' unavailable_line) (λ Fact runs. inl (greatest, asks, runs)) (λ told. inr (inl opens, told))

  pub ends_bad : exit ≡ 2 → Bad ways holds may_fail serves reads writes tells words input input' output output' errors errors' → LeavesAs ways holds may_fail serves reads writes tells words input input' output output' errors errors' exit
  ends_bad at bad = record {
    status = omega (arith, at);
    done = λ is. absurd (omega (arith, at, is));
    refused = λ is. absurd (omega (arith, at, is));
    bad = λ _. bad;
    no_desk = λ is. absurd (omega (arith, at, is));
    failed = λ is. absurd (omega (arith, at, is));
    kept = λ is. absurd (omega (arith, at, is));
    quiet = λ is. absurd (omega (arith, at, is));
  }

  pub ends_none : {Refusal : Type 0} → exit ≡ 3 → Refusal → RunsAs ways holds may_fail serves reads writes tells words input input' output output' errors errors' Refusal exit
  ends_none at refusal = record {
    status = omega (arith, at);
    done = λ is. absurd (omega (arith, at, is));
    refused = λ is. absurd (omega (arith, at, is));
    bad = λ is. absurd (omega (arith, at, is));
    no_desk = λ _. refusal;
    failed = λ is. absurd (omega (arith, at, is));
    kept = λ is. absurd (omega (arith, at, is));
    quiet = λ is. absurd (omega (arith, at, is));
  }

module _ {R W E : Type 0} (ways : Ways) {holds : List ℕ → Option (List ℕ)} {may_fail : List ℕ → Type 0} {serves : ℕ → Serving → Type 0} {reads : R → Option (List ℕ)} {writes : W → Option (List ℕ)} {tells : E → Option (List ℕ)}
    {words : List (List ℕ)} {input : Wire R} {output output' : Wire W} {errors errors' : Wire E} {exit : ℕ} where
  pub serves_asked : (file : List ℕ) (port connections greatest : ℕ) {Unasked : Type 0} → AsksForServing words file port connections greatest
      → ServingEnds writes tells output output' errors errors' connections (serves port) (λ es. ways.Runs (Some greatest) (ServesEach es)) (HasNoDesk (ways.Refuses (Some greatest)) ⊥ (TellsLine tells errors errors') × Unasked) exit
      → LeavesAs ways holds may_fail serves reads writes tells words input input output output' errors errors' exit
  serves_asked file port connections greatest asks run =
      let at = run.status in record {
        status = omega (arith, at);
        done = λ is. inr (inr (inr (inr (inr (inl (runs_serving ways words serves writes output output' file port connections greatest exit 0 asks is (run.served (inl is))))))));
        refused = λ is. inr (inr (inl (runs_serving ways words serves writes output output' file port connections greatest exit 1 asks is (run.served (inr (inl is))))));
        bad = λ is. absurd (omega (arith, at, is));
        no_desk = λ is. (
          (refl, run.untouched is),
          has_none (ways.Refuses (Some greatest)) (RefusesNamed ways words) ⊥ (ways.OpensNone ⊎ ways.Runs None StaysSame) (TellsLine tells errors errors')
              (λ fault refuses. inr (inl (file, port, connections, greatest, asks, refuses))) (λ none. absurd none) (run.no_desk is).0,
        );
        failed = λ is. inr (inr (refl, run.failed is, runs_serving ways words serves writes output output' file port connections greatest exit 4 asks is (run.served (inr (inr is)))));
        kept = λ is. (refl, (run.well is).kept);
        quiet = λ is. (run.well is).quiet;
      }

  pub imports_asked : (file : List ℕ) (import : Import) (from path : List ℕ) → AsksForImport words file import from → path ≡ from
      → ImportEnds writes tells output output' errors errors' import (holds path) (may_fail path) (ways.Runs None) (HasNoDesk (ways.Refuses None) (ways.Runs None StaysSame) (TellsLine tells errors errors')) exit
      → LeavesAs ways holds may_fail serves reads writes tells words input input output output' errors errors' exit
  imports_asked file import from path asks same row =
      let at = row.status in record {
        status = omega (arith, at);
        done = λ is. inr (inr (inr (inl (runs_import ways words (λ import from. AnswersImport writes output output' false import (holds from)) file import from path asks same (row.done is)))));
        refused = λ is. inr (inl (runs_import ways words (λ import from. AnswersImport writes output output' true import (holds from)) file import from path asks same (row.refused is)));
        bad = λ is. absurd (omega (arith, at, is));
        no_desk = λ is. (
          (refl, row.untouched is),
          has_none (ways.Refuses None) (RefusesNamed ways words) (ways.Runs None StaysSame) (ways.OpensNone ⊎ ways.Runs None StaysSame) (TellsLine tells errors errors')
              (λ fault refuses. inr (inr (inl (file, import, from, asks, refuses)))) (λ stays. inr stays) (row.no_desk is),
        );
        failed = λ is. elim (row.failed is) [
          | inl cut ↦ inl (Write none_served, (cut.0.0, refl), cut.0.1, inr (inr (inr (inl (runs_import ways words (λ import from. CutsImport writes output output' import (holds from)) file import from path asks same cut.1)))))
          | inr unread ↦ inr (inl (refl, unread.1, unread.2, (file, import, from, asks, subst (λ (name : List ℕ). may_fail name) same unread.0, unread.3)))
        ];
        kept = λ is. (refl, (row.well is).kept);
        quiet = λ is. (row.well is).quiet;
      }

  pub reports_asked : (file target path : List ℕ) → AsksForReport words file target → path ≡ target
      → ReportEnds writes tells output output' errors errors' (λ answer. ways.Runs None (AnswersReport report_of path answer)) (HasNoDesk (ways.Refuses None) ⊥ (TellsLine tells errors errors')) exit
      → LeavesAs ways holds may_fail serves reads writes tells words input input output output' errors errors' exit
  reports_asked file target path asks same told =
      let out = writes (inner_of output) in
      let out' = writes (inner_of output') in
      let at = told.status in record {
        status = omega (arith, at);
        done = λ is. let all = told.done is in inr (inr (inr (inr (inr (inr (runs_report ways words (λ answer. (code_of answer.status ≡ 200) × Appends out out' (report_output answer)) file target path all.0 asks same (all.1, all.2) all.3))))));
        refused = λ is. let all = told.refused is in inr (inr (inr (runs_report ways words (λ answer. (code_of answer.status ≢ 200) × Appends out out' (report_output answer)) file target path all.0 asks same (all.1, all.2) all.3)));
        bad = λ is. absurd (omega (arith, at, is));
        no_desk = λ is. (
          (refl, told.untouched is),
          has_none (ways.Refuses None) (RefusesNamed ways words) ⊥ (ways.OpensNone ⊎ ways.Runs None StaysSame) (TellsLine tells errors errors')
              (λ fault refuses. inr (inr (inr (inl (file, target, asks, refuses))))) (λ none. absurd none) (told.no_desk is),
        );
        failed = λ is. let cut = told.failed is in inl (Write none_served, (cut.0.0, refl), cut.0.1, inr (inr (inr (inr (inr (runs_report ways words (λ answer. SendsFront out out' (report_output answer)) file target path cut.1 asks same cut.2 cut.3))))));
        kept = λ is. (refl, (told.well is).kept);
        quiet = λ is. (told.well is).quiet;
      }

  pub audits_asked : (file : List ℕ) (count : ℕ) → AsksForAudit words file
      → PrintEnds writes tells output output' errors errors' (lawful_line count) (HasNoDesk (ways.Refuses None) (ways.Runs None StaysSame) (TellsLine tells errors errors')) exit
      → ((exit ≡ 0) ⊎ (exit ≡ 4) → ways.Audits count) → LeavesAs ways holds may_fail serves reads writes tells words input input output output' errors errors' exit
  audits_asked file count asks told audits =
      let at = told.status in record {
        status = omega (arith, at);
        done = λ is. inr (inl (file, asks, count, told.done is, audits (inl is)));
        refused = λ is. absurd (omega (arith, at, is));
        bad = λ is. absurd (omega (arith, at, is));
        no_desk = λ is. (
          (refl, told.untouched is),
          has_none (ways.Refuses None) (RefusesNamed ways words) (ways.Runs None StaysSame) (ways.OpensNone ⊎ ways.Runs None StaysSame) (TellsLine tells errors errors')
              (λ fault refuses. inr (inr (inr (inr (inl (file, asks, refuses)))))) (λ stays. inr stays) (told.no_desk is),
        );
        failed = λ is. inl (Write none_served, ((told.failed is).0, refl), (told.failed is).1, inr (inl (file, asks, count, told.front is, audits (inr is))));
        kept = λ is. (refl, (told.well (omega (arith, at, is))).kept);
        quiet = λ is. (told.well (omega (arith, at, is))).quiet;
      }

  pub migrates_asked : (file : List ℕ) → AsksForMigration words file
      → PrintEnds writes tells output output' errors errors' version_line (HasNoDesk ways.RefusesToMigrate ⊥ (TellsLine tells errors errors')) exit
      → ((exit ≡ 0) ⊎ (exit ≡ 4) → ways.Migrates) → LeavesAs ways holds may_fail serves reads writes tells words input input output output' errors errors' exit
  migrates_asked file asks told migrates =
      let at = told.status in record {
        status = omega (arith, at);
        done = λ is. inr (inr (inl (file, asks, told.done is, migrates (inl is))));
        refused = λ is. absurd (omega (arith, at, is));
        bad = λ is. absurd (omega (arith, at, is));
        no_desk = λ is. (
          (refl, told.untouched is),
          has_none ways.RefusesToMigrate (RefusesNamed ways words) ⊥ (ways.OpensNone ⊎ ways.Runs None StaysSame) (TellsLine tells errors errors')
              (λ fault refuses. inr (inr (inr (inr (inr (file, asks, refuses)))))) (λ none. absurd none) (told.no_desk is),
        );
        failed = λ is. inl (Write none_served, ((told.failed is).0, refl), (told.failed is).1, inr (inr (inl (file, asks, told.front is, migrates (inr is)))));
        kept = λ is. (refl, (told.well (omega (arith, at, is))).kept);
        quiet = λ is. (told.well (omega (arith, at, is))).quiet;
      }
