-- The end of a run, with facts that follow from its own.
use Rattle.desk_types.proofs.Common.{◌≡◌, arith, History, inl, inr, List, Option, refl, ℕ}
use Rattle.desk_laws.proofs.Common.{Wire}
use Rattle.desk_answers.specs.Ledger.{Ledger}
use Rattle.desk_commands.specs.{Clients.Exchange, Clients.Serving, Ends.FeedEnds, Ends.ImportEnds}
use Rattle.desk_commands.specs.{Ends.PrintEnds, Ends.ReportEnds, Ends.ServingEnds, OpenRuns.AnswersAll}
use Rattle.desk_commands.specs.{OpenRuns.AnswersImport, OpenRuns.AnswersUpTo, OpenRuns.CutsImport}
use Rattle.desk_commands.specs.{OpenRuns.StaysSame}
use Rattle.http_stream.specs.{Answers.Told}
use Rattle.imports.specs.declared.import.Import.{Import}

module _ {R W E : Type 0} {reads : R → Option (List ℕ)} {writes : W → Option (List ℕ)} {tells : E → Option (List ℕ)}
    {input input' : Wire R} {output output' : Wire W} {errors errors' : Wire E} {NoDesk NoDesk' : Type 0} {exit : ℕ} where
  pub feed_follows : {Runs Runs' : (Ledger → History → Type 0) → Type 0} → FeedEnds reads writes tells input input' output output' errors errors' Runs NoDesk exit
      → ((Fact : Ledger → History → Type 0) → Runs Fact → Runs' Fact) → (NoDesk → NoDesk') → FeedEnds reads writes tells input input' output output' errors errors' Runs' NoDesk' exit
  feed_follows fed to none = record {
    status = fed.status;
    done = λ is. let all = fed.done is in (all.0, all.1, to (AnswersAll reads writes input output output' all.0) all.2);
    refused = λ is. let all = fed.refused is in (all.0, all.1, to (AnswersAll reads writes input output output' all.0) all.2);
    no_desk = λ is. none (fed.no_desk is);
    untouched = fed.untouched;
    failed = λ is. let cut = fed.failed is in (cut.0, cut.1, cut.2, cut.3, to (AnswersUpTo reads writes input output output' cut.0) cut.4);
    well = fed.well;
  }

module _ {W E : Type 0} {writes : W → Option (List ℕ)} {tells : E → Option (List ℕ)}
    {output output' : Wire W} {errors errors' : Wire E} {NoDesk NoDesk' : Type 0} {exit : ℕ} where
  pub import_follows : {import : Import} {file : Option (List ℕ)} {MayFail : Type 0} {Runs Runs' : (Ledger → History → Type 0) → Type 0} → ImportEnds writes tells output output' errors errors' import file MayFail Runs NoDesk exit
      → ((Fact : Ledger → History → Type 0) → Runs Fact → Runs' Fact) → (NoDesk → NoDesk') → ImportEnds writes tells output output' errors errors' import file MayFail Runs' NoDesk' exit
  import_follows {import = import} {file = file} row to none = record {
    status = row.status;
    done = λ is. to (AnswersImport writes output output' _ import file) (row.done is);
    refused = λ is. to (AnswersImport writes output output' _ import file) (row.refused is);
    no_desk = λ is. none (row.no_desk is);
    untouched = row.untouched;
    failed = λ is. elim (row.failed is) [
      | inl cut ↦ inl (cut.0, to (CutsImport writes output output' import file) cut.1)
      | inr unread ↦ inr (unread.0, unread.1, unread.2, to StaysSame unread.3)
    ];
    well = row.well;
  }

  pub serving_follows : {connections : ℕ} {Serves : Serving → Type 0} {Answers Answers' : List Exchange → Type 0} → ServingEnds writes tells output output' errors errors' connections Serves Answers NoDesk exit
      → ((es : List Exchange) → Answers es → Answers' es) → (NoDesk → NoDesk') → ServingEnds writes tells output output' errors errors' connections Serves Answers' NoDesk' exit
  serving_follows run to none = record {
    status = run.status;
    served = λ is. let all = run.served is in (all.0, all.1, all.2, to all.0.exchanges all.3);
    no_desk = λ is. none (run.no_desk is);
    untouched = run.untouched;
    failed = run.failed;
    well = run.well;
  }

  pub report_follows : {Answers Answers' : Told → Type 0} → ReportEnds writes tells output output' errors errors' Answers NoDesk exit
      → ((answer : Told) → Answers answer → Answers' answer) → (NoDesk → NoDesk') → ReportEnds writes tells output output' errors errors' Answers' NoDesk' exit
  report_follows told to none = record {
    status = told.status;
    done = λ is. let all = told.done is in (all.0, all.1, all.2, to all.0 all.3);
    refused = λ is. let all = told.refused is in (all.0, all.1, all.2, to all.0 all.3);
    no_desk = λ is. none (told.no_desk is);
    untouched = told.untouched;
    failed = λ is. let cut = told.failed is in (cut.0, cut.1, cut.2, to cut.1 cut.3);
    well = told.well;
  }

  pub print_follows : {text : List ℕ} → PrintEnds writes tells output output' errors errors' text NoDesk exit → (NoDesk → NoDesk') → PrintEnds writes tells output output' errors errors' text NoDesk' exit
  print_follows told none = record {
    status = told.status;
    done = told.done;
    no_desk = λ is. none (told.no_desk is);
    untouched = told.untouched;
    failed = told.failed;
    front = told.front;
    well = told.well;
  }

-- Nothing was answered.
module _ {R W E : Type 0} {reads : R → Option (List ℕ)} {writes : W → Option (List ℕ)} {tells : E → Option (List ℕ)}
    {input : Wire R} {output : Wire W} {errors errors' : Wire E} {NoDesk : Type 0} {exit : ℕ} where
  pub feed_refused : {Runs : (Ledger → History → Type 0) → Type 0} → exit ≡ 3 → NoDesk → FeedEnds reads writes tells input input output output errors errors' Runs NoDesk exit
  feed_refused is none = record {
    status = inr (inr (inl is));
    done = λ at. absurd (omega (arith, is, at));
    refused = λ at. absurd (omega (arith, is, at));
    no_desk = λ _. none;
    untouched = λ _. (refl, refl);
    failed = λ at. absurd (omega (arith, is, at));
    well = λ at. absurd (omega (arith, is, at));
  }

module _ {W E : Type 0} {writes : W → Option (List ℕ)} {tells : E → Option (List ℕ)}
    {output : Wire W} {errors errors' : Wire E} {NoDesk : Type 0} {exit : ℕ} where
  pub import_refused : {import : Import} {file : Option (List ℕ)} {MayFail : Type 0} {Runs : (Ledger → History → Type 0) → Type 0} → exit ≡ 3 → NoDesk → ImportEnds writes tells output output errors errors' import file MayFail Runs NoDesk exit
  import_refused is none = record {
    status = inr (inr (inl is));
    done = λ at. absurd (omega (arith, is, at));
    refused = λ at. absurd (omega (arith, is, at));
    no_desk = λ _. none;
    untouched = λ _. refl;
    failed = λ at. absurd (omega (arith, is, at));
    well = λ at. absurd (omega (arith, is, at));
  }

  pub serving_refused : {connections : ℕ} {Serves : Serving → Type 0} {Answers : List Exchange → Type 0} → exit ≡ 3 → NoDesk → ServingEnds writes tells output output errors errors' connections Serves Answers NoDesk exit
  serving_refused is none = record {
    status = inr (inr (inl is));
    served = λ at. absurd (omega (arith, is, at));
    no_desk = λ _. none;
    untouched = λ _. refl;
    failed = λ at. absurd (omega (arith, is, at));
    well = λ at. absurd (omega (arith, is, at));
  }

  pub report_refused : {Answers : Told → Type 0} → exit ≡ 3 → NoDesk → ReportEnds writes tells output output errors errors' Answers NoDesk exit
  report_refused is none = record {
    status = inr (inr (inl is));
    done = λ at. absurd (omega (arith, is, at));
    refused = λ at. absurd (omega (arith, is, at));
    no_desk = λ _. none;
    untouched = λ _. refl;
    failed = λ at. absurd (omega (arith, is, at));
    well = λ at. absurd (omega (arith, is, at));
  }

  pub print_refused : {text : List ℕ} → exit ≡ 3 → NoDesk → PrintEnds writes tells output output errors errors' text NoDesk exit
  print_refused is none = record {
    status = inr (inl is);
    done = λ at. absurd (omega (arith, is, at));
    no_desk = λ _. none;
    untouched = λ _. refl;
    failed = λ at. absurd (omega (arith, is, at));
    front = λ at. absurd (omega (arith, is, at));
    well = λ at. absurd (omega (arith, is, at));
  }
