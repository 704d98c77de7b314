use Rattle.desk_types.proofs.Common.{arith, inl, inr, map, None, refl, rules, Some, string_bytes}
use Rattle.desk_answers.specs.{Counts.none_served, declared.serving.ServeFault.TheVariants.Write}
use Rattle.desk_program.proofs.AskedRuns.{audits_asked, ends_bad, ends_none, feeds_asked, feeds_in_memory}
use Rattle.desk_program.proofs.AskedRuns.{imports_asked, migrates_asked, names_desk, names_migrated}
use Rattle.desk_program.proofs.AskedRuns.{reports_asked, serves_asked}
use Rattle.desk_program.specs.Ways.{ways_when_open}
use Rattle.desk_words.specs.CommandLine.{AsksForAudit, AsksForFeed, AsksForImport, AsksForMigration}
use Rattle.desk_words.specs.CommandLine.{AsksForNothing, AsksForReport, AsksForServing, AsksForText}
use Rattle.desk_words.specs.CommandLine.{HasBadOption}
use Rattle.desk_program.proofs.whole.open_run.Goals as goal

pub returns-in-Some-clause-runs : goal.returns-in-Some-clause-runs
returns-in-Some-clause-runs g c =
    let asks : AsksForFeed (map string_bytes c.args.words.now) (Some (string_bytes c.in-Some.file)) c.in-Ok-Feed.greatest = search rules in
    feeds_asked (ways_when_open g.T.Start c.feed_in_file.result.1) (string_bytes c.in-Some.file) c.in-Ok-Feed.greatest asks c.feed_in_file.ensures.ends

pub returns-in-None-clause-runs : goal.returns-in-None-clause-runs
returns-in-None-clause-runs g c =
    let asks : AsksForFeed (map string_bytes c.args.words.now) None c.in-Ok-Feed.greatest = search rules in
    feeds_in_memory (ways_when_open g.T.Start _) c.in-Ok-Feed.greatest asks refl c.feed_in_memory.ensures.ends

pub returns-in-Ok-Serve-clause-runs : goal.returns-in-Ok-Serve-clause-runs
returns-in-Ok-Serve-clause-runs g c =
    let asked = c.in-Ok-Serve in
    let asks : AsksForServing (map string_bytes c.args.words.now) (string_bytes c.in-Ok-Serve.file) c.in-Ok-Serve.port c.in-Ok-Serve.connections c.in-Ok-Serve.greatest = search rules in
    serves_asked (ways_when_open g.T.Start c.serve_in_file.result.1) (string_bytes asked.file) asked.port asked.connections asked.greatest asks c.serve_in_file.ensures.ends

pub returns-in-Ok-Report-clause-runs : goal.returns-in-Ok-Report-clause-runs
returns-in-Ok-Report-clause-runs g c =
    let asked = c.in-Ok-Report in
    let path = c.as_str-in-Ok-Report-2 in
    let asks : AsksForReport (map string_bytes c.args.words.now) (string_bytes c.in-Ok-Report.file) (string_bytes c.in-Ok-Report.target) = search rules in
    reports_asked (ways_when_open g.T.Start c.report_in_file.result.1) (string_bytes asked.file) (string_bytes asked.target) path.result.now asks path.ensures.value c.report_in_file.ensures.ends

pub returns-in-Ok-Audit-clause-runs : goal.returns-in-Ok-Audit-clause-runs
returns-in-Ok-Audit-clause-runs g c =
    let asks : AsksForAudit (map string_bytes c.args.words.now) (string_bytes c.in-Ok-Audit.file) = search rules in
    let (count, told, audits) = c.audit_file.ensures.ends in
    audits_asked (ways_when_open g.T.Start c.audit_file.result.1) (string_bytes c.in-Ok-Audit.file) count asks told audits

pub returns-in-Ok-Migrate-clause-runs : goal.returns-in-Ok-Migrate-clause-runs
returns-in-Ok-Migrate-clause-runs g c =
    let asks : AsksForMigration (map string_bytes c.args.words.now) (string_bytes c.in-Ok-Migrate.file) = search rules in
    migrates_asked (ways_when_open g.T.Start c.migrate_file.result.1) (string_bytes c.in-Ok-Migrate.file) asks c.migrate_file.ensures.ends c.migrate_file.ensures.migrates

pub returns-in-Ok-Import-clause-runs : goal.returns-in-Ok-Import-clause-runs
returns-in-Ok-Import-clause-runs g c =
    let asked = c.in-Ok-Import in
    let path = c.as_str-in-Ok-Import-2 in
    let asks : AsksForImport (map string_bytes c.args.words.now) (string_bytes c.in-Ok-Import.file) c.in-Ok-Import.import (string_bytes c.in-Ok-Import.from) = search rules in
    imports_asked (ways_when_open g.T.Start c.import_in_file.result.1) (string_bytes asked.file) asked.import (string_bytes asked.from) path.result.now asks path.ensures.value c.import_in_file.ensures.ends

pub returns-in-Ok-Text-clause-runs : goal.returns-in-Ok-Text-clause-runs
returns-in-Ok-Text-clause-runs g c =
    let asks : AsksForText (map string_bytes c.args.words.now) = search rules in
    let text = c.as_str-in-Ok-Text.result.now in
    let sent = c.send_text.ensures in
    let at = sent.status in record {
      status = omega (arith, at);
      done = λ is. inr (inr (inr (inr (inl (asks, text, sent.done is)))));
      refused = λ is. absurd (omega (arith, at, is));
      bad = λ is. absurd (omega (arith, at, is));
      no_desk = λ is. absurd (omega (arith, at, is));
      failed = λ is. inl (Write none_served, ((sent.failed is).0, refl), (sent.failed is).1, inr (inr (inr (inr (inl (asks, text, sent.front is))))));
      kept = λ is. (refl, (sent.well (omega (arith, at, is))).kept);
      quiet = λ is. (sent.well (omega (arith, at, is))).quiet;
    }

pub returns-in-Ok-BadOption-clause-runs : goal.returns-in-Ok-BadOption-clause-runs
returns-in-Ok-BadOption-clause-runs g c =
    let asks : HasBadOption (map string_bytes c.args.words.now) c.in-Ok-BadOption.option = search rules in
    ends_bad (ways_when_open g.T.Start _) c.bad_option.ensures.status (refl, (refl, refl), inr (c.in-Ok-BadOption.option, asks, c.bad_option.ensures.told))

pub returns-in-Ok-Bad-clause-runs : goal.returns-in-Ok-Bad-clause-runs
returns-in-Ok-Bad-clause-runs g c =
    let asks : AsksForNothing (map string_bytes c.args.words.now) = search rules in
    ends_bad (ways_when_open g.T.Start _) refl (refl, (refl, refl), inl (asks, c.as_str-in-Ok-Bad.result.now, c.tell.ensures))

pub returns-in-Err-clause-runs : goal.returns-in-Err-clause-runs
returns-in-Err-clause-runs g c = ends_none (ways_when_open g.T.Start _) c.unavailable.ensures.status ((refl, refl), inr (inl refl, c.unavailable.ensures.told))

pub returns-in-Some-clause-named : goal.returns-in-Some-clause-named
returns-in-Some-clause-named g c =
    let asks : AsksForFeed (map string_bytes c.args.words.now) (Some (string_bytes c.in-Some.file)) c.in-Ok-Feed.greatest = search rules in
    names_desk (map string_bytes c.args.words.now) c.feed_in_file.result.1 c.feed_in_file.ensures.left (string_bytes c.in-Some.file, inr (inl (c.in-Ok-Feed.greatest, asks)))

pub returns-in-Ok-Serve-clause-named : goal.returns-in-Ok-Serve-clause-named
returns-in-Ok-Serve-clause-named g c =
    let asks : AsksForServing (map string_bytes c.args.words.now) (string_bytes c.in-Ok-Serve.file) c.in-Ok-Serve.port c.in-Ok-Serve.connections c.in-Ok-Serve.greatest = search rules in
    names_desk (map string_bytes c.args.words.now) c.serve_in_file.result.1 c.serve_in_file.ensures.left (string_bytes c.in-Ok-Serve.file, inr (inr (inr (inl (c.in-Ok-Serve.port, c.in-Ok-Serve.connections, c.in-Ok-Serve.greatest, asks)))))

pub returns-in-Ok-Import-clause-named : goal.returns-in-Ok-Import-clause-named
returns-in-Ok-Import-clause-named g c =
    let asks : AsksForImport (map string_bytes c.args.words.now) (string_bytes c.in-Ok-Import.file) c.in-Ok-Import.import (string_bytes c.in-Ok-Import.from) = search rules in
    names_desk (map string_bytes c.args.words.now) c.import_in_file.result.1 c.import_in_file.ensures.left (string_bytes c.in-Ok-Import.file, inr (inr (inl (c.in-Ok-Import.import, string_bytes c.in-Ok-Import.from, asks))))

pub returns-in-Ok-Report-clause-named : goal.returns-in-Ok-Report-clause-named
returns-in-Ok-Report-clause-named g c =
    let asks : AsksForReport (map string_bytes c.args.words.now) (string_bytes c.in-Ok-Report.file) (string_bytes c.in-Ok-Report.target) = search rules in
    names_desk (map string_bytes c.args.words.now) c.report_in_file.result.1 c.report_in_file.ensures.left (string_bytes c.in-Ok-Report.file, inr (inr (inr (inr (string_bytes c.in-Ok-Report.target, asks)))))

pub returns-in-Ok-Audit-clause-named : goal.returns-in-Ok-Audit-clause-named
returns-in-Ok-Audit-clause-named g c =
    let asks : AsksForAudit (map string_bytes c.args.words.now) (string_bytes c.in-Ok-Audit.file) = search rules in
    names_desk (map string_bytes c.args.words.now) c.audit_file.result.1 c.audit_file.ensures.left (string_bytes c.in-Ok-Audit.file, inl asks)

pub returns-in-Ok-Migrate-clause-named : goal.returns-in-Ok-Migrate-clause-named
returns-in-Ok-Migrate-clause-named g c =
    let asks : AsksForMigration (map string_bytes c.args.words.now) (string_bytes c.in-Ok-Migrate.file) = search rules in
    names_migrated (map string_bytes c.args.words.now) c.migrate_file.result.1 c.migrate_file.ensures.left (string_bytes c.in-Ok-Migrate.file, asks)

pub returns-in-Some-clause-reads : goal.returns-in-Some-clause-reads
returns-in-Some-clause-reads g c =
    let asks : AsksForFeed (map string_bytes c.args.words.now) (Some (string_bytes c.in-Some.file)) c.in-Ok-Feed.greatest = search rules in
    record {
      few = c.feed_in_file.ensures.few_reads;
      unread = λ no_feed. absurd (no_feed (Some (string_bytes c.in-Some.file)) c.in-Ok-Feed.greatest asks);
      end = λ is _ _ _. (c.feed_in_file.ensures.ends.well is).end;
    }

pub returns-in-None-clause-reads : goal.returns-in-None-clause-reads
returns-in-None-clause-reads g c =
    let asks : AsksForFeed (map string_bytes c.args.words.now) None c.in-Ok-Feed.greatest = search rules in
    record {
      few = c.feed_in_memory.ensures.few_reads;
      unread = λ no_feed. absurd (no_feed None c.in-Ok-Feed.greatest asks);
      end = λ is _ _ _. (c.feed_in_memory.ensures.ends.well is).end;
    }

pub returns-in-Ok-Serve-clause-unserved : goal.returns-in-Ok-Serve-clause-unserved
returns-in-Ok-Serve-clause-unserved g c =
    let asks : AsksForServing (map string_bytes c.args.words.now) (string_bytes c.in-Ok-Serve.file) c.in-Ok-Serve.port c.in-Ok-Serve.connections c.in-Ok-Serve.greatest = search rules in
    let ends = c.serve_in_file.ensures.ends in
    let at = ends.status in
    elim [
      | inl is ↦ absurd (omega (arith, at, is))
      | inr (inl is) ↦ (ends.no_desk is).1
      | inr (inr no_serving) ↦ absurd (no_serving (string_bytes c.in-Ok-Serve.file) c.in-Ok-Serve.port c.in-Ok-Serve.connections c.in-Ok-Serve.greatest asks)
    ]
