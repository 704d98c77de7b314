use Rattle.desk_types.proofs.Common.{◌≡◌, arith, inl, inr, map, refl, rules, string_bytes, subst}
use Rattle.desk_commands.proofs.EndsOfRuns.{report_follows, serving_follows}
use Rattle.line_commands.specs.{Noting.IsSaid, Serving.ServesLists}
use Rattle.line_words.specs.CommandLine.{AsksForDoubt, AsksForNote, AsksForNothing, AsksForServing}
use Rattle.line_words.specs.CommandLine.{AsksForState, AsksForTask, AsksForText}
use Rattle.line_words.specs.declared.command_line.LineCommand.TheVariants.{Bad, Doubt, Note, Serve, State, Text, Whole}
use Rattle.sqlite_wal.specs.Files.{image_at}
use Rattle.tracedesk_line.proofs.Served.{few, report-few}
use Rattle.tracedesk_line.proofs.run.run.Goals as goal

pub close_after-requires : goal.close_after-requires
close_after-requires g c =
    let most = few (image_at g.T.Start) c.serve_in_file-status.result.1 g.W.Write.contents g.E.Write.contents _ _ _ _
    c.serve_in_file-status.ensures.ends in
    omega (arith, most, c.requires.room.error_failures)

pub close_after-requires-in-Ok-Note : goal.close_after-requires-in-Ok-Note
close_after-requires-in-Ok-Note g c =
    let most = report-few (image_at g.T.Start) c.note_in_file-status.result.1 g.W.Write.contents g.E.Write.contents _ _
    _ _ c.note_in_file-status.ensures.ends in
    omega (arith, most, c.requires.room.error_failures)

pub returns-in-Ok-Serve-clause-ends : goal.returns-in-Ok-Serve-clause-ends
returns-in-Ok-Serve-clause-ends g c =
    let asked = c.in-Ok-Serve in
    let served = c.serve_in_file-status in
    let words = map string_bytes c.args.words.now in
    let asks : AsksForServing words (string_bytes asked.file) asked.port asked.connections = search rules in
    let ends = serving_follows served.ensures.ends (λ es all. all) (λ none. none.0) in
    inl (
      Serve asked.file asked.port asked.connections,
      asks,
      (served.result.1, served.result.0, served.new.errors, ends, c.close_after.ensures),
    )

pub returns-in-Ok-Serve-clause-kept : goal.returns-in-Ok-Serve-clause-kept
returns-in-Ok-Serve-clause-kept g c =
    let asked = c.in-Ok-Serve in
    let asks : AsksForServing (map string_bytes c.args.words.now) (string_bytes asked.file) asked.port
    asked.connections = search rules in
    inl (inl (string_bytes asked.file, asked.port, asked.connections, asks))

pub returns-in-Ok-Serve-clause-clients : goal.returns-in-Ok-Serve-clause-clients
returns-in-Ok-Serve-clause-clients g c =
    let asked = c.in-Ok-Serve in
    let asks : AsksForServing (map string_bytes c.args.words.now) (string_bytes asked.file) asked.port
    asked.connections = search rules in
    inl (string_bytes asked.file, asked.port, asked.connections, asks)

pub returns-in-Ok-Note-clause-ends : goal.returns-in-Ok-Note-clause-ends
returns-in-Ok-Note-clause-ends g c =
    let asked = c.in-Ok-Note in
    let noted = c.note_in_file-status in
    let words = map string_bytes c.args.words.now in
    let asks : AsksForNote words (string_bytes asked.file) asked.noted (string_bytes asked.told) = search rules in
    let same : c.as_str-in-Ok-Note-2.result.now ≡ string_bytes asked.told = search rules in
    let ends = report_follows noted.ensures.ends
    (λ answer. subst (λ body. ServesLists (image_at g.T.Start) noted.result.1 (IsSaid asked.noted body answer)) same)
    (λ none. none) in
    inl (
      Note asked.file asked.noted asked.told,
      asks,
      (noted.result.1, noted.result.0, noted.new.errors, ends, c.close_after-in-Ok-Note.ensures),
    )

pub returns-in-Ok-Note-clause-kept : goal.returns-in-Ok-Note-clause-kept
returns-in-Ok-Note-clause-kept g c =
    let asked = c.in-Ok-Note in
    let asks : AsksForNote (map string_bytes c.args.words.now) (string_bytes asked.file) asked.noted
    (string_bytes asked.told) = search rules in
    inl (inr (inr (string_bytes asked.file, asked.noted, string_bytes asked.told, asks)))

pub returns-in-Ok-State-clause-ends : goal.returns-in-Ok-State-clause-ends
returns-in-Ok-State-clause-ends g c =
    let asked = c.in-Ok-State in
    let words = map string_bytes c.args.words.now in
    let asks : AsksForState words (string_bytes asked.file) asked.machine = search rules in
    inl (State asked.file asked.machine, asks, c.tell_state.ensures.ends)

pub returns-in-Ok-Doubt-clause-ends : goal.returns-in-Ok-Doubt-clause-ends
returns-in-Ok-Doubt-clause-ends g c =
    let asked = c.in-Ok-Doubt in
    let words = map string_bytes c.args.words.now in
    let asks : AsksForDoubt words (string_bytes asked.file) asked.within = search rules in
    inl (Doubt asked.file asked.within, asks, c.tell_doubts.ensures.ends)

pub returns-in-Ok-Whole-clause-ends : goal.returns-in-Ok-Whole-clause-ends
returns-in-Ok-Whole-clause-ends g c =
    let asked = c.in-Ok-Whole in
    let asks : AsksForTask (map string_bytes c.args.words.now) (string_bytes asked.file) asked.task = search rules in
    inl (Whole asked.file asked.task, asks, c.do_task.ensures.ends)

pub returns-in-Ok-Whole-clause-kept : goal.returns-in-Ok-Whole-clause-kept
returns-in-Ok-Whole-clause-kept g c =
    let asked = c.in-Ok-Whole in
    let words = map string_bytes c.args.words.now in
    let asks : AsksForTask words (string_bytes asked.file) asked.task = search rules in
    elim c.do_task.ensures.kept [
      | inl is ↦ inl (inr (inl (string_bytes asked.file, subst (AsksForTask words (string_bytes asked.file)) is asks)))
      | inr kept ↦ inr kept
    ]

pub returns-in-Ok-Text-clause-ends : goal.returns-in-Ok-Text-clause-ends
returns-in-Ok-Text-clause-ends g c =
    let asked = c.in-Ok-Text in
    let asks : AsksForText (map string_bytes c.args.words.now) = search rules in
    inl (Text asked.text, asks, (refl, search rules))

pub returns-in-Ok-Bad-clause-ends : goal.returns-in-Ok-Bad-clause-ends
returns-in-Ok-Bad-clause-ends g c =
    let asked = c.in-Ok-Bad in
    let asks : AsksForNothing (map string_bytes c.args.words.now) = search rules in
    inl (Bad asked.text, asks, (refl, refl, refl, search rules))

pub returns-in-Err-clause-ends : goal.returns-in-Err-clause-ends
returns-in-Err-clause-ends g c =
    inr (c.unavailable.ensures.status, refl, refl, c.unavailable.ensures.told)
