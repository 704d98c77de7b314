-- The table of a run, by its open files and by the files that it closed.
use Rattle.desk_types.proofs.Common.{◌+◌, ◌≡◌, ◌≢◌, ◌≤◌, ◌⊎◌, ap, Appends, arith, failures_of, false, History}
use Rattle.desk_types.proofs.Common.{inl, inner_of, inr, List, None, Option, refl, Some, subst, suc, sym}
use Rattle.desk_types.proofs.Common.{true, zero, ℕ}
use Rattle.desk_laws.proofs.Common.{Wire}
use Rattle.desk_answers.specs.{Ledger.Ledger, Sent.SendsFront}
use Rattle.desk_commands.proofs.ClosedFiles.{audits_to, migrates_to, refuses_to, refuses_to_migrate, runs_to}
use Rattle.desk_commands.specs.{Clients.Serving, Closed.Close, Closed.ClosesLeft, OpenRuns.AnswersAll}
use Rattle.desk_commands.specs.{OpenRuns.AnswersImport, OpenRuns.AnswersReport, OpenRuns.AnswersUpTo}
use Rattle.desk_commands.specs.{OpenRuns.CutsImport, OpenRuns.StaysSame, Runs.ServesEach, Told.report_output}
use Rattle.desk_commands.specs.{Told.TellsEnd, Told.TellsLine, Told.unavailable_line}
use Rattle.desk_commands.specs.{declared.left.ToClose.ToClose}
use Rattle.desk_program.proofs.AskedRuns.{ends_none, has_none}
use Rattle.desk_program.specs.{Program.Bad, Program.Done, Program.Failed, Program.ImportUnread}
use Rattle.desk_program.specs.{Program.LeavesAs, Program.Names, Program.NamesFile, Program.NoDesk}
use Rattle.desk_program.specs.{Program.Refused, Program.RefusesNamed, Program.RunsAs, Program.RunsAsked}
use Rattle.desk_program.specs.{Program.RunsImport, Program.RunsReport, Program.RunsServing, Program.Unclosed}
use Rattle.desk_program.specs.{Ways.Ways, Ways.ways_when_closed, Ways.ways_when_open}
use Rattle.gateway_http.specs.Reports.{report_of}
use Rattle.http_stream.specs.Answers.{code_of, Told}
use Rattle.imports.specs.declared.import.Import.{Import}
use Rattle.line_schema.specs.declared.fault.OpenFault.{OpenFault}
use Rattle.sqlite_disk.specs.declared.Files.{Files}
use Rattle.sqlite_wal.proofs.LogLemmas.{SeenMayStay}
use Rattle.std.proofs.Common.{OnSome}
use Rattle.sqlite_disk.specs.declared.Disk as disk
use Rattle.sqlite_disk.specs.declared.start.Start as start
use Rattle.desk_commands.specs.declared.left.ToClose.TheVariants as left

-- A fact about the first is a fact about the second.
pub record Follows (ways ways' : Ways) : Type 1 where
  pub none : ways.OpensNone → ways'.OpensNone
  pub runs : (make : Option ℕ) (Fact : Ledger → History → Type 0) → ways.Runs make Fact → ways'.Runs make Fact
  pub audits : (count : ℕ) → ways.Audits count → ways'.Audits count
  pub migrates : ways.Migrates → ways'.Migrates
  pub refuses : (make : Option ℕ) (fault : OpenFault) → ways.Refuses make fault → ways'.Refuses make fault
  pub refuses_to_migrate : (fault : OpenFault) → ways.RefusesToMigrate fault → ways'.RefusesToMigrate fault

pub follows : {T D : Type 0} {g : disk.Ghosts D} → SeenMayStay g → (how : Close) (first : start.Ghosts T) (it : ToClose D g) (files : Option (Files D)) → ClosesLeft how it files → Follows (ways_when_open first it) (ways_when_closed how first g files)
follows stays how first it files closed = record {
  none = λ is. subst (λ (l : ToClose _ _). ClosesLeft how l files) is closed;
  runs = λ make Fact. runs_to first how it files make Fact closed;
  audits = λ count. audits_to first how it files count closed;
  migrates = migrates_to first how it files closed;
  refuses = λ make fault. refuses_to first stays how it files make fault closed;
  refuses_to_migrate = λ fault. refuses_to_migrate first stays how it files fault closed;
}

pub names_file : {D : Type 0} {g : disk.Ghosts D} (how : Close) (words : List (List ℕ)) (it : ToClose D g) (files : Option (Files D)) → ClosesLeft how it files → Names words it → OnSome files (NamesFile words)
names_file how words left.Nothing files closed names = subst (λ (o : Option (Files _)). OnSome o (NamesFile words)) (sym closed) tt
names_file how words (left.Desk d) None closed names = tt
names_file how words (left.Desk d) (Some f) closed names = inl names
names_file how words (left.Migrated conn) None closed names = tt
names_file how words (left.Migrated conn) (Some f) closed names = inr names
names_file how words (left.Refused r) None closed names = tt
names_file how words (left.Refused r) (Some f) closed names = names

pub one_of_five : (n : ℕ) → n ≤ 4 → (n ≡ 0) ⊎ (n ≡ 1) ⊎ (n ≡ 2) ⊎ (n ≡ 3) ⊎ (n ≡ 4)
one_of_five zero most = inl refl
one_of_five (suc zero) most = inr (inl refl)
one_of_five (suc (suc zero)) most = inr (inr (inl refl))
one_of_five (suc (suc (suc zero))) most = inr (inr (inr (inl refl)))
one_of_five (suc (suc (suc (suc zero)))) most = inr (inr (inr (inr refl)))
one_of_five (suc (suc (suc (suc (suc n))))) most = absurd (omega (arith, most))

module _ {R W E : Type 0} (ways ways' : Ways) (to : Follows ways ways') (holds : List ℕ → Option (List ℕ)) (may_fail : List ℕ → Type 0) (serves : ℕ → Serving → Type 0) (reads : R → Option (List ℕ)) (writes : W → Option (List ℕ)) (tells : E → Option (List ℕ))
    (words : List (List ℕ)) (input input' : Wire R) (output output' : Wire W) (errors errors' : Wire E) where
  asked : (Fact : Ledger → History → Type 0) → RunsAsked ways words Fact → RunsAsked ways' words Fact
  asked Fact (inl memory) = inl memory
  asked Fact (inr (file, greatest, asks, runs)) = inr (file, greatest, asks, to.runs (Some greatest) Fact runs)

  imported : (Fact : Import → List ℕ → Ledger → History → Type 0) → RunsImport ways words Fact → RunsImport ways' words Fact
  imported Fact (file, import, from, asks, runs) = (file, import, from, asks, to.runs None (Fact import from) runs)

  served : (status : ℕ) → RunsServing ways words serves writes output output' status → RunsServing ways' words serves writes output output' status
  served status (file, port, connections, greatest, asks, serving, lines, are, runs) = (file, port, connections, greatest, asks, serving, lines, are, to.runs (Some greatest) (ServesEach serving.exchanges) runs)

  reported : (Shown : Told → Type 0) → RunsReport ways words Shown → RunsReport ways' words Shown
  reported Shown (file, target, asks, answer, shown, runs) = (file, target, asks, answer, shown, to.runs None (AnswersReport report_of target answer) runs)

  refused_named : (fault : OpenFault) → RefusesNamed ways words fault → RefusesNamed ways' words fault
  refused_named fault (inl (file, greatest, asks, is)) = inl (file, greatest, asks, to.refuses (Some greatest) fault is)
  refused_named fault (inr (inl (file, port, connections, greatest, asks, is))) = inr (inl (file, port, connections, greatest, asks, to.refuses (Some greatest) fault is))
  refused_named fault (inr (inr (inl (file, import, from, asks, is)))) = inr (inr (inl (file, import, from, asks, to.refuses None fault is)))
  refused_named fault (inr (inr (inr (inl (file, target, asks, is))))) = inr (inr (inr (inl (file, target, asks, to.refuses None fault is))))
  refused_named fault (inr (inr (inr (inr (inl (file, asks, is)))))) = inr (inr (inr (inr (inl (file, asks, to.refuses None fault is)))))
  refused_named fault (inr (inr (inr (inr (inr (file, asks, is)))))) = inr (inr (inr (inr (inr (file, asks, to.refuses_to_migrate fault is)))))

  done : Done ways holds may_fail serves reads writes tells words input input' output output' errors errors' → Done ways' holds may_fail serves reads writes tells words input input' output output' errors errors'
  done (inl (all, none, lines)) = inl (all, none, asked (AnswersAll reads writes input output output' all) lines)
  done (inr (inl (file, asks, count, sent, audits))) = inr (inl (file, asks, count, sent, to.audits count audits))
  done (inr (inr (inl (file, asks, sent, migrates)))) = inr (inr (inl (file, asks, sent, to.migrates migrates)))
  done (inr (inr (inr (inl rows)))) = inr (inr (inr (inl (imported (λ import from. AnswersImport writes output output' false import (holds from)) rows))))
  done (inr (inr (inr (inr (inl text))))) = inr (inr (inr (inr (inl text))))
  done (inr (inr (inr (inr (inr (inl serves)))))) = inr (inr (inr (inr (inr (inl (served 0 serves))))))
  done (inr (inr (inr (inr (inr (inr report)))))) = inr (inr (inr (inr (inr (inr (reported (λ answer. (code_of answer.status ≡ 200) × Appends (writes (inner_of output)) (writes (inner_of output')) (report_output answer)) report))))))

  refused : Refused ways holds may_fail serves reads writes tells words input input' output output' errors errors' → Refused ways' holds may_fail serves reads writes tells words input input' output output' errors errors'
  refused (inl (all, some, lines)) = inl (all, some, asked (AnswersAll reads writes input output output' all) lines)
  refused (inr (inl rows)) = inr (inl (imported (λ import from. AnswersImport writes output output' true import (holds from)) rows))
  refused (inr (inr (inl serves))) = inr (inr (inl (served 1 serves)))
  refused (inr (inr (inr report))) = inr (inr (inr (reported (λ answer. (code_of answer.status ≢ 200) × Appends (writes (inner_of output)) (writes (inner_of output')) (report_output answer)) report)))

  no_desk : NoDesk ways holds may_fail serves reads writes tells words input input' output output' errors errors' → NoDesk ways' holds may_fail serves reads writes tells words input input' output output' errors errors'
  no_desk (untouched, why) = (
    untouched,
    has_none (RefusesNamed ways words) (RefusesNamed ways' words) (ways.OpensNone ⊎ ways.Runs None StaysSame) (ways'.OpensNone ⊎ ways'.Runs None StaysSame) (TellsLine tells errors errors') refused_named
        (elim [ inl none ↦ inl (to.none none) | inr stays ↦ inr (to.runs None StaysSame stays) ]) why,
  )

  unread : ImportUnread ways words may_fail → ImportUnread ways' words may_fail
  unread (file, import, from, asks, may, stays) = (file, import, from, asks, may, to.runs None StaysSame stays)

  failed : Failed ways holds may_fail serves reads writes tells words input input' output output' errors errors' → Failed ways' holds may_fail serves reads writes tells words input input' output output' errors errors'
  failed (inl (fault, shown, told, inl (leaves, lines))) = inl (fault, shown, told, inl (leaves, asked (AnswersUpTo reads writes input output output' fault) lines))
  failed (inl (fault, shown, told, inr (inl (file, asks, count, sent, audits)))) = inl (fault, shown, told, inr (inl (file, asks, count, sent, to.audits count audits)))
  failed (inl (fault, shown, told, inr (inr (inl (file, asks, sent, migrates))))) = inl (fault, shown, told, inr (inr (inl (file, asks, sent, to.migrates migrates))))
  failed (inl (fault, shown, told, inr (inr (inr (inl rows))))) = inl (fault, shown, told, inr (inr (inr (inl (imported (λ import from. CutsImport writes output output' import (holds from)) rows)))))
  failed (inl (fault, shown, told, inr (inr (inr (inr (inl text)))))) = inl (fault, shown, told, inr (inr (inr (inr (inl text)))))
  failed (inl (fault, shown, told, inr (inr (inr (inr (inr report)))))) = inl (fault, shown, told, inr (inr (inr (inr (inr (reported (λ answer. SendsFront (writes (inner_of output)) (writes (inner_of output')) (report_output answer)) report))))))
  failed (inr (inl (in_same, out_same, told, import))) = inr (inl (in_same, out_same, told, unread import))
  failed (inr (inr (in_same, told, serves))) = inr (inr (in_same, told, served 4 serves))

  bad : Bad ways holds may_fail serves reads writes tells words input input' output output' errors errors' → Bad ways' holds may_fail serves reads writes tells words input input' output output' errors errors'
  bad (none, same, told) = (to.none none, same, told)

  goes_on : (Refusal Refusal' : Type 0) (exit : ℕ) → (Refusal → Refusal') → RunsAs ways holds may_fail serves reads writes tells words input input' output output' errors errors' Refusal exit → RunsAs ways' holds may_fail serves reads writes tells words input input' output output' errors errors' Refusal' exit
  goes_on Refusal Refusal' exit none run = record {
    status = run.status;
    done = λ is. done (run.done is);
    refused = λ is. refused (run.refused is);
    bad = λ is. bad (run.bad is);
    no_desk = λ is. none (run.no_desk is);
    failed = λ is. failed (run.failed is);
    kept = run.kept;
    quiet = run.quiet;
  }

module _ {R W E : Type 0} {ways ways' : Ways} (to : Follows ways ways') {holds : List ℕ → Option (List ℕ)} {may_fail : List ℕ → Type 0} {serves : ℕ → Serving → Type 0} {reads : R → Option (List ℕ)} {writes : W → Option (List ℕ)} {tells : E → Option (List ℕ)}
    {words : List (List ℕ)} {input input' : Wire R} {output output' : Wire W} {errors errors' : Wire E} where
  -- The run's files were closed completely.
  pub closed : {exit : ℕ} (Other : Type 0) → LeavesAs ways holds may_fail serves reads writes tells words input input' output output' errors errors' exit → RunsAs ways' holds may_fail serves reads writes tells words input input' output output' errors errors' (NoDesk ways' holds may_fail serves reads writes tells words input input' output output' errors errors' ⊎ Other) exit
  closed {exit = exit} Other = goes_on ways ways' to holds may_fail serves reads writes tells words input input' output output' errors errors' (NoDesk ways holds may_fail serves reads writes tells words input input' output output' errors errors') (NoDesk ways' holds may_fail serves reads writes tells words input input' output output' errors errors' ⊎ Other) exit (λ none. inl (no_desk ways ways' to holds may_fail serves reads writes tells words input input' output output' errors errors' none))

  -- A close failed, and a fault was printed with status 3 before.
  pub unclosed : {exit : ℕ} (other : Ways) (Other : Type 0) → exit ≡ 3 → LeavesAs ways holds may_fail serves reads writes tells words input input' output output' errors errors' exit → RunsAs other holds may_fail serves reads writes tells words input input' output output' errors errors' (Other ⊎ Unclosed ways' holds may_fail serves reads writes tells words input input' output output' errors errors') exit
  unclosed other Other at run = ends_none other at (inr (inl (no_desk ways ways' to holds may_fail serves reads writes tells words input input' output output' errors errors' (run.no_desk at))))

  -- A close failed, and Unavailable was printed.
  pub unclosed_told : {exit left : ℕ} {told : Wire E} (other : Ways) (Other : Type 0) → exit ≡ 3 → left ≢ 3 → (ways'.OpensNone → ⊥) → LeavesAs ways holds may_fail serves reads writes tells words input input' output output' errors errors' left → TellsLine tells errors' told unavailable_line
      → RunsAs other holds may_fail serves reads writes tells words input input' output output' errors told (Other ⊎ Unclosed ways' holds may_fail serves reads writes tells words input input' output output' errors told) exit
  unclosed_told {left = left} other Other at desk opened run line =
      ends_none other at
      (inr (inr (left, desk, opened, errors', goes_on ways ways' to holds may_fail serves reads writes tells words input input' output output' errors errors' (NoDesk ways holds may_fail serves reads writes tells words input input' output output' errors errors') (NoDesk ways' holds may_fail serves reads writes tells words input input' output output' errors errors') left (no_desk ways ways' to holds may_fail serves reads writes tells words input input' output output' errors errors') run, line)))

-- ---- printed texts

pub one_more : {A B : Type 0} (before after : ℕ) → ((after ≡ before) × A) ⊎ ((after ≡ before + 1) × B) → after ≤ before + 1
one_more before after (inl all) = let same = all.0 in omega (arith, same)
one_more before after (inr front) = let one = front.0 in omega (arith, one)

module _ {R W E : Type 0} (ways : Ways) (holds : List ℕ → Option (List ℕ)) (may_fail : List ℕ → Type 0) (serves : ℕ → Serving → Type 0) (reads : R → Option (List ℕ)) (writes : W → Option (List ℕ)) (tells : E → Option (List ℕ))
    (words : List (List ℕ)) (input input' : Wire R) (output output' : Wire W) (errors errors' : Wire E) where
  bad_few : Bad ways holds may_fail serves reads writes tells words input input' output output' errors errors' → failures_of errors' ≤ failures_of errors + 1
  bad_few (opens, same, inl bad) = one_more (failures_of errors) (failures_of errors') bad.2
  bad_few (opens, same, inr bad) = one_more (failures_of errors) (failures_of errors') bad.2

  none_few : NoDesk ways holds may_fail serves reads writes tells words input input' output output' errors errors' → failures_of errors' ≤ failures_of errors + 1
  none_few (untouched, inl (fault, is, inl told)) = one_more (failures_of errors) (failures_of errors') told
  none_few (untouched, inl (fault, is, inr told)) = one_more (failures_of errors) (failures_of errors') told
  none_few (untouched, inr left) = one_more (failures_of errors) (failures_of errors') left.1

  end_few : TellsEnd tells output output' errors errors' → failures_of errors' ≤ failures_of errors + 1
  end_few (inl read) = one_more (failures_of errors) (failures_of errors') read.1
  end_few (inr write) = one_more (failures_of errors) (failures_of errors') write.1

  failed_few : Failed ways holds may_fail serves reads writes tells words input input' output output' errors errors' → failures_of errors' ≤ failures_of errors + 1
  failed_few (inl fault) = one_more (failures_of errors) (failures_of errors') fault.2
  failed_few (inr (inl unread)) = one_more (failures_of errors) (failures_of errors') unread.2
  failed_few (inr (inr serves)) = end_few serves.1

module _ {R W E : Type 0} {ways : Ways} {holds : List ℕ → Option (List ℕ)} {may_fail : List ℕ → Type 0} {serves : ℕ → Serving → Type 0} {reads : R → Option (List ℕ)} {writes : W → Option (List ℕ)} {tells : E → Option (List ℕ)}
    {words : List (List ℕ)} {input input' : Wire R} {output output' : Wire W} {errors errors' : Wire E} where
  pub few : {exit : ℕ} → LeavesAs ways holds may_fail serves reads writes tells words input input' output output' errors errors' exit → failures_of errors' ≤ failures_of errors + 1
  few {exit = exit} run = elim (one_of_five exit run.status) [
    | inl is ↦ let same = ap failures_of (run.quiet (inl is)) in omega (arith, same)
    | inr (inl is) ↦ let same = ap failures_of (run.quiet (inr is)) in omega (arith, same)
    | inr (inr (inl is)) ↦ bad_few ways holds may_fail serves reads writes tells words input input' output output' errors errors' (run.bad is)
    | inr (inr (inr (inl is))) ↦ none_few ways holds may_fail serves reads writes tells words input input' output output' errors errors' (run.no_desk is)
    | inr (inr (inr (inr is))) ↦ failed_few ways holds may_fail serves reads writes tells words input input' output output' errors errors' (run.failed is)
  ]
