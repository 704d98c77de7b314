-- What a command prints on standard error: at most one failed write, so the line of a failed close can be counted.
use Rattle.desk_types.proofs.Common.{◌+◌, ◌≤◌, ap, arith, failures_of, inl, inr, List, Option, ℕ}
use Rattle.desk_types.specs.declared.wire.Wire.{Wire}
use Rattle.desk_commands.specs.Clients.{Exchange, Serving}
use Rattle.desk_commands.specs.Ends.{PrintEnds, ReportEnds, ServingEnds}
use Rattle.desk_commands.specs.Told.{TellsEnd}
use Rattle.desk_program.proofs.WaysOfRuns.{one_more}
use Rattle.http_stream.specs.Answers.{Told}
use Rattle.line_commands.specs.Noting.{HasNoEntry}
use Rattle.line_commands.specs.Serving.{HasNoLists}
use Rattle.line_commands.specs.declared.left.LineLeft.{LineLeft}
use Rattle.sqlite_disk.specs.declared.Disk as disk
use Rattle.sqlite_wal.specs.Recovery.{Image}

module _ {F W E : Type 0} {g : disk.Ghosts F} (image : Image) (left : LineLeft F g)
    (writes : W → Option (List ℕ)) (tells : E → Option (List ℕ)) (output output' : Wire W) (errors errors' : Wire E)
  where
    none-few : HasNoLists image left tells errors errors' → failures_of errors' ≤ failures_of errors + 1
    none-few (fault, is, inl told) = one_more (failures_of errors) (failures_of errors') told
    none-few (fault, is, inr told) = one_more (failures_of errors) (failures_of errors') told

    end-few : TellsEnd tells output output' errors errors' → failures_of errors' ≤ failures_of errors + 1
    end-few (inl read) = one_more (failures_of errors) (failures_of errors') read.1
    end-few (inr write) = one_more (failures_of errors) (failures_of errors') write.1

    pub few : {More : Type 0} {exit connections : ℕ} {Serves : Serving → Type 0} {Answers : List Exchange → Type 0}
        → ServingEnds writes tells output output' errors errors' connections Serves Answers
        (HasNoLists image left tells errors errors' × More) exit → failures_of errors' ≤ failures_of errors + 1
    few ends = elim ends.status [
      | inl is ↦ let same = ap failures_of (ends.well (inl is)).quiet in omega (arith, same)
      | inr (inl is) ↦ let same = ap failures_of (ends.well (inr is)).quiet in omega (arith, same)
      | inr (inr (inl is)) ↦ none-few (ends.no_desk is).0
      | inr (inr (inr is)) ↦ end-few (ends.failed is)
    ]

    entry-few : HasNoEntry image left tells errors errors' → failures_of errors' ≤ failures_of errors + 1
    entry-few (inl none) = none-few none
    entry-few (inr (same, told)) = one_more (failures_of errors) (failures_of errors') told

    pub report-few : {exit : ℕ} {Answers : Told → Type 0}
        → ReportEnds writes tells output output' errors errors' Answers (HasNoEntry image left tells errors errors')
        exit
        → failures_of errors' ≤ failures_of errors + 1
    report-few ends = elim ends.status [
      | inl is ↦ let same = ap failures_of (ends.well (inl is)).quiet in omega (arith, same)
      | inr (inl is) ↦ let same = ap failures_of (ends.well (inr is)).quiet in omega (arith, same)
      | inr (inr (inl is)) ↦ entry-few (ends.no_desk is)
      | inr (inr (inr is)) ↦ one_more (failures_of errors) (failures_of errors') (ends.failed is).0.1
    ]

    pub print-few : {exit : ℕ} {text : List ℕ}
        → PrintEnds writes tells output output' errors errors' text (HasNoEntry image left tells errors errors') exit
        → failures_of errors' ≤ failures_of errors + 1
    print-few ends = elim ends.status [
      | inl is ↦ let same = ap failures_of (ends.well is).quiet in omega (arith, same)
      | inr (inl is) ↦ entry-few (ends.no_desk is)
      | inr (inr is) ↦ one_more (failures_of errors) (failures_of errors') (ends.failed is).1
    ]
