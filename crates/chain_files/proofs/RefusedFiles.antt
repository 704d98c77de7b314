-- A file that was refused, once it is closed.
use Rattle.std.proofs.Common.{◌≡◌, ◌∙◌, ℕ, All, Option, Some, None, List, [], ◌∷◌, ◌++◌, length-append, subst, append-nil, arith, inl, inr}
use Rattle.std.specs.Option.{option_to_list}
use Rattle.std.proofs.lemmas.List.Elements.{All-from_recursion, recursion_from_All}
use Rattle.sqlite_disk.specs.declared.Disk as disk
use Rattle.sqlite_disk.specs.declared.Files.{Files}
use Rattle.sqlite_store.specs.declared.store.FileStore.{FileStore}
use Rattle.sqlite_wal.specs.Reads.{AreClean}
use Rattle.sqlite_wal.specs.Recovery.{Image}
use Rattle.sqlite_wal.proofs.LogLemmas.{SeenMayStay}
use Rattle.sqlite.specs.Held.{Held}
use Rattle.line_schema.specs.declared.fault.OpenFault.{OpenFault}
use Rattle.desk_file.specs.Refused.{RefusesRun}
use Rattle.desk_commands.specs.Closed.{Close, ClosesConn}
use Rattle.desk_commands.proofs.ClosedFiles.{refuses_run_to}
use Rattle.chain_files.specs.Files.{AreHonest, IsFaultOf, IsRefused, start_of}
use Rattle.chain_files.proofs.OneFileMore.{front, last-clean}

-- It was closed again.
pub closed-again : {D : Type 0} {g : disk.Ghosts D} → SeenMayStay g → (image : Image) (fault : OpenFault)
    (conn : Held (FileStore D g)) → RefusesRun image None (record { fault = fault; file = Some conn; unread = None })
    → (how : Close) (f : Files D) → ClosesConn how conn f → (closed closed' : List (Files D)) → closed' ≡ closed ++ f ∷ []
    → IsRefused g image closed closed' fault
closed-again stays image fault conn refuses how f closes closed closed' order =
    (Some f, order, inr (how, refuses_run_to (start_of image) stays how fault conn f closes refuses))

-- The fault is in its contents.
pub to-fault : {D : Type 0} (g : disk.Ghosts D) (image : Image) (closed closed' : List (Files D)) (fault : OpenFault) → IsRefused g image closed closed' fault → All (λ (f : Files D). AreClean g f.log f.db) closed' → IsFaultOf image fault
to-fault g image closed closed' fault (files, order, inl is) clean = inl is
to-fault g image closed closed' fault (None, order, inr (how, refused)) clean =
    elim refused.0 [
      | inl is ↦ inl is
      | inr is ↦ inr (inl is.0)
    ]
to-fault g image closed closed' fault (Some f, order, inr (how, refused)) clean = inr (inr (refused.0 (last-clean g closed closed' f order clean)).0)

-- No disk of the files before it lied either.
pub honest-before : {D : Type 0} (g : disk.Ghosts D) (image : ℕ → Image) (closed closed' : List (Files D)) (files : Option (Files D))
    → closed' ≡ closed ++ option_to_list files → AreHonest g image closed' → AreHonest g image closed
honest-before g image closed closed' None order honest =
    subst (λ (fs : List (Files _)). AreHonest g image fs) (order ∙ append-nil closed) honest
honest-before {D} g image closed closed' (Some f) order honest =
    let P : Files D → Type 0 = λ f. AreClean g f.log f.db in
    let more = length-append closed (f ∷ []) in
    let all = subst (λ (fs : List (Files D)). AreHonest g image fs) order honest in
    record {
      clean = All-from_recursion P closed (front P closed f (recursion_from_All P (closed ++ f ∷ []) all.clean)).0;
      ours = λ place low. all.ours place (omega (arith, more, low));
    }
