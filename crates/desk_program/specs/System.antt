-- The system, as the contract of a run sees it: nothing is known of the bytes of its files, and nothing of its ports.
use Rattle.std.specs.Prelude.{⊤, ℕ, List, Option, None}
use Rattle.sqlite_disk.specs.declared.Files.{Files}
use Rattle.desk_commands.specs.Clients.{Serving, ServesAt}
use Rattle.desk_program.specs.declared.run.ClosedFiles.{ClosedFiles}

-- The contents of the file of an import, which aren't known.
abbrev pub any_bytes : List ℕ → Option (List ℕ)
any_bytes path = None

-- Any file may fail to be read.
abbrev pub any_failure : List ℕ → Type 0
any_failure path = ⊤

-- Any connections may come to a port.
abbrev pub any_clients : ℕ → Serving → Type 0
any_clients = ServesAt {S = ⊤} (λ _ _. ⊤) tt tt

-- The files that a run closed.
abbrev pub files_in : {D : Type 0} → ClosedFiles D → Option (Files D)
files_in closed = closed.files
