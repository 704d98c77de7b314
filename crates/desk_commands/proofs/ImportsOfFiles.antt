-- An import of the bytes read from a file.
use Rattle.desk_types.proofs.Common.{History, List, Option, Result, ℕ}
use Rattle.desk_laws.proofs.Common.{Stamped}
use Rattle.desk_answers.specs.Ledger.{ForLists, Ledger}
use Rattle.desk_feed.{proofs.FileFronts.said_by_all, specs.Folder.IsRead, specs.Import.IsSaidBy}
use Rattle.imports.{specs.Import.command_said, specs.declared.fault.ImportFault.ImportFault}
use Rattle.imports.{specs.declared.import.Import.Import}

pub says_all : {S : Type 0} (Stands : S → Ledger → Type 0) (Trusts : S → Type 0) (old new : S) (import : Import) (file : Option (List ℕ)) (bytes : List ℕ) (Fact : Result Stamped ImportFault → Ledger → History → Type 0)
    → IsRead file bytes → ForLists Stands Trusts old new (Fact (command_said import bytes))
    → ForLists Stands Trusts old new (λ G H. (said : Result Stamped ImportFault) × IsSaidBy import file said × Fact said G H)
says_all Stands Trusts old new import file bytes Fact is all G stands trusts =
    let after = all G stands trusts in
    (after.0, after.1, (command_said import bytes, said_by_all import file bytes is, after.2))
