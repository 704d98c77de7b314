-- Reads, in terms of the earlier committed contents.
use Rattle.desk_types.proofs.Common.{subst, sym}
use Rattle.line_tables.proofs.Common.{Database, IsOurs, KeepsCommit, Reads, State}

pub reads_as : (old : State) (P Q : Database → Type 0) → ((db : Database) → P db → Q db) → Reads old P → Reads old Q
reads_as old P Q f p = record { was_open = p.was_open; are = λ schema. f old.committed (p.are schema) }

pub reads_two : (old : State) (P Q R : Database → Type 0) → ((db : Database) → P db → Q db → R db) → Reads old P → Reads old Q → Reads old R
reads_two old P Q R f p q = record { was_open = p.was_open; are = λ schema. f old.committed (p.are schema) (q.are schema) }

pub reads_back : (old mid : State) (P : Database → Type 0) → KeepsCommit old mid → Reads mid P → Reads old P
reads_back old mid P kept r =
    let same = kept.committed r.was_open in
    record { was_open = kept.was_open r.was_open; are = λ schema. subst P same (r.are (subst (λ (db : Database). IsOurs db.schema) (sym same) schema)) }
