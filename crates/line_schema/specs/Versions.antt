-- A file that was migrated from version 1 to version 2.
use Rattle.std.specs.Prelude.{◌≡◌, ℕ, IsTrue, length}
use Rattle.sqlite_trees.specs.Tree.{Trees}
use Rattle.sqlite.specs.State.{State, HasCleanDisk}
use Rattle.desk_types.specs.declared.rules.Rules.TheVariants.{One, Two}
use Rattle.desk_types.specs.History.{History}
use Rattle.desk_types.specs.Judged.{IsLawful}
use Rattle.line_tables.specs.Calls.{Reads}
use Rattle.line_tables.specs.Line.{IsOurs, schema_of, Layout, alone}
use Rattle.line_tables.specs.Rows.{Holds, HoldsBy, HoldsAt, accepted_in}
use Rattle.line_replay.specs.Rows.{ledger_tables}
use Rattle.line_schema.specs.Opening.{IsNamedBy}

-- The history is lawful by rules One, and by rules Two with the same answers: the rows of
-- `accepted`, which hold its answers, are unchanged. Its tables were those of version 1, and are
-- those of version 2 in the same layout; a crash leaves only those. This holds for a file with our
-- tables and no others.
pub record IsMigrated (old new : State) (greatest : ℕ) (H : History) (count : ℕ) : Type 0 where
  pub counted : count ≡ length H
  pub by_one : IsOurs old.committed.schema → IsLawful One greatest H
  pub by_two : IsOurs old.committed.schema → IsLawful Two greatest H
  pub before : Reads old (λ db. HoldsBy One db (ledger_tables greatest H))
  pub same : IsOurs old.committed.schema → accepted_in new.committed ≡ accepted_in old.committed
  pub after : IsOurs old.committed.schema → Holds new.committed (ledger_tables greatest H)
  pub layout : (indexed : Layout) → old.committed.schema ≡ schema_of One indexed
      → new.committed.schema ≡ schema_of Two (alone indexed)
  pub stays_open : IsTrue new.is_open
  pub alone : (trees : Trees) → new.may_leave trees → IsOurs old.committed.schema
      → HoldsAt (ledger_tables greatest H) trees

-- The file had the tables of version 1 by name. On an honest disk it was migrated, with this number
-- of commands.
pub record Migrates (old new : State) (count : ℕ) : Type 0 where
  pub named : IsNamedBy One old
  pub migrated : HasCleanDisk new
      → (greatest : ℕ) × (H : History) × IsMigrated old new greatest H count
