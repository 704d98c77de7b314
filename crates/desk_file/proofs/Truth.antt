-- A database in memory never lies, and begins with no table.
use Rattle.desk_types.proofs.Common.{[], ◌≡◌, arith, inl, inr, List, refl, true, ℕ}
use Rattle.line_tables.proofs.Common.{Database, file_state, HasCleanDisk, Held, IsDatabase, no_doubt}
use Rattle.desk_file.{specs.contracts.memory_file.MemoryFileDisk.TheImpl.ghosts as disk}
use Rattle.desk_file.{specs.declared.memory_file.MemoryFile.MemoryFile}
use Rattle.sqlite.{proofs.ListingLemmas.empty_is_sound, specs.Files.AreFoundIn}
use Rattle.sqlite_catalog.proofs.ReadLemmas.{lists_once}
use Rattle.sqlite_pool.specs.Pool.{state as pool_state}
use Rattle.sqlite_schema.specs.declared.schema.Schema.{Schema}
use Rattle.sqlite_store.specs.declared.store.FileStore.{FileStore}
use Rattle.sqlite_trees.specs.Objects.{catalog_tree}

pub stays_clean : (conn : Held (FileStore MemoryFile disk)) → HasCleanDisk (file_state conn)
unfolding pool_state
stays_clean conn = no_doubt true refl

abbrev no_tables : Schema
no_tables = record { tables = []; indexes = []; views = [] }

pub finds_none : (log : List ℕ) (db : Database) → IsDatabase db → AreFoundIn (record { log = log; db = [] }) db.trees → db.schema ≡ no_tables
finds_none log db sound (inl found) = absurd (omega (arith, found.3.found.present))
finds_none log db sound (inr none) = lists_once (db.trees catalog_tree) db.schema no_tables sound.lists (empty_is_sound db.trees none.1.1).lists
