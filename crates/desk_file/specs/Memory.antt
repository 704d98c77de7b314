-- The contents of a file in memory.
use Rattle.std.specs.Prelude.{ℕ, List}
use Rattle.desk_file.specs.declared.memory_file.MemoryFile.{MemoryFile}

-- Its bytes.
abbrev pub bytes_in : MemoryFile → List ℕ
bytes_in m = m.bytes.items
