-- The command of an import.
use Rattle.std.specs.Prelude.{ℕ, List, Result, Ok}
use Rattle.cfx_profile.specs.Fault.{◌>>=◌}
use Rattle.desk_types.specs.declared.command.Command.{Command}
use Rattle.desk_types.specs.declared.command.Stamped.{Stamped}
use Rattle.imports.specs.File.{setup_said, counts_said}
use Rattle.imports.specs.declared.fault.ImportFault.{ImportFault}
use Rattle.imports.specs.declared.import.Content.{Content}
use Rattle.imports.specs.declared.import.Content.TheVariants.{Sheet, Counts}
use Rattle.imports.specs.declared.import.Import.{Import}

-- The command of a file's rows: a product's sheet on a machine, or a count.
abbrev pub rows_said : Content → List ℕ → Result Command ImportFault
rows_said (Sheet product machine) bytes = setup_said product machine bytes
rows_said Counts bytes = counts_said bytes

-- The command with the import's UniqueID, source and minute.
abbrev pub stamped_by : Import → Command → Stamped
stamped_by import command =
    record { uid = import.uid; source = import.source; minute = import.minute; command = command }

-- The import's command from the file's bytes, or the first fault.
unfoldable pub command_said : Import → List ℕ → Result Stamped ImportFault
command_said import bytes = do
  command ← rows_said import.content bytes
  Ok (stamped_by import command)
