-- Commands and entries that are read again when a file is opened.
use Rattle.std.specs.Prelude.{◌==◌, ℕ, find, Option, option_map}
use Rattle.desk_types.specs.declared.command.Entry.{Entry}
use Rattle.desk_types.specs.declared.command.Stamped.{Stamped}
use Rattle.desk_types.specs.History.{History}

-- The accepted command with this number, if there is one.
abbrev pub command_numbered : ℕ → History → Option Stamped
command_numbered number H =
    option_map (λ (e : Entry). e.stamped) (find (λ (e : Entry). e.number == number) H)
