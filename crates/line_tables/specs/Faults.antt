-- The meaning of an error.
use Rattle.std.specs.Prelude.{◌≢◌}
use Rattle.sqlite.specs.declared.error.Error.{Error}
use Rattle.sqlite.specs.declared.error.Error.TheVariants.{SqliteFailure}
use Rattle.sqlite.specs.declared.error.ErrorCode.TheVariants.{OutOfMemory}

-- This holds unless memory was refused.
abbrev pub OnlyWhere : Type 0 → Error → Type 0
OnlyWhere P e = e ≢ SqliteFailure OutOfMemory → P
