-- The minute of a time text, using the two grammars of `jiff`.
use Rattle.std.specs.Prelude.{ℕ, ◌+◌, ◌*◌, ◌/◌, ℤ, pos, negsuc, List, Option, Some, None, Result, Ok, Err, ok_or}
use Rattle.jiff.specs.Words.{parse_timestamp, parse_datetime, Error}
use Rattle.jiff_core.specs.Calendar.{days_from_civil}
use Rattle.jiff_fmt.specs.Temporal.{DateParts, TimeParts}
use Rattle.cfx_profile.specs.declared.minute.MinuteFault.{MinuteFault}
use Rattle.cfx_profile.specs.declared.minute.MinuteFault.TheVariants.{BadTime}

-- An instant in nanoseconds, rounded down to minutes since 1970-01-01T00:00Z; none before.
abbrev pub minute_of_nanos : ℤ → Option ℕ
minute_of_nanos (pos n) = Some (n / 60_000_000_000)
minute_of_nanos (negsuc n) = None

-- The minute of a UTC time of day, on a day counted from 1970-01-01; none before.
abbrev pub minute_of_day : ℤ → ℕ → ℕ → Option ℕ
minute_of_day (pos d) hour minute = Some (1440 * d + 60 * hour + minute)
minute_of_day (negsuc d) hour minute = None

-- The minute of a date with an optional time of day.
abbrev pub minute_of_civil : Result (DateParts × TimeParts) Error → Option ℕ
minute_of_civil (Err e) = None
minute_of_civil (Ok p) =
    minute_of_day (days_from_civil p.0.year p.0.month p.0.day) p.1.hour p.1.minute

-- The minute of the text's instant, or else of its civil date and time.
abbrev pub minute_of_reading : List ℕ → Result ℤ Error → Option ℕ
minute_of_reading text (Ok nanos) = minute_of_nanos nanos
minute_of_reading text (Err e) = minute_of_civil (parse_datetime text)

-- The minute of the text's instant (with `Z` or an offset), or else of its civil date and time in
-- UTC.
abbrev pub minute_of : List ℕ → Option ℕ
minute_of text = minute_of_reading text (parse_timestamp text)

-- The minute, or the fault of a text without one.
unfoldable pub minute_said : List ℕ → Result ℕ MinuteFault
minute_said text = ok_or (minute_of text) BadTime
