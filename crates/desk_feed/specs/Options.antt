-- Reading the options of an import in order: the import, or the first bad option.
use Rattle.std.specs.Prelude.{ℕ, List, Result, Ok, ok_or}
use Rattle.cfx_profile.specs.Fault.{◌>>=◌}
use Rattle.cfx_profile.specs.Forms.{id_of}
use Rattle.cfx_profile.specs.Minute.{minute_of}
use Rattle.desk_types.specs.Id.{Name}
use Rattle.desk_feed.specs.declared.options.BadOption.{BadOption}
use Rattle.desk_feed.specs.declared.options.BadOption.TheVariants as bad
use Rattle.imports.specs.declared.import.Content.TheVariants.{Sheet, Counts}
use Rattle.imports.specs.declared.import.Import.{Import}

-- The option's text as an id.
abbrev pub id_in : List ℕ → BadOption → Result Name BadOption
id_in text option = ok_or (id_of text) option

-- The minute of the option `time`, in the form of a message's TimeStamp.
abbrev pub time_in : List ℕ → Result ℕ BadOption
time_in text = ok_or (minute_of text) bad.Time

unfoldable pub counts_import : List ℕ → List ℕ → List ℕ → Result Import BadOption
counts_import id source time = do
  uid ← id_in id bad.Id
  sender ← id_in source bad.Source
  minute ← time_in time
  Ok (record { uid = uid; source = sender; minute = minute; content = Counts })

-- The import of a setup file: this product's sheet on this machine.
unfoldable pub setup_import : List ℕ → List ℕ → List ℕ → List ℕ → List ℕ → Result Import BadOption
setup_import id source time product machine = do
  stamp ← counts_import id source time
  made ← id_in product bad.Product
  maker ← id_in machine bad.Machine
  Ok (record {
    uid = stamp.uid;
    source = stamp.source;
    minute = stamp.minute;
    content = Sheet made maker;
  })
