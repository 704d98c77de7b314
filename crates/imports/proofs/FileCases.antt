-- Worked cases of files.
use Rattle.desk_types.proofs.Common.{[], ⊤, ◌++◌, ◌∷◌, ◌≡◌, codes, Err, is_utf8, Ok, refl}
use Rattle.cfx_profile.specs.Forms.{id_of, is_printable}
use Rattle.csv.proofs.OnLiterals.{csv_on_literals}
use Rattle.csv.specs.Records.{field_at}
use Rattle.desk_types.specs.declared.command.Command.TheVariants.{CountsTaken, SheetDefined}
use Rattle.imports.specs.File.{count_row, counts_said, designators_of, file_rows, quantity_of, setup_said}
use Rattle.imports.specs.File.{sheet_row, three_texts, two_texts}
use Rattle.imports.specs.declared.fault.ImportFault.TheVariants.{BadField, BadHeader, BadRow}
use Rattle.std.proofs.Math.Utf8.{encode}
use Rattle.std.specs.Str.{chars}

unfoldable on_files : ⊤
unfolding csv_on_literals field_at is_utf8 chars encode id_of is_printable two_texts three_texts designators_of quantity_of sheet_row count_row file_rows setup_said counts_said
on_files = tt

pub a_sheet :
    setup_said (codes "PR") (codes "M") (codes "slot,part,designators\n1,P,R1 R2\n")
    ≡ Ok (SheetDefined (codes "PR") (codes "M") (record { slot = codes "1"; part = codes "P"; designators = codes "R1" ∷ codes "R2" ∷ [] } ∷ []))
unfolding on_files
a_sheet = refl

pub quoted_counts :
    counts_said (0xEF ∷ 0xBB ∷ 0xBF ∷ codes "reel,quantity\r\n\"K,1\",5\r\n\r\n\"K\"\"2\",00000007")
    ≡ Ok (CountsTaken (record { reel = codes "K,1"; quantity = 5 } ∷ record { reel = codes "K\"2"; quantity = 7 } ∷ []))
unfolding on_files
quoted_counts = refl

pub no_record : counts_said (codes "\n\n") ≡ Err BadHeader
unfolding on_files
no_record = refl

pub header_alone : counts_said (codes "reel,quantity\n") ≡ Err (BadRow 2)
unfolding on_files
header_alone = refl

pub field_too_many : counts_said (codes "reel,quantity\nK1,5\nK2,5,\n") ≡ Err (BadRow 3)
unfolding on_files
field_too_many = refl

pub no_text : counts_said (codes "reel,quantity\n" ++ 0xFF ∷ codes ",x") ≡ Err (BadRow 2)
unfolding on_files
no_text = refl

pub first_bad_field : setup_said (codes "PR") (codes "M") (codes "slot,part,designators\n1,,R1  R2\n") ≡ Err (BadField 2 2)
unfolding on_files
first_bad_field = refl
