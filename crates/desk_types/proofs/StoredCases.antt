-- Worked cases of the texts of commands.
use Rattle.desk_types.proofs.Common.{[], ◌∷◌, ◌≡◌, codes, length, refl, stored_text, word_text, words}
use Rattle.desk_types.specs.declared.command.Command.TheVariants.{CountsTaken, MaterialsLoaded, ReelReceived}
use Rattle.desk_types.specs.declared.command.Command.TheVariants.{SheetDefined}
use Rattle.desk_types.specs.declared.level.Level.TheVariants.{Three}
use Rattle.std.specs.Fmt.{digits}

pub seventeen_words : length words ≡ 17
seventeen_words = refl

pub a_load : stored_text (MaterialsLoaded (codes "M") (codes "1") (codes "K1")) ≡ codes "MaterialsLoaded\tM\t1\tK1"
unfolding stored_text word_text
a_load = refl

pub a_receipt_ends_with_its_label :
    stored_text (ReelReceived (codes "K1") (codes "P") (codes "L") (record { level = Three; label = 0 }) 1000) ≡ codes "ReelReceived\tK1\tP\tL\t3\t1000\t0"
unfolding stored_text word_text digits
a_receipt_ends_with_its_label = refl

pub a_row_has_its_own_list :
    stored_text (SheetDefined (codes "PR") (codes "M") (record { slot = codes "1"; part = codes "P"; designators = codes "R1" ∷ codes "R2" ∷ [] } ∷ []))
    ≡ codes "SheetDefined\tPR\tM\t1\t1\tP\t2\tR1\tR2"
unfolding stored_text word_text digits
a_row_has_its_own_list = refl

pub counts_begin_with_their_number :
    stored_text (CountsTaken (record { reel = codes "K1"; quantity = 0 } ∷ record { reel = codes "K2"; quantity = 7 } ∷ []))
    ≡ codes "CountsTaken\t2\tK1\t0\tK2\t7"
unfolding stored_text word_text digits
counts_begin_with_their_number = refl
