use Rattle.desk_types.proofs.Common.{[], ◌&&◌, ◌||◌, ◌∷◌, ◌≡◌, Bool, false, refl, true}
use Rattle.line_tables.proofs.Common.{are_quiet, Plain, same_name}
use Rattle.line_schema.specs.Samples.{by_source, note, note_on_reel, with_others}
use Rattle.line_tables.proofs.Ours.{is_ours_of}
use Rattle.line_schema.proofs.beside.others_may_be_beside.Goals as goal

neither : (a b : Bool) → ((a && false) || (b && false)) ≡ false
neither true true = refl
neither true false = refl
neither false true = refl
neither false false = refl

pub returns-clause-told : goal.returns-clause-told
unfolding same_name
returns-clause-told c = is_ours_of (with_others note) (Plain (record { tables = note ∷ []; indexes = by_source ∷ []; views = []; quiet = refl })) refl

refers : are_quiet 21 (note_on_reel ∷ []) ≡ false
unfolding same_name
refers = refl

refers_too : are_quiet 23 (note_on_reel ∷ []) ≡ false
unfolding same_name
refers_too = refl

pub returns-clause-refused : goal.returns-clause-refused
returns-clause-refused c = rw (refers, refers_too) (neither _ _)
