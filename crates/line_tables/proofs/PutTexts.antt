-- The meaning of the texts that write.
use Rattle.desk_types.proofs.Common.{[], ◌∷◌, ◌≡◌, Bool, codes, List, refl, ℕ}
use Rattle.line_tables.proofs.Common.{col, command_of, everything, Insert, IsPlain, Layout, lit, Null}
use Rattle.line_tables.proofs.Common.{schema_of, Term, Two, understood, Values}
use Rattle.line_tables.specs.declared.writing.TheConstants.{INSERT_ACCEPTED}

abbrev pub accepted_terms : List Term
accepted_terms = col 0 0 ∷ lit Null ∷ col 0 1 ∷ col 0 2 ∷ col 0 3 ∷ col 0 4 ∷ col 0 5 ∷ col 0 6 ∷ []

pub insert_accepted_is : (indexed : Layout) → (command_of (understood (schema_of Two indexed) INSERT_ACCEPTED.now) ≡ Insert 1 (Values accepted_terms 8)) × IsPlain (understood (schema_of Two indexed) INSERT_ACCEPTED.now)
unfolding understood everything
insert_accepted_is indexed = (refl, (refl, refl))
