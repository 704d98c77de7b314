-- A database of version 1 becomes one of version 2.
use Rattle.desk_types.proofs.Common.{[], ◌++◌, ◌==◌, ◌∙◌, ◌∷◌, ◌≡◌, ◌≢◌, AllByRecursion, and_parts, ap, ap₂}
use Rattle.desk_types.proofs.Common.{Bool, drop, false, filter, inl, inr, IsPermutation, IsTrue, List}
use Rattle.desk_types.proofs.Common.{list_all, map, not, pos, refl, subst, sym, true, ℕ, ℤ}
use Rattle.line_tables.proofs.Common.{accepted_columns, alone, alternate, AreApart, board, cast_row, column}
use Rattle.line_tables.proofs.Common.{found, found_tree, Holds, HoldsBy, ids_of, Indexed, Int, is_int}
use Rattle.line_tables.proofs.Common.{kept_in, Layout, mount, Null, One, one_permutation, others_in, part}
use Rattle.line_tables.proofs.Common.{placement, Plain, put_all, reel, Row, rowid, Runs, schema_of}
use Rattle.line_tables.proofs.Common.{schema_tables, selected, sheet_row, State, Table, Trees, Two, version}
use Rattle.line_tables.proofs.Common.{version_columns, version_in, without_all}
use Rattle.line_tables.proofs.{Alterations.one_of_map, Altering.found_kept, Altering.nothing}
use Rattle.line_tables.proofs.{Altering.other_tree, Altering.stays, Apart.apart_none, Apart.taken}
use Rattle.line_tables.proofs.{Beside.quiet, Changes.Changed, Changes.passing, Changes.renewed}
use Rattle.line_tables.proofs.{Changes.shows_of, Changes.update_does, CreateTexts.update_version_is}
use Rattle.line_tables.proofs.{CreateTexts.version_renewed, Creates.version_cast}
use Rattle.line_tables.specs.{Calls.AddsFound, Calls.Grows, Calls.Migrates, Line.found_by, Rows.Tables}
use Rattle.line_tables.specs.{Rows.version_row, declared.migrating.TheConstants.UPDATE_VERSION}
use Rattle.sqlite_catalog.specs.Change.{KeepsRows}

-- The tables of version 1 except `version`.
abbrev rest : Layout → List Table
rest indexed = drop 1 (schema_tables One indexed)

apart_one : (r : Row) (n : ℤ) → column r 0 ≡ Int n → AreApart (r ∷ [])
apart_one r n is = record {
  keyed = λ a there. elim there [ inl same ↦ subst (λ x. IsTrue (is_int (rowid x))) (sym same) (subst (λ v. IsTrue (is_int v)) (sym is) refl) | inr none ↦ absurd none ];
  apart = λ a b one other tie. elim one [ inl p ↦ elim other [ inl q ↦ p ∙ sym q | inr none ↦ absurd none ] | inr none ↦ absurd none ];
}

kept_on : (tree : ℕ) (tables more : List Table) (a b c : Trees) → list_all (λ u. not (u.tree == tree)) tables ≡ true → KeepsRows tables a b → AllByRecursion (λ u. u.tree ≢ tree → c u.tree ≡ b u.tree) (tables ++ more) → KeepsRows tables a c
kept_on tree [] more a b c apart kept others = tt
kept_on tree (u ∷ us) more a b c apart kept others = let is = and_parts _ _ apart in (others.0 (other_tree u.tree tree is.0) ∙ kept.0, kept_on tree us more a b c is.1 kept.1 others.1)

-- The single row of `version` has the other number.
renews_version : (i : Layout) (greatest : ℕ) (r : Row) (old new : State) → version_columns r ≡ version_row One greatest → old.now.trees 0 ≡ r ∷ [] → Changed (schema_of Two i) version [] version_renewed [] (renewed version) old new → version_in new.now ≡ version_row Two greatest ∷ []
renews_version i greatest r old new columns is h =
    let first : column r 0 ≡ Int (pos 1) = cc in
    let last : column r 3 ≡ Int (pos greatest) = cc in
    let show = shows_of 0 [] version_renewed [] in
    let found : h.found ≡ show r ∷ [] = one_permutation (show r) h.found (subst (λ l. IsPermutation (map show (filter (passing [] []) l)) h.found) is h.are) in
    let apart : AreApart (old.now.trees 0) = subst AreApart (sym is) (apart_one r (pos 1) first) in
    let gone : without_all (old.now.trees 0) (ids_of h.found) ≡ [] = taken (passing [] []) (old.now.trees 0) apart show (λ x. refl) h.found h.are ∙ ap (filter (λ x. not (passing [] [] x))) is in
    let row : cast_row version (drop 1 (show r)) ≡ Int (pos 1) ∷ Null ∷ Int (pos 2) ∷ Int (pos greatest) ∷ [] = ap₂ (λ a b. cast_row version (a ∷ Null ∷ Int (pos 2) ∷ b ∷ [])) first last ∙ version_cast greatest in
    ap (map version_columns) (h.rows ∙ ap₂ (λ l f. put_all l (renewed version f)) gone found ∙ ap (λ x. put_all [] (x ∷ [])) row)

module _ (i : Layout) (a b c : State) (added : AddsFound a b) (ran : Runs UPDATE_VERSION.now [] b c) (has : a.now.schema ≡ schema_of One i) where
  grown : Grows (schema_of One i) (schema_of Two (alone i)) (found_tree (alone i)) a.now b.now
  grown = added.added i has

  changed : Changed (schema_of Two (alone i)) version [] version_renewed [] (renewed version) b c
  changed = (update_does UPDATE_VERSION.now [] b c (schema_of Two (alone i)) grown.schema 0 version [] version_renewed refl (quiet (alone i) 0 refl) (update_version_is (alone i)).1 ran.count ran.executed (update_version_is (alone i)).0).0

  same : KeepsRows (rest i) a.now.trees c.now.trees
  same = kept_on 0 (rest i) (found_by (alone i) ∷ (others_in (alone i)).tables) a.now.trees b.now.trees c.now.trees refl grown.kept.1 changed.others.1

  empty : kept_in found c.now ≡ []
  empty = found_kept (alone i) c.now changed.same ∙ changed.others.1.1.1.1.1.1.1.1.1.1.0 (behind (alone i)) ∙ grown.empty
    where
      behind : (i : Layout) → found_tree i ≢ 0
      behind (Indexed others) = other_tree 21 0 refl
      behind (Plain others) = other_tree 19 0 refl

  numbered : (greatest : ℕ) → version_in a.now ≡ version_row One greatest ∷ [] → version_in c.now ≡ version_row Two greatest ∷ []
  numbered greatest was =
      let row = one_of_map version_columns (a.now.trees 0) (version_row One greatest) was in
      renews_version (alone i) greatest row.0 b c row.2 (grown.kept.0 ∙ row.1) changed

  migrated : (t : Tables) → HoldsBy One a.now t → Holds c.now t
  migrated t was = record {
    indexed = alone i;
    schema = changed.same;
    version = numbered t.greatest was.version;
    accepted = subst (λ l. IsPermutation (map accepted_columns l) t.accepted) (sym same.0) was.accepted;
    state = record {
      parts = stays part a.now c.now same.1.0 was.state.parts;
      alternates = stays alternate a.now c.now same.1.1.0 was.state.alternates;
      sheets = stays sheet_row a.now c.now same.1.1.1.0 was.state.sheets;
      selected = stays selected a.now c.now same.1.1.1.1.0 was.state.selected;
      reels = stays reel a.now c.now same.1.1.1.1.1.0 was.state.reels;
      mounts = stays mount a.now c.now same.1.1.1.1.1.1.0 was.state.mounts;
      boards = stays board a.now c.now same.1.1.1.1.1.1.1.0 was.state.boards;
      placements = stays placement a.now c.now same.1.1.1.1.1.1.1.1.0 was.state.placements;
      found = nothing found c.now empty was.state.found;
    };
    apart = (subst AreApart (sym same.1.0) was.apart.0, (subst AreApart (sym same.1.1.0) was.apart.1.0, (subst AreApart (sym same.1.1.1.0) was.apart.1.1.0, (subst AreApart (sym same.1.1.1.1.0) was.apart.1.1.1.0, (subst AreApart (sym same.1.1.1.1.1.0) was.apart.1.1.1.1.0, (subst AreApart (sym same.1.1.1.1.1.1.0) was.apart.1.1.1.1.1.0, (subst AreApart (sym same.1.1.1.1.1.1.1.0) was.apart.1.1.1.1.1.1.0, (subst AreApart (sym empty) apart_none, tt))))))));
  }

pub migrates : (a b c : State) → AddsFound a b → Runs UPDATE_VERSION.now [] b c → Migrates a c
migrates a b c added ran = record {
  was_open = added.was_open;
  done = record {
    holds = λ t was. migrated was.indexed a b c added ran was.schema t was;
    layout = λ i has. (changed i a b c added ran has).same;
    same = λ i has. same i a b c added ran has;
  };
  sound = λ t was. (changed was.indexed a b c added ran was.schema).sound;
}
