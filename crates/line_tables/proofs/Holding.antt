-- Reads of the tables that a database holds.
use Rattle.desk_types.proofs.Common.{◌∙◌, ◌≡◌, ap₂, Bool, filter, IsPermutation, IsPermutation-sym, None}
use Rattle.desk_types.proofs.Common.{Option, Some, subst, sym}
use Rattle.line_tables.proofs.Common.{accepted_in, Database, Holds, HoldsAt, IsDatabase, IsPermutation-filter}
use Rattle.line_tables.proofs.Common.{only, Reads, Row, row_of, Schema, State, Trees, Two}
use Rattle.line_tables.{proofs.Finds.one_order, specs.Rows.columns_of, specs.Rows.Tables}
use Rattle.line_tables.{specs.declared.edit.Accepted.Accepted}
use Rattle.sqlite_catalog.{proofs.ReadLemmas.lists_once, specs.Listing.Lists}
use Rattle.sqlite_trees.specs.Objects.{catalog_tree}

pub held_at : (t : Tables) (trees : Trees) → HoldsAt t trees → (db : Database) → IsDatabase db → db.trees ≡ trees → Holds db t
held_at t trees (left, holds, sound, is) db found same =
    let lists : Lists (left.trees catalog_tree) db.schema = subst (λ (d : Trees). Lists (d catalog_tree) db.schema) (same ∙ is) found.lists in
    let schema : left.schema ≡ db.schema = lists_once (left.trees catalog_tree) left.schema db.schema sound.lists lists in
    let one : left ≡ db = ap₂ (λ (s : Schema) (d : Trees). record { schema = s; trees = d }) schema (sym (same ∙ is)) in
    subst (λ (d : Database). Holds d t) one holds

module _ (old : State) (tables : Tables) (holds : Holds old.committed tables) where
  pub only_held : (has : Row → Bool) (o : Option Row) → Reads old (λ db. filter has (accepted_in db) ≡ only o) → filter has tables.accepted ≡ only o
  only_held has o h =
      one_order _ o (subst (IsPermutation (filter has tables.accepted)) (h.are (record { rules = Two; layout = holds.indexed; same = holds.schema })) (IsPermutation-sym _ _ (IsPermutation-filter has (accepted_in old.committed) tables.accepted holds.accepted)))

  pub row_held : (has : Row → Bool) (o : Option Accepted) → Reads old (λ db. filter has (accepted_in db) ≡ row_of o) → filter has tables.accepted ≡ row_of o
  row_held has None h = only_held has None h
  row_held has (Some a) h = only_held has (Some (columns_of a)) h
