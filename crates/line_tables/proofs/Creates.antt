-- The effect of CREATE TABLE and CREATE INDEX, for any schema that gives the text a meaning.
use Rattle.desk_types.proofs.Common.{[], ◌++◌, ◌==◌, ◌∙◌, ◌∷◌, ◌≡◌, ◌≢◌, AllByRecursion, and_parts, ap, false}
use Rattle.desk_types.proofs.Common.{List, list_all, map, None, not, Ok, pos, refl, Result, subst, sym, true}
use Rattle.desk_types.proofs.Common.{ℕ}
use Rattle.line_tables.proofs.Common.{accepted, alone, alternate, blank, board, cast_row, Chosen, Database}
use Rattle.line_tables.proofs.Common.{found_tree, Holds, Indexed, Int, IsDatabase, Layout, mount, no_schema}
use Rattle.line_tables.proofs.Common.{Null, One, part, placement, Plain, put_row, reel, Runs, runs_as, Schema}
use Rattle.line_tables.proofs.Common.{schema_of, selected, sheet_row, State, Tally, Trees, Two, version}
use Rattle.line_tables.proofs.Common.{version_columns, with_rowid}
use Rattle.line_tables.proofs.Altering.{holds_blank, other_tree, state_tables}
use Rattle.line_tables.proofs.Beside.{quiet}
use Rattle.line_tables.proofs.CreateTexts.{accepted_is, alternate_is, board_is, found_is, insert_version_is}
use Rattle.line_tables.proofs.CreateTexts.{IsCreate, mount_is, part_is, placement_is, reel_is, selected_is}
use Rattle.line_tables.proofs.CreateTexts.{sheet_row_is, version_is, version_terms}
use Rattle.line_tables.proofs.Inserts.{insert_does, same_value, went}
use Rattle.line_tables.proofs.Puts.{cast_int, cast_null}
use Rattle.line_tables.specs.Calls.{AddsFound, Extends, Grows, IsBare, Makes}
use Rattle.line_tables.specs.Line.{first_of_line, found_by, line_schema, nothing as no_others}
use Rattle.line_tables.specs.declared.making.TheConstants.{CREATE_ACCEPTED, CREATE_ALTERNATE, CREATE_BOARD}
use Rattle.line_tables.specs.declared.making.TheConstants.{CREATE_FOUND, CREATE_MOUNT, CREATE_PART}
use Rattle.line_tables.specs.declared.making.TheConstants.{CREATE_PLACEMENT, CREATE_REEL, CREATE_SELECTED}
use Rattle.line_tables.specs.declared.making.TheConstants.{CREATE_SHEET_ROW, CREATE_VERSION, INSERT_VERSION}
use Rattle.sqlite.specs.Change.{created, KeepsRows, next_tree}
use Rattle.sqlite.specs.Command.TheVariants.{CreateTable}
use Rattle.sqlite.specs.Does.{lacks_sequence}
use Rattle.sqlite.specs.State.{Writes}
use Rattle.sqlite.specs.Table.{Table}

pub extends_then : (a b c : Schema) (old mid new : State) → Extends a b old mid → Extends b c mid new → Extends a c old new
extends_then a b c old mid new p q = record { was_open = p.was_open; bare = λ h. q.bare (p.bare h) }

all_push : {X : Type 0} (P : X → Type 0) (xs : List X) (x : X) → AllByRecursion P xs → P x → AllByRecursion P (xs ++ x ∷ [])
all_push P [] x all last = (last, tt)
all_push P (y ∷ ys) x all last = (all.0, all_push P ys x all.1 last)

still_empty : (tables : List Table) (old new : Trees) → KeepsRows tables old new → AllByRecursion (λ t. old t.tree ≡ []) tables → AllByRecursion (λ t. new t.tree ≡ []) tables
still_empty [] old new kept empty = tt
still_empty (t ∷ more) old new kept empty = (kept.0 ∙ empty.0, still_empty more old new kept.1 empty.1)

pub creates : (sql : List ℕ) (old new : State) (schema : Schema) (table : Table) → IsCreate schema sql table → lacks_sequence (created schema (record table { tree = 0 })) ≡ false → Runs sql [] old new → old.now.schema ≡ schema
    → Grows schema (created schema (record table { tree = 0 })) (next_tree schema) old.now new.now
creates sql old new schema table is counts ran has =
    let bare_table : Table = record table { tree = 0 } in
    let w = subst (λ t. Writes old new None CreateTable t [] ran.count) is.1 (runs_as sql [] old new schema has CreateTable is.0 is.2 ran.count ran.executed) in
    let all = went w.changed in
    let first = went all.1 in
    let made = first.1 in
    let both : ◌≡◌ {A = Result Table _} (Ok made.table) (Ok bare_table) = sym made.defined ∙ is.3 in
    let same : made.table ≡ bare_table = cc in
    let after : first.0.schema ≡ created schema bare_table = made.is ∙ ap (λ s. created s made.table) has ∙ ap (created schema) same in
    let none : lacks_sequence first.0.schema ≡ false = ap lacks_sequence after ∙ counts in
    let now : new.now ≡ first.0 = ap (λ (p : Tally × Database). p.1) (same_value all.2) ∙ same_value (rw none at first.2) in
    let kept = subst (λ (s : Schema). KeepsRows s.tables old.now.trees first.0.trees) has made.others in
    subst (Grows schema (created schema bare_table) (next_tree schema) old.now) (sym now) (record { schema = after; kept = kept; empty = subst (λ s. first.0.trees (next_tree s) ≡ []) has made.empty })

bare_more : (before after : Schema) (more : Table) (old new : Database) → Grows before after more.tree old new → IsBare before old → AllByRecursion (λ t. new.trees t.tree ≡ []) (before.tables ++ more ∷ [])
bare_more before after more old new grows bare = all_push (λ t. new.trees t.tree ≡ []) before.tables more (still_empty before.tables old.trees new.trees grows.kept bare.empty) grows.empty

pub creates_bare : (sql : List ℕ) (old new : State) (schema : Schema) (table : Table) → IsCreate schema sql table → lacks_sequence (created schema (record table { tree = 0 })) ≡ false → Runs sql [] old new
    → Extends schema (created schema (record table { tree = 0 })) old new
creates_bare sql old new schema table is counts ran = record {
  was_open = ran.shown.was_open;
  bare = λ bare.
      let grows = creates sql old new schema table is counts ran bare.schema in
      record { schema = grows.schema; empty = bare_more schema _ (record table { tree = next_tree schema }) old.now new.now grows bare };
}

pub adds_found : (old new : State) → Runs CREATE_FOUND.now [] old new → AddsFound old new
adds_found old new ran = record { was_open = ran.shown.was_open; added = by }
  where
    by : (i : Layout) → old.now.schema ≡ schema_of One i → Grows (schema_of One i) (schema_of Two (alone i)) (found_tree (alone i)) old.now new.now
    by (Indexed others) = creates CREATE_FOUND.now old new (schema_of One (Indexed others)) (found_by (Indexed no_others)) (found_is (Indexed others)) refl ran
    by (Plain others) = creates CREATE_FOUND.now old new (schema_of One (Plain others)) (found_by (Plain no_others)) (found_is (Plain others)) refl ran

makes_found : (old new : State) → AddsFound old new → Extends (schema_of One (Plain no_others)) line_schema old new
makes_found old new h = record { was_open = h.was_open; bare = λ bare. let grows = h.added (Plain no_others) bare.schema in record { schema = grows.schema; empty = bare_more (schema_of One (Plain no_others)) line_schema (found_by (Plain no_others)) old.now new.now grows bare } }

pub makes_list : (a b c : State) → Runs CREATE_VERSION.now [] a b → Runs CREATE_ACCEPTED.now [] b c → Extends (first_of_line 0 0) (first_of_line 2 1) a c
makes_list a b c r1 r2 =
    let one = creates_bare CREATE_VERSION.now a b (first_of_line 0 0) version version_is refl r1 in
    let two = creates_bare CREATE_ACCEPTED.now b c (first_of_line 1 0) accepted accepted_is refl r2 in
    extends_then _ _ _ a b c one two

pub makes_setup : (a b c d e : State) → Runs CREATE_PART.now [] a b → Runs CREATE_ALTERNATE.now [] b c → Runs CREATE_SHEET_ROW.now [] c d → Runs CREATE_SELECTED.now [] d e → Extends (first_of_line 2 1) (first_of_line 6 5) a e
makes_setup a b c d e r1 r2 r3 r4 =
    let one = creates_bare CREATE_PART.now a b (first_of_line 2 1) part part_is refl r1 in
    let two = creates_bare CREATE_ALTERNATE.now b c (first_of_line 3 2) alternate alternate_is refl r2 in
    let three = creates_bare CREATE_SHEET_ROW.now c d (first_of_line 4 3) sheet_row sheet_row_is refl r3 in
    let four = creates_bare CREATE_SELECTED.now d e (first_of_line 5 4) selected selected_is refl r4 in
    extends_then _ _ _ a d e (extends_then _ _ _ a c d (extends_then _ _ _ a b c one two) three) four

pub makes_floor : (a b c d : State) → Runs CREATE_REEL.now [] a b → Runs CREATE_MOUNT.now [] b c → Runs CREATE_BOARD.now [] c d → Extends (first_of_line 6 5) (first_of_line 9 8) a d
makes_floor a b c d r1 r2 r3 =
    let one = creates_bare CREATE_REEL.now a b (first_of_line 6 5) reel reel_is refl r1 in
    let two = creates_bare CREATE_MOUNT.now b c (first_of_line 7 6) mount mount_is refl r2 in
    let three = creates_bare CREATE_BOARD.now c d (first_of_line 8 7) board board_is refl r3 in
    extends_then _ _ _ a c d (extends_then _ _ _ a b c one two) three

pub makes_pieces : (a b c : State) → Runs CREATE_PLACEMENT.now [] a b → AddsFound b c → Extends (first_of_line 9 8) line_schema a c
makes_pieces a b c r1 r2 = extends_then _ _ _ a b c (creates_bare CREATE_PLACEMENT.now a b (first_of_line 9 8) placement placement_is refl r1) (makes_found b c r2)

still_bare : (tree : ℕ) (tables : List Table) (old new : Trees) → list_all (λ t. not (t.tree == tree)) tables ≡ true → AllByRecursion (λ t. t.tree ≢ tree → new t.tree ≡ old t.tree) tables → AllByRecursion (λ t. old t.tree ≡ []) tables
    → AllByRecursion (λ t. new t.tree ≡ []) tables
still_bare tree [] old new apart others empty = tt
still_bare tree (t ∷ ts) old new apart others empty = let is = and_parts _ _ apart in (others.0 (other_tree _ _ is.0) ∙ empty.0, still_bare tree ts old new is.1 others.1 empty.1)

pub version_cast : (greatest : ℕ) → cast_row version (Int (pos 1) ∷ Null ∷ Int (pos 2) ∷ Int (pos greatest) ∷ []) ≡ Int (pos 1) ∷ Null ∷ Int (pos 2) ∷ Int (pos greatest) ∷ []
version_cast greatest = rw (cast_int (pos 1), cast_int (pos 2), cast_int (pos greatest), cast_null) refl

puts_version : (greatest : ℕ) (old new : State) → Runs INSERT_VERSION.now (Int (pos greatest) ∷ []) old new → IsBare line_schema old.now → (new.now.schema ≡ line_schema) × Holds new.now (blank greatest) × IsDatabase new.now
puts_version greatest old new ran bare =
    let put = insert_does INSERT_VERSION.now (Int (pos greatest) ∷ []) old new line_schema bare.schema 0 version version_terms 4 refl refl refl insert_version_is.0 insert_version_is.1 ran.count ran.executed (quiet (Plain no_others) 0 refl []) in
    let row = Int (pos 1) ∷ Null ∷ Int (pos 2) ∷ Int (pos greatest) ∷ [] in
    let is : new.now.trees 0 ≡ row ∷ [] = put.step.rows ∙ ap (λ r. put_row (with_rowid Chosen (old.now.trees 0) r) (old.now.trees 0)) (version_cast greatest) ∙ ap (λ l. put_row row l) bare.empty.0 in
    let others : AllByRecursion (λ t. new.now.trees t.tree ≡ []) (accepted ∷ state_tables (Plain no_others)) = still_bare 0 (accepted ∷ state_tables (Plain no_others)) old.now.trees new.now.trees refl put.step.tables.1 bare.empty.1 in
    (put.same, holds_blank (Plain no_others) greatest new.now put.same (ap (map version_columns) is) others, put.sound)

pub makes_all : (greatest : ℕ) (a b c : State) → Extends no_schema line_schema a b → Runs INSERT_VERSION.now (Int (pos greatest) ∷ []) b c → Makes greatest a c
makes_all greatest a b c made put =
    let all : a.now.schema ≡ no_schema → (c.now.schema ≡ line_schema) × Holds c.now (blank greatest) × IsDatabase c.now = λ has. puts_version greatest b c put (made.bare (record { schema = has; empty = tt })) in
    record { was_open = made.was_open; done = λ has. let h = all has in record { layout = h.0; tables = h.1 }; sound = λ has. (all has).2 }
