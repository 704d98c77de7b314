-- A change of one table, and its effect on the set of all tables.
use Rattle.desk_types.proofs.Common.{[], ◌&&◌, ◌==◌, ◌∙◌, ◌∷◌, ◌≡◌, ◌≢◌, AllByRecursion, and_from, and_parts}
use Rattle.desk_types.proofs.Common.{ap, Bool, cases_Bool, eq-eqb, eqb-true, false, filter, found_of, inl}
use Rattle.desk_types.proofs.Common.{inr, IsPermutation, IsPermutation-refl, IsTrue, List, list_all, map}
use Rattle.desk_types.proofs.Common.{None, not, Option, option_map, option_to_list, refl, subst, sym}
use Rattle.desk_types.proofs.Common.{takes_of, true, ℕ}
use Rattle.line_tables.proofs.Common.{accepted, accepted_columns, alternate, AreApart, AreRows, blank, board}
use Rattle.line_tables.proofs.Common.{changed_tables, columns, Database, found, found_tree, Holds, Indexed}
use Rattle.line_tables.proofs.Common.{IsDatabase, kept_in, Layout, mount, One, others_in, part, placement}
use Rattle.line_tables.proofs.Common.{Plain, reel, Row, RowEdit, rows_in, Rules, schema_of, schema_tables}
use Rattle.line_tables.proofs.Common.{selected, sheet_row, State, Table, tree_in, Trees, Two, version}
use Rattle.line_tables.proofs.Common.{version_columns}
use Rattle.desk_types.specs.{Edits.IsNew as IsNewRow, Edits.with_edit as state_with}
use Rattle.desk_types.specs.{Tables.Tables as StateTables}
use Rattle.line_tables.proofs.{Apart.apart_none, Beside.far_kept, Beside.is_low}
use Rattle.line_tables.specs.{Calls.WritesRow, Line.found_by, Line.nothing as no_others, Rowids.AreAllApart}
use Rattle.line_tables.specs.{Rows.Tables, Rows.version_row, StateRows.HoldsAlternates, StateRows.HoldsBoards}
use Rattle.line_tables.specs.{StateRows.HoldsFound, StateRows.HoldsMounts, StateRows.HoldsParts}
use Rattle.line_tables.specs.{StateRows.HoldsPlacements, StateRows.HoldsReels, StateRows.HoldsSelected}
use Rattle.line_tables.specs.{StateRows.HoldsSheets, StateRows.HoldsState}

abbrev pub state_tables : Layout → List Table
state_tables indexed = part ∷ alternate ∷ sheet_row ∷ selected ∷ reel ∷ mount ∷ board ∷ placement ∷ found_by indexed ∷ []

-- ---- the rows of one table

abbrev pub rows_at : Table → Database → List Row
rows_at table db = map (columns table) (db.trees table.tree)

pub found_kept : (indexed : Layout) (db : Database) → db.schema ≡ schema_of Two indexed → kept_in found db ≡ db.trees (found_tree indexed)
found_kept indexed db has = ap (λ n. db.trees n) (ap (tree_in found) has)

abbrev pub without : (Row → Bool) → List Row → List Row
without has rows = filter (λ row. not (has row)) rows

abbrev pub put_in : (Row → Bool) → Row → List Row → List Row
put_in has row rows = row ∷ without has rows

-- The table has these rows in some order, each with its own rowid.
pub record IsKept (table : Table) (db : Database) (rows : List Row) : Type 0 where
  pub same : IsPermutation (rows_at table db) rows
  pub apart : AreApart (db.trees table.tree)

-- If the database has our schema in a layout, only this table was changed in the transaction, and the trees list the
-- schema.
pub record Steps (indexed : Layout) (table : Table) (old new : State) : Type 0 where
  pub was_open : IsTrue old.is_open
  pub same : old.now.schema ≡ schema_of Two indexed → new.now.schema ≡ schema_of Two indexed
  pub sound : old.now.schema ≡ schema_of Two indexed → IsDatabase new.now
  pub others : old.now.schema ≡ schema_of Two indexed → AllByRecursion (λ t. t.tree ≢ table.tree → new.now.trees t.tree ≡ old.now.trees t.tree) (schema_tables Two indexed)

pub record Alters (indexed : Layout) (table : Table) (change : List Row → List Row) (old new : State) : Type 0 where
  pub steps : Steps indexed table old new
  pub rows : old.now.schema ≡ schema_of Two indexed → (rows : List Row) → IsKept table old.now rows → IsKept table new.now (change rows)

others_then : (tree : ℕ) (tables : List Table) (a b c : Trees) → AllByRecursion (λ t. t.tree ≢ tree → b t.tree ≡ a t.tree) tables → AllByRecursion (λ t. t.tree ≢ tree → c t.tree ≡ b t.tree) tables
    → AllByRecursion (λ t. t.tree ≢ tree → c t.tree ≡ a t.tree) tables
others_then tree [] a b c p q = tt
others_then tree (t ∷ ts) a b c p q = (λ other. q.0 other ∙ p.0 other, others_then tree ts a b c p.1 q.1)

pub alters_then : (indexed : Layout) (table : Table) (f g : List Row → List Row) (a b c : State) → Alters indexed table f a b → Alters indexed table g b c → Alters indexed table (λ rows. g (f rows)) a c
alters_then indexed table f g a b c p q = record {
  steps = record {
    was_open = p.steps.was_open;
    same = λ has. q.steps.same (p.steps.same has);
    sound = λ has. q.steps.sound (p.steps.same has);
    others = λ has. others_then table.tree (schema_tables Two indexed) a.now.trees b.now.trees c.now.trees (p.steps.others has) (q.steps.others (p.steps.same has));
  };
  rows = λ has rows was. q.rows (p.steps.same has) (f rows) (p.rows has rows was);
}

-- ---- tables that did not change

pub other_tree : (a b : ℕ) → not (a == b) ≡ true → a ≢ b
other_tree a b h e = let same : (a == b) ≡ true = eq-eqb a b e in cc

module _ {K R : Type 0} {has : K → Row → Bool} {cols : K → R → Row} {f : K → Option R} (table : Table) where
  pub stays : (old new : Database) → kept_in table new ≡ kept_in table old → AreRows has cols (rows_in table old) f → AreRows has cols (rows_in table new) f
  stays old new is h = subst (λ l. AreRows has cols (map (columns table) l) f) (sym is) h

  pub nothing : (db : Database) → kept_in table db ≡ [] → ((key : K) → f key ≡ None) → AreRows has cols (rows_in table db) f
  nothing db is none = subst (λ l. AreRows has cols (map (columns table) l) f) (sym is) (record { found = λ key. sym (ap (λ o. option_to_list (option_map (cols key) o)) (none key)); keyed = tt })

other_found : (indexed : Layout) (tree : ℕ) → (not (21 == tree) && not (19 == tree)) ≡ true → found_tree indexed ≢ tree
other_found (Indexed others) tree h = other_tree 21 tree (and_parts _ _ h).0
other_found (Plain others) tree h = other_tree 19 tree (and_parts _ _ h).1

pub far_from_found : (indexed : Layout) (tree : ℕ) → (not (tree == 21) && not (tree == 19)) ≡ true → not (tree == found_tree indexed) ≡ true
far_from_found (Indexed others) tree h = (and_parts _ _ h).0
far_from_found (Plain others) tree h = (and_parts _ _ h).1

-- All tables except the one with this tree are unchanged.
pub record OthersHold (tree : ℕ) (db : Database) (t : StateTables) : Type 0 where
  pub parts : not (3 == tree) ≡ true → HoldsParts db t
  pub alternates : not (5 == tree) ≡ true → HoldsAlternates db t
  pub sheets : not (7 == tree) ≡ true → HoldsSheets db t
  pub selected : not (9 == tree) ≡ true → HoldsSelected db t
  pub reels : not (11 == tree) ≡ true → HoldsReels db t
  pub mounts : not (13 == tree) ≡ true → HoldsMounts db t
  pub boards : not (15 == tree) ≡ true → HoldsBoards db t
  pub placements : not (17 == tree) ≡ true → HoldsPlacements db t
  pub found : (not (21 == tree) && not (19 == tree)) ≡ true → HoldsFound db t

-- The trees of all other tables stay, and so does the layout.
pub record IsElsewhere (indexed : Layout) (tree : ℕ) (old new : Database) : Type 0 where
  pub was : old.schema ≡ schema_of Two indexed
  pub is : new.schema ≡ schema_of Two indexed
  pub others : AllByRecursion (λ u. u.tree ≢ tree → new.trees u.tree ≡ old.trees u.tree) (schema_tables Two indexed)

pub elsewhere : (indexed : Layout) (table : Table) (old new : State) → Steps indexed table old new → old.now.schema ≡ schema_of Two indexed → IsElsewhere indexed table.tree old.now new.now
elsewhere indexed table old new step has = record { was = has; is = step.same has; others = step.others has }

found_stays : (indexed : Layout) (tree : ℕ) (old new : Database) → IsElsewhere indexed tree old new → (not (21 == tree) && not (19 == tree)) ≡ true → kept_in found new ≡ kept_in found old
found_stays indexed tree old new e h = found_kept indexed new e.is ∙ e.others.1.1.1.1.1.1.1.1.1.1.0 (other_found indexed tree h) ∙ sym (found_kept indexed old e.was)

pub others_hold : (indexed : Layout) (tree : ℕ) (old new : Database) (t : StateTables) → IsElsewhere indexed tree old new → HoldsState old t → OthersHold tree new t
others_hold indexed tree old new t e was = record {
  parts = λ h. stays part old new (e.others.1.1.0 (other_tree 3 tree h)) was.parts;
  alternates = λ h. stays alternate old new (e.others.1.1.1.0 (other_tree 5 tree h)) was.alternates;
  sheets = λ h. stays sheet_row old new (e.others.1.1.1.1.0 (other_tree 7 tree h)) was.sheets;
  selected = λ h. stays selected old new (e.others.1.1.1.1.1.0 (other_tree 9 tree h)) was.selected;
  reels = λ h. stays reel old new (e.others.1.1.1.1.1.1.0 (other_tree 11 tree h)) was.reels;
  mounts = λ h. stays mount old new (e.others.1.1.1.1.1.1.1.0 (other_tree 13 tree h)) was.mounts;
  boards = λ h. stays board old new (e.others.1.1.1.1.1.1.1.1.0 (other_tree 15 tree h)) was.boards;
  placements = λ h. stays placement old new (e.others.1.1.1.1.1.1.1.1.1.0 (other_tree 17 tree h)) was.placements;
  found = λ h. stays found old new (found_stays indexed tree old new e h) was.found;
}

-- The rows of a changed table have distinct rowids, and so have those of all others.
module _ (indexed : Layout) (tree : ℕ) (old new : Database) (e : IsElsewhere indexed tree old new) (this : AreApart (old.trees tree) → AreApart (new.trees tree)) where
  still_apart : (table : Table) → (table.tree ≢ tree → new.trees table.tree ≡ old.trees table.tree) → AreApart (old.trees table.tree) → AreApart (new.trees table.tree)
  still_apart table other was = elim (cases_Bool (table.tree == tree)) [
    | inl it ↦
        let is = eqb-true table.tree tree it in
        subst (λ n. AreApart (new.trees n)) (sym is) (this (subst (λ n. AreApart (old.trees n)) is was))
    | inr it ↦ subst AreApart (sym (other (other_tree table.tree tree (ap not it)))) was
  ]

  found_apart : AreApart (kept_in found old) → AreApart (kept_in found new)
  found_apart was = subst AreApart (sym (found_kept indexed new e.is)) (still_apart (found_by indexed) e.others.1.1.1.1.1.1.1.1.1.1.0 (subst AreApart (found_kept indexed old e.was) was))

  pub all_apart : AreAllApart old → AreAllApart new
  all_apart was = (still_apart part e.others.1.1.0 was.0, (still_apart alternate e.others.1.1.1.0 was.1.0, (still_apart sheet_row e.others.1.1.1.1.0 was.1.1.0, (still_apart selected e.others.1.1.1.1.1.0 was.1.1.1.0, (still_apart reel e.others.1.1.1.1.1.1.0 was.1.1.1.1.0, (still_apart mount e.others.1.1.1.1.1.1.1.0 was.1.1.1.1.1.0, (still_apart board e.others.1.1.1.1.1.1.1.1.0 was.1.1.1.1.1.1.0, (found_apart was.1.1.1.1.1.1.1.0, tt))))))))

pub all_apart_but : (indexed : Layout) (tree : ℕ) (old new : Database) → IsElsewhere indexed tree old new → list_all (λ (u : Table). not (u.tree == tree)) (found_by (Plain no_others) ∷ changed_tables) ≡ true → AreAllApart old → AreAllApart new
all_apart_but indexed tree old new e none was =
    let m = and_parts _ _ none in
    let n0 = and_parts _ _ m.1 in
    let n1 = and_parts _ _ n0.1 in
    let n2 = and_parts _ _ n1.1 in
    let n3 = and_parts _ _ n2.1 in
    let n4 = and_parts _ _ n3.1 in
    let n5 = and_parts _ _ n4.1 in
    let n6 = and_parts _ _ n5.1 in
    let n7 = and_parts _ _ n6.1 in
    let found_is = found_stays indexed tree old new e (and_from _ _ n7.0 m.0) in
    (subst AreApart (sym (e.others.1.1.0 (other_tree 3 tree n0.0))) was.0, (subst AreApart (sym (e.others.1.1.1.0 (other_tree 5 tree n1.0))) was.1.0, (subst AreApart (sym (e.others.1.1.1.1.0 (other_tree 7 tree n2.0))) was.1.1.0, (subst AreApart (sym (e.others.1.1.1.1.1.0 (other_tree 9 tree n3.0))) was.1.1.1.0, (subst AreApart (sym (e.others.1.1.1.1.1.1.0 (other_tree 11 tree n4.0))) was.1.1.1.1.0, (subst AreApart (sym (e.others.1.1.1.1.1.1.1.0 (other_tree 13 tree n5.0))) was.1.1.1.1.1.0, (subst AreApart (sym (e.others.1.1.1.1.1.1.1.1.0 (other_tree 15 tree n6.0))) was.1.1.1.1.1.1.0, (subst AreApart (sym found_is) was.1.1.1.1.1.1.1.0, tt))))))))

-- ---- all tables

pub list_grows : (row : Row) (old new : Database) (t : Tables) → (was : Holds old t) → IsElsewhere was.indexed 1 old new → IsPermutation (rows_in accepted new) (row ∷ t.accepted) → Holds new (record t { accepted = row ∷ t.accepted })
list_grows row old new t was e list =
    let k = others_hold was.indexed 1 old new t.state e was.state in
    record {
      indexed = was.indexed;
      schema = e.is;
      version = ap (map version_columns) (e.others.0 (other_tree 0 1 refl)) ∙ was.version;
      accepted = list;
      state = record { parts = k.parts refl; alternates = k.alternates refl; sheets = k.sheets refl; selected = k.selected refl; reels = k.reels refl; mounts = k.mounts refl; boards = k.boards refl; placements = k.placements refl; found = k.found refl };
      apart = all_apart_but was.indexed 1 old new e refl was.apart;
    }

pub holds_blank : (indexed : Layout) (greatest : ℕ) (db : Database) → db.schema ≡ schema_of Two indexed → rows_in version db ≡ version_row Two greatest ∷ [] → AllByRecursion (λ u. db.trees u.tree ≡ []) (accepted ∷ state_tables indexed) → Holds db (blank greatest)
unfolding takes_of found_of
holds_blank indexed greatest db has one empty =
    let none = found_kept indexed db has ∙ empty.1.1.1.1.1.1.1.1.1.0 in
    record {
      indexed = indexed;
      schema = has;
      version = one;
      accepted = subst (λ l. IsPermutation (map accepted_columns l) []) (sym empty.0) (IsPermutation-refl []);
      state = record {
        parts = nothing part db empty.1.0 (λ key. refl);
        alternates = nothing alternate db empty.1.1.0 (λ key. refl);
        sheets = nothing sheet_row db empty.1.1.1.0 (λ key. refl);
        selected = nothing selected db empty.1.1.1.1.0 (λ key. refl);
        reels = nothing reel db empty.1.1.1.1.1.0 (λ key. refl);
        mounts = nothing mount db empty.1.1.1.1.1.1.0 (λ key. refl);
        boards = nothing board db empty.1.1.1.1.1.1.1.0 (λ key. refl);
        placements = nothing placement db empty.1.1.1.1.1.1.1.1.0 (λ key. refl);
        found = nothing found db none (λ key. refl);
      };
      apart = (subst AreApart (sym empty.1.0) apart_none, (subst AreApart (sym empty.1.1.0) apart_none, (subst AreApart (sym empty.1.1.1.0) apart_none, (subst AreApart (sym empty.1.1.1.1.0) apart_none, (subst AreApart (sym empty.1.1.1.1.1.0) apart_none, (subst AreApart (sym empty.1.1.1.1.1.1.0) apart_none, (subst AreApart (sym empty.1.1.1.1.1.1.1.0) apart_none, (subst AreApart (sym none) apart_none, tt))))))));
    }

module _ (e : RowEdit) (table : Layout → Table) (old new : State) (sole : (indexed : Layout) → (not (0 == (table indexed).tree) && (not (1 == (table indexed).tree) && is_low indexed (table indexed).tree)) ≡ true) (step : (indexed : Layout) → Steps indexed (table indexed) old new) where
  -- An edit writes the rows that its statements produce.
  pub writes : ((indexed : Layout) → old.now.schema ≡ schema_of Two indexed → AreAllApart old.now → AreAllApart new.now)
      → ((indexed : Layout) (t : StateTables) → old.now.schema ≡ schema_of Two indexed → HoldsState old.now t → AreAllApart old.now → IsNewRow e t → HoldsState new.now (state_with e t)) → WritesRow e old new
  writes apart state = record {
    was_open = (step (Plain no_others)).was_open;
    done = λ t was fresh.
        let i = was.indexed in
        let others = (step i).others was.schema in
        let is = and_parts _ _ (sole i) in
        let more = and_parts _ _ is.1 in
        let now = (step i).same was.schema in (
          now ∙ sym was.schema,
          record {
            indexed = i;
            schema = now;
            version = ap (map version_columns) (others.0 (other_tree 0 (table i).tree is.0)) ∙ was.version;
            accepted = subst (λ l. IsPermutation (map accepted_columns l) t.accepted) (sym (others.1.0 (other_tree 1 (table i).tree more.0))) was.accepted;
            state = state i t.state was.schema was.state was.apart fresh.0;
            apart = apart i was.schema was.apart;
          },
        );
    sound = λ t was fresh. (step was.indexed).sound was.schema;
    others = record {
      schema = λ layout has. (step layout).same has ∙ sym has;
      rows = λ layout has. far_kept layout (table layout).tree (and_parts _ _ (and_parts _ _ (sole layout)).1).1 (others_in layout).tables (others_in layout).quiet old.now.trees new.now.trees ((step layout).others has).1.1.1.1.1.1.1.1.1.1.1;
    };
  }

pub alters_writes : (e : RowEdit) (table : Layout → Table) (change : List Row → List Row) (old new : State) → ((indexed : Layout) → (not (0 == (table indexed).tree) && (not (1 == (table indexed).tree) && is_low indexed (table indexed).tree)) ≡ true)
    → ((indexed : Layout) → old.now.schema ≡ schema_of Two indexed → AreAllApart old.now → AreApart (old.now.trees (table indexed).tree))
    → ((indexed : Layout) (t : StateTables) → IsElsewhere indexed (table indexed).tree old.now new.now → HoldsState old.now t → OthersHold (table indexed).tree new.now t → IsNewRow e t → IsPermutation (rows_at (table indexed) new.now) (change (rows_at (table indexed) old.now)) → HoldsState new.now (state_with e t))
    → ((indexed : Layout) → Alters indexed (table indexed) change old new) → WritesRow e old new
alters_writes e table change old new sole pick state did =
    let kept : (i : Layout) → old.now.schema ≡ schema_of Two i → AreApart (old.now.trees (table i).tree) → IsKept (table i) new.now (change (rows_at (table i) old.now)) =
    λ i has apart. (did i).rows has (rows_at (table i) old.now) (record { same = IsPermutation-refl (rows_at (table i) old.now); apart = apart }) in
    let beside = λ (i : Layout) (has : old.now.schema ≡ schema_of Two i). elsewhere i (table i) old new (did i).steps has in
    writes e table old new sole (λ i. (did i).steps) (λ i has all. all_apart i (table i).tree old.now new.now (beside i has) (λ apart. (kept i has apart).apart) all)
    (λ i t has was all fresh. state i t (beside i has) was (others_hold i (table i).tree old.now new.now t (beside i has) was) fresh (kept i has (pick i has all)).same)
