-- The effect of a DELETE and an UPDATE with tests, for any table whose rows each have a rowid.
use Rattle.desk_types.proofs.Common.{[], ◌^◌, ◌∙◌, ◌∷◌, ◌≡◌, ◌≢◌, AllByRecursion, ap, Bool, cases_Bool, drop}
use Rattle.desk_types.proofs.Common.{filter, inl, inr, IsPermutation, length, length-map, List, list_all, map}
use Rattle.desk_types.proofs.Common.{nat_le, None, Ok, refl, slice_get, Some, subst, sym, true, unwrap_or, ℕ}
use Rattle.line_tables.proofs.Common.{cast_row, command_of, Database, Enforced, holds, ids_of, IsAnswer}
use Rattle.line_tables.proofs.Common.{IsDatabase, IsPlain, Null, output, overlay, runs_as, Schema, State}
use Rattle.line_tables.proofs.Common.{statement_of, Tally, Term, understood, Update, works}
use Rattle.line_tables.proofs.{FindTexts.rows_from, Finds.overlay_none, Finds.rows_answer, Finds.shown_is}
use Rattle.line_tables.proofs.{Finds.whole, Inserts.concludes_as, Inserts.same_value, Inserts.went}
use Rattle.sqlite.proofs.Callers.{one_step, through}
use Rattle.sqlite.specs.{Command.TheVariants.Delete, Does.AtPlace, Does.Concludes, Does.Does, Does.OnRows}
use Rattle.sqlite.specs.{Edit.are_fresh, Edit.edit_of, Edit.put_all, Edit.taken_by, Edit.without_all}
use Rattle.sqlite.specs.{Effect.Answers, Order.Row, Rowids.TheVariants.Given, Rows.Deletes, Rows.Edited}
use Rattle.sqlite.specs.{Rows.Task, Rows.Updates, Rows.Written, State.Executes, State.mode_of, Table.Table}
use Rattle.sqlite.specs.{Tree.Trees, declared.run.Mode.Mode}
use Rattle.sqlite_rules.proofs.PlaceLemmas.{given}
use Rattle.sqlite_schema.specs.declared.program.Program.{Program}

abbrev pub passing : List Term → Row → Row → Bool
passing tests params r = list_all (holds (params ∷ r ∷ [])) tests

abbrev pub shows_of : ℕ → List Term → List Term → Row → Row → Row
shows_of tree tests project params r = (output (rows_from tree tests project) (params ∷ r ∷ [])).1

found_rows : (tree : ℕ) (tests project : List Term) (db : Trees) (params : Row) (rows : List Row) → IsAnswer (rows_from tree tests project) (overlay db []) params rows
    → IsPermutation (map (shows_of tree tests project params) (filter (passing tests params) (db tree))) rows
found_rows tree tests project db params rows a =
    let show = shows_of tree tests project params in
    let is = shown_is (rows_from tree tests project) params (λ r. r) show (passing tests params) (λ r. refl) (λ r. refl) (overlay db [] tree) ∙ ap (λ l. map show (filter (passing tests params) l)) (whole (overlay db [] tree) ∙ overlay_none db tree) in
    subst (λ l. IsPermutation l rows) is (rows_answer tree tests project (overlay db []) params rows a)

-- The rows found, and the table after the statement.
pub record Changed (schema : Schema) (table : Table) (tests project : List Term) (params : Row) (news : List Row → List Row) (old new : State) : Type 0 where
  pub same : new.now.schema ≡ schema
  pub sound : IsDatabase new.now
  pub found : List Row
  pub are : IsPermutation (map (shows_of table.tree tests project params) (filter (passing tests params) (old.now.trees table.tree))) found
  pub fresh : are_fresh (without_all (old.now.trees table.tree) (ids_of found)) (news found) ≡ true
  pub rows : new.now.trees table.tree ≡ put_all (without_all (old.now.trees table.tree) (ids_of found)) (news found)
  pub others : AllByRecursion (λ t. t.tree ≢ table.tree → new.now.trees t.tree ≡ old.now.trees t.tree) schema.tables

deletes_as : (task : Task) (q : Program) (db : Trees) (done : Written) → Deletes task q db (Ok done)
    → (rows : List Row) × Answers (record { schema = task.schema; trees = db }) q task.params rows × Edited task.schema task.keys db (edit_of db task.table (ids_of rows) Given 0 []) (Ok done.trees)
deletes_as task q db done h =
    let rows = went h in
    let next = went rows.2 in
    let is : done.trees ≡ next.0 = ap (λ (w : Written). w.trees) (same_value next.2) in
    (rows.0, rows.1, subst (λ t. Edited task.schema task.keys db (edit_of db task.table (ids_of rows.0) Given 0 []) (Ok t)) (sym is) next.1)

-- An UPDATE keeps a row's rowid.
abbrev pub renewed : Table → List Row → List Row
renewed table found = map (λ s. cast_row table (drop 1 s)) found

updates_as : (task : Task) (q : Program) (db : Trees) (done : Written) → Updates task q task.params db (Ok done)
    → (rows : List Row) × Answers (record { schema = task.schema; trees = db }) q task.params rows × Edited task.schema task.keys db (edit_of db task.table (ids_of rows) Given 1 rows) (Ok done.trees)
    × (done.rows ≡ (edit_of db task.table (ids_of rows) Given 1 rows).news)
updates_as task q db done h =
    let rows = went h in
    let next = went rows.2 in
    let is : done.trees ≡ next.0 = ap (λ (w : Written). w.trees) (same_value next.2) in
    (rows.0, rows.1, subst (λ t. Edited task.schema task.keys db (edit_of db task.table (ids_of rows.0) Given 1 rows.0) (Ok t)) (sym is) next.1, ap (λ (w : Written). w.rows) (same_value next.2))

told : (task : Task) (mode : Mode) (w : Written) (out : Tally × Database) → Concludes task mode None w (Ok out) → out.0.rows ≡ Some (length w.rows)
told task mode w out h =
    let tested = went h in
    let shown = went tested.2 in
    ap (λ (p : Tally × Database). p.0.rows) (same_value shown.2)

module _ (sql : List ℕ) (params : Row) (old new : State) (schema : Schema) (has : old.now.schema ≡ schema) (at : ℕ) (table : Table) (tests project : List Term)
    (listed : slice_get schema.tables at ≡ Some table) (quiet : (olds news : List Row) → works schema Enforced 0 table.tree olds news ≡ []) (plain : IsPlain (understood schema sql)) (count : ℕ)
    (ran : Executes sql params old new (Ok count)) where
  abbrev query : Program
  query = record { lets = []; body = rows_from table.tree tests project }

  abbrev task_of : Table → Task
  task_of t = record { limit = old.step_limit; keys = Enforced; schema = schema; table = t; params = params }

  pub delete_does : command_of (understood schema sql) ≡ Delete at query → Changed schema table tests project params (λ _. []) old new
  delete_does is =
      let w = runs_as sql params old new schema has (Delete at query) is plain count ran in
      let text = statement_of sql (understood schema sql) in
      let db = old.now.trees in
      let out : Tally × Database = (w.tally, new.now) in
      let there = subst (λ s. Does old.step_limit (mode_of old) params (record old.now { schema = s }) text None (Delete at query) (Ok out)) has w.changed in
      let on_rows = subst (λ o. AtPlace (λ t. OnRows (task_of t) (mode_of old) None (Delete at query) db) o (Ok out)) listed there in
      let done = through (Deletes (task_of table) query db) (Concludes (task_of table) (mode_of old) None) out on_rows in
      let rows = deletes_as (task_of table) query db done.0 done.1 in
      let end = concludes_as (task_of table) (mode_of old) done.0 out done.2 in
      let trees : new.now.trees ≡ done.0.trees = ap (λ (d : Database). d.trees) end.1 in
      let edit = edit_of db table (ids_of rows.0) Given 0 [] in
      let step = one_step schema Enforced db done.0.trees edit (quiet (taken_by db edit) edit.news) rows.2 in
      record {
        same = ap (λ (d : Database). d.schema) end.1;
        sound = w.sound;
        found = rows.0;
        are = found_rows table.tree tests project db params rows.0 (rows.1.answer Null);
        fresh = refl;
        rows = ap (λ (t : Trees). t table.tree) trees ∙ step.rows;
        others = subst (λ (t : Trees). AllByRecursion (λ u. u.tree ≢ table.tree → t u.tree ≡ db u.tree) schema.tables) (sym trees) step.tables;
      }

  pub update_does : command_of (understood schema sql) ≡ Update at query → (h : Changed schema table tests project params (renewed table) old new) × (count ≡ length h.found)
  update_does is =
      let w = runs_as sql params old new schema has (Update at query) is plain count ran in
      let text = statement_of sql (understood schema sql) in
      let db = old.now.trees in
      let out : Tally × Database = (w.tally, new.now) in
      let there = subst (λ s. Does old.step_limit (mode_of old) params (record old.now { schema = s }) text None (Update at query) (Ok out)) has w.changed in
      let on_rows = subst (λ o. AtPlace (λ t. OnRows (task_of t) (mode_of old) None (Update at query) db) o (Ok out)) listed there in
      let done = through (Updates (task_of table) query params db) (Concludes (task_of table) (mode_of old) None) out on_rows in
      let rows = updates_as (task_of table) query db done.0 done.1 in
      let end = concludes_as (task_of table) (mode_of old) done.0 out done.2 in
      let trees : new.now.trees ≡ done.0.trees = ap (λ (d : Database). d.trees) end.1 in
      let left = without_all (db table.tree) (ids_of rows.0) in
      let news = given left (renewed table rows.0) in
      let edit = edit_of db table (ids_of rows.0) Given 1 rows.0 in
      let step = one_step schema Enforced db done.0.trees edit (quiet (taken_by db edit) edit.news) rows.2 in
      let many : count ≡ length rows.0 =
      w.counted ∙ ap (λ o. unwrap_or o 0) (told (task_of table) (mode_of old) done.0 out done.2) ∙ ap length (rows.3 ∙ news) ∙ length-map rows.0 (λ s. cast_row table (drop 1 s)) in (
        record {
          same = ap (λ (d : Database). d.schema) end.1;
          sound = w.sound;
          found = rows.0;
          are = found_rows table.tree tests project db params rows.0 (rows.1.answer Null);
          fresh = subst (λ ns. are_fresh left ns ≡ true) news step.fresh;
          rows = ap (λ (t : Trees). t table.tree) trees ∙ step.rows ∙ ap (put_all left) news;
          others = subst (λ (t : Trees). AllByRecursion (λ u. u.tree ≢ table.tree → t u.tree ≡ db u.tree) schema.tables) (sym trees) step.tables;
        },
        many,
      )
