-- The effect of the writes on the tables.
use Rattle.desk_types.proofs.Common.{[], ◌&&◌, ◌++◌, ◌==◌, ◌||◌, ◌∙◌, ◌∷◌, ◌≡◌, ap, arith, Bool, cond, drop}
use Rattle.desk_types.proofs.Common.{Equal, false, flat_map, Greater, is_eq, IsPermutation}
use Rattle.desk_types.proofs.Common.{IsPermutation-cons, IsPermutation-map, IsPermutation-refl}
use Rattle.desk_types.proofs.Common.{IsPermutation-trans, length, Less, List, map, match_ordering, not, pos}
use Rattle.desk_types.proofs.Common.{refl, subst, sym, take, take-append-drop, true, ℕ, ℤ}
use Rattle.line_tables.proofs.Common.{accepted, accepted_columns, after_edits, AreNew, cast_row, Chosen}
use Rattle.line_tables.proofs.Common.{Database, Edit, Edits, Holds, Int, is_taken, Layout, Null, put_row}
use Rattle.line_tables.proofs.Common.{rowid, Runs, schema_of, schema_tables, State, Two, Value, value_cmp}
use Rattle.line_tables.proofs.Common.{with_rowid, Writes}
use Rattle.line_tables.proofs.{Altering.list_grows, Beside.others_behind, Beside.quiet, Inserts.insert_does}
use Rattle.line_tables.proofs.{Inserts.Inserted, PutTexts.accepted_terms, PutTexts.insert_accepted_is}
use Rattle.line_tables.specs.{Edit.PutAccepted, Rows.columns_of, Rows.Tables, Rows.with_edit}
use Rattle.line_tables.specs.{declared.edit.Accepted.Accepted, declared.writing.TheConstants.INSERT_ACCEPTED}
use Rattle.sqlite.specs.{Cast.cast, Kind.TheVariants.Integer, Ops.unary, Order.Row}
use Rattle.std.proofs.{lemmas.List.Sorted.IsPermutation-swap, lemmas.List.Sums.fold-append}
use Rattle.std.specs.List.{filter_map}

either : (b : Bool) (x : Value) → cond b x x ≡ x
either true x = refl
either false x = refl

pub cast_int : (n : ℤ) → cast Integer (Int n) ≡ Int n
unfolding unary
cast_int n = either _ (Int n)

pub cast_null : cast Integer Null ≡ Null
unfolding unary
cast_null = either _ Null

pub not_taken : (b : Bool) → (not b && true) ≡ true → b ≡ false
not_taken true h = absurd (cc)
not_taken false h = refl

pub put_permutes : (rows : List Row) (new : Row) → is_taken rows new ≡ false → IsPermutation (put_row new rows) (new ∷ rows)
put_permutes [] new h = IsPermutation-refl (new ∷ [])
put_permutes (r ∷ rows) new h =
    let o = value_cmp (rowid r) (rowid new) in
    elim o as (λ o. (is_eq o || is_taken rows new) ≡ false → IsPermutation (match_ordering o (r ∷ put_row new rows) (new ∷ rows) (new ∷ r ∷ rows)) (new ∷ r ∷ rows)) [
      | Less ↦ λ free. IsPermutation-trans _ _ _ (IsPermutation-cons r _ _ (put_permutes rows new free)) (IsPermutation-swap (r ∷ new ∷ rows) (new ∷ r ∷ rows) 0 1 (omega arith) (omega arith) refl)
      | Equal ↦ λ free. absurd (cc)
      | Greater ↦ λ free. IsPermutation-refl _
    ] h

-- A row of `accepted` as stored.
abbrev kept_row : Row → Row
kept_row (id ∷ more) = id ∷ Null ∷ more
kept_row [] = []

row_cast : (a : Accepted) → cast_row accepted (kept_row (columns_of a)) ≡ kept_row (columns_of a)
row_cast a = rw (cast_int (pos a.number), cast_int (pos a.own), cast_int (pos a.effective), cast_null) refl

module _ (a : Accepted) (old new : State) where
  inserted_edits : (tables : Tables) → (holds : Holds old.now tables) → Inserted (schema_of Two holds.indexed) accepted (kept_row (columns_of a) ∷ []) old new → (new.now.schema ≡ old.now.schema) × Holds new.now (with_edit tables (PutAccepted a))
  inserted_edits tables holds went =
      let rows = old.now.trees 1 in
      let row = kept_row (columns_of a) in
      let news : with_rowid Chosen rows (cast_row accepted row) ≡ row = ap (with_rowid Chosen rows) (row_cast a) in
      let free : is_taken rows row ≡ false = not_taken (is_taken rows row) (subst (λ r. (not (is_taken rows r) && true) ≡ true) news went.step.fresh) in
      let put : new.now.trees 1 ≡ put_row row rows = went.step.rows ∙ ap (λ r. put_row r rows) news in (
        went.same ∙ sym holds.schema,
        list_grows (columns_of a) old.now new.now tables holds (record { was = holds.schema; is = went.same; others = went.step.tables })
            (subst (λ t. IsPermutation (map accepted_columns t) (columns_of a ∷ tables.accepted)) (sym put)
            (IsPermutation-trans _ _ _ (IsPermutation-map accepted_columns _ _ (put_permutes rows row free)) (IsPermutation-cons (columns_of a) _ _ holds.accepted))),
      )

  pub puts_accepted : Runs INSERT_ACCEPTED.now (columns_of a) old new → Writes (PutAccepted a ∷ []) old new
  puts_accepted h =
      let inserted : (indexed : Layout) → old.now.schema ≡ schema_of Two indexed → Inserted (schema_of Two indexed) accepted (kept_row (columns_of a) ∷ []) old new =
      λ indexed has.
      let means = insert_accepted_is indexed in
      insert_does INSERT_ACCEPTED.now (columns_of a) old new (schema_of Two indexed) has 1 accepted accepted_terms 8 refl refl refl means.0 means.1 h.count h.executed (quiet indexed 1 refl []) in
      record {
        was_open = h.shown.was_open;
        done = λ tables holds _. inserted_edits tables holds (inserted holds.indexed holds.schema);
        sound = λ tables holds _. (inserted holds.indexed holds.schema).sound;
        others = others_behind 1 old.now new.now (λ layout has. (refl, (inserted layout has).same, (inserted layout has).step.tables));
      }

-- The edits that remain after the first ones were made. Made on the second database, which has the layout of the first,
-- they give the same tables as all edits made on the first.
abbrev pub Remain : List Edit → List Edit → Database → Database → Type 0
Remain edits rest old now = (tables : Tables) → Holds old tables → AreNew edits tables → (mid : Tables) × Holds now mid × AreNew rest mid × (after_edits rest mid ≡ after_edits edits tables) × (now.schema ≡ old.schema)

pub remain_none : (edits : List Edit) (old now : Database) → Remain edits [] old now → Edits edits old now
remain_none edits old now was tables h new = let m = was tables h new in (m.4, subst (Holds now) m.3 m.1)

new_parts : (xs ys : List Edit) (tables : Tables) → AreNew (xs ++ ys) tables → AreNew xs tables × AreNew ys (after_edits xs tables)
new_parts [] ys tables h = (tt, h)
new_parts (x ∷ xs) ys tables h = let more = new_parts xs ys (with_edit tables x) h.1 in ((h.0, more.0), more.1)

module _ (edits rest : List Edit) (n : ℕ) (old mid : Database) (was : Remain edits rest old mid) where
  both : take n rest ++ drop n rest ≡ rest
  both = take-append-drop n rest

  pub remain_less : (new : Database) → Edits (take n rest) mid new → Remain edits (drop n rest) old new
  remain_less new step tables h fresh =
      let m = was tables h fresh in
      let parts = new_parts (take n rest) (drop n rest) m.0 (subst (λ l. AreNew l m.0) (sym both) m.2) in
      let next = step m.0 m.1 parts.0 in
      (after_edits (take n rest) m.0, next.1, parts.1, sym (fold-append with_edit m.0 (take n rest) (drop n rest)) ∙ ap (λ l. after_edits l m.0) both ∙ m.3, next.0 ∙ m.4)

  pub sound_less : (sound : Type 0) → ((tables : Tables) → Holds mid tables → AreNew (take n rest) tables → sound) → (tables : Tables) → Holds old tables → AreNew edits tables → sound
  sound_less sound step tables h fresh =
      let m = was tables h fresh in
      step m.0 m.1 (new_parts (take n rest) (drop n rest) m.0 (subst (λ l. AreNew l m.0) (sym both) m.2)).0
