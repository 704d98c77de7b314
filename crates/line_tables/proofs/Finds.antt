-- The results of the queries.
use Rattle.desk_types.proofs.Common.{[], ◌&&◌, ◌++◌, ◌==◌, ◌^◌, ◌||◌, ◌∙◌, ◌∷◌, ◌≡◌, ap, ap₂, arith, Bool}
use Rattle.desk_types.proofs.Common.{Err, false, filter, flat_map, Global, IfOk, if◌then◌else◌, inl, inr}
use Rattle.desk_types.proofs.Common.{is_ok, IsPermutation, IsPermutation-map, IsPermutation-sym, IsTrue}
use Rattle.desk_types.proofs.Common.{IsUtf8, length, length-map, length_permutation, List, list_all, list_any}
use Rattle.desk_types.proofs.Common.{map, nat_le, None, not, Ok, Option, pos, refl, Result, Some, subst}
use Rattle.desk_types.proofs.Common.{subst₂, sym, true, true≢false, unwrap_or, Vec, ℕ}
use Rattle.line_tables.proofs.Common.{accepted_columns, accepted_in, column, Database, Error, Ghosts}
use Rattle.line_tables.proofs.Common.{has_number, has_uid, Held, holds, Int, is_before, IsAnswer, IsOurs}
use Rattle.line_tables.proofs.Common.{Null, one_permutation, only, Output, output, overlay, Query, Reads, Row}
use Rattle.line_tables.proofs.Common.{Schema, schema_of, Selects, State, state, Term, Text, Trees, understood}
use Rattle.line_tables.proofs.Common.{version_columns, version_in}
use Rattle.line_tables.proofs.{FindTexts.accepted_names, FindTexts.before_query, FindTexts.IsSelect}
use Rattle.line_tables.proofs.{FindTexts.IsSelectBy, FindTexts.IsSelectIn, FindTexts.number_query}
use Rattle.line_tables.proofs.{FindTexts.rows_from, FindTexts.select_before_is, FindTexts.select_number_is}
use Rattle.line_tables.proofs.{FindTexts.select_uid_is, FindTexts.select_version_is, FindTexts.uid_query}
use Rattle.line_tables.proofs.{FindTexts.version_query, Keeps.shown_open}
use Rattle.line_tables.specs.{Calls.IsVersionOf, declared.reading.TheConstants.SELECT_BEFORE}
use Rattle.line_tables.specs.{declared.reading.TheConstants.SELECT_NUMBER}
use Rattle.line_tables.specs.{declared.reading.TheConstants.SELECT_UID}
use Rattle.line_tables.specs.{declared.version.TheConstants.SELECT_VERSION, declared.version.Version.Version}
use Rattle.sqlite.proofs.Callers.{reads_as}
use Rattle.sqlite.specs.{Command.TheVariants.Select, State.Shown}
use Rattle.std.proofs.{Common.String, Math.Dec.eqb-suc-zero, lemmas.Str.IsUtf8-string_bytes}
use Rattle.std.specs.String.{string_bytes}

answer_in : {S : Type 0} (g : Ghosts S) (schema : Schema) (sql : List ℕ) (q : Query) (names : List (List ℕ)) → IsSelectIn schema sql q names → (params : Row) (old : Held S) (rows : List Row) → Selects g sql params old rows → (state g old).committed.schema ≡ schema
    → IsAnswer q (overlay (state g old).committed.trees []) params rows
answer_in g schema sql q names is params old rows h has =
    let read = reads_as sql params (state g (record old { in_transaction = true })) (state g h.after) schema (ap (λ (db : Database). db.schema) h.settled ∙ has) (Select (record { lets = []; body = q }) names) is.0 is.2 is.1 rows h.shown in
    subst (λ (db : Database). IsAnswer q (overlay db.trees []) params rows) h.settled (read.answer Null)

not_shown : (schema : Schema) (sql : List ℕ) (params : Row) (old new : State) (rows : List Row) → Shown sql params old new rows → old.now.schema ≡ schema → is_ok (understood schema sql) ≡ false → ⊥
unfolding Shown
not_shown schema sql params old new rows h has none = true≢false (ap is_ok (sym h.1.is ∙ ap (λ s. understood s sql) has) ∙ none)

pub answer_by : {S : Type 0} (g : Ghosts S) (sql : List ℕ) (q : Schema → Query) (names : List (List ℕ)) → IsSelectBy sql q names → (params : Row) (old : Held S) (rows : List Row) → Selects g sql params old rows → IsOurs (state g old).committed.schema
    → IsAnswer (q (state g old).committed.schema) (overlay (state g old).committed.trees []) params rows
answer_by g sql q names is params old rows h ours = let rules = ours.rules in let indexed = ours.layout in let has = ours.same in elim (is rules indexed) [
  | inl means ↦ subst (λ s. IsAnswer (q s) (overlay (state g old).committed.trees []) params rows) (sym has) (answer_in g (schema_of rules indexed) sql (q (schema_of rules indexed)) names means params old rows h has)
  | inr none ↦ absurd (not_shown (schema_of rules indexed) sql params _ _ rows h.shown (ap (λ (db : Database). db.schema) h.settled ∙ has) none)
]

pub answer_of : {S : Type 0} (g : Ghosts S) (sql : List ℕ) (q : Query) (names : List (List ℕ)) → IsSelect sql q names → (params : Row) (old : Held S) (rows : List Row) → Selects g sql params old rows → IsOurs (state g old).committed.schema
    → IsAnswer q (overlay (state g old).committed.trees []) params rows
answer_of g sql q names is = answer_by g sql (λ _. q) names is

abbrev pub shown_of : Query → Row → List Row → List Row
shown_of q params rows = map (λ (o : Output). o.1) (map (output q) (flat_map (λ r. if list_all (holds (params ∷ r ∷ [])) q.filter then (params ∷ r ∷ []) ∷ [] else []) rows))

pub rows_answer : (tree : ℕ) (test project : List Term) (db : Trees) (params : Row) (rows : List Row) → IsAnswer (rows_from tree test project) db params rows → IsPermutation (shown_of (rows_from tree test project) params (db tree)) rows
rows_answer tree test project db params rows a =
    let q = rows_from tree test project in
    let kept = a.distinct ∙ ap (map (output q)) a.grouped in
    let same : IsPermutation (map (λ (o : Output). o.1) a.kept) (map (λ (o : Output). o.1) a.ordered) = IsPermutation-map (λ (o : Output). o.1) a.kept a.ordered a.same in
    subst₂ (λ k r. IsPermutation k r) (ap (map (λ (o : Output). o.1)) kept) (sym a.shown) same

pub shown_is : (q : Query) (params : Row) (columns : Row → Row) (show : Row → Row) (has : Row → Bool) → ((r : Row) → list_all (holds (params ∷ r ∷ [])) q.filter ≡ has (columns r)) → ((r : Row) → (output q (params ∷ r ∷ [])).1 ≡ show (columns r))
    → (rows : List Row) → shown_of q params rows ≡ map show (filter has (map columns rows))
shown_is q params columns show has test out [] = refl
shown_is q params columns show has test out (r ∷ rows) = go (list_all (holds (params ∷ r ∷ [])) q.filter) (has (columns r)) (test r) (shown_is q params columns show has test out rows)
  where
    go : (b c : Bool) → b ≡ c → shown_of q params rows ≡ map show (filter has (map columns rows))
        → map (λ (o : Output). o.1) (map (output q) ((if b then (params ∷ r ∷ []) ∷ [] else []) ++ flat_map (λ r. if list_all (holds (params ∷ r ∷ [])) q.filter then (params ∷ r ∷ []) ∷ [] else []) rows)) ≡ map show (if c then columns r ∷ filter has (map columns rows) else filter has (map columns rows))
    go true true e more = ap₂ (λ x rest. x ∷ rest) (out r) more
    go false false e more = more
    go true false e more = absurd (true≢false e)
    go false true e more = absurd (true≢false (sym e))

pub and_true : (b : Bool) → (b && true) ≡ b
and_true true = refl
and_true false = refl

pub whole : (rows : List Row) → map (λ (r : Row). r) rows ≡ rows
whole [] = refl
whole (r ∷ rows) = ap (λ rest. r ∷ rest) (whole rows)

pub overlay_none : (db : Trees) (tree : ℕ) → overlay db [] tree ≡ db tree
overlay_none db tree = elim (nat_le (2 ^ 31) tree) as (λ b. unwrap_or (if b then None else None) (db tree) ≡ db tree) [ true ↦ refl | false ↦ refl ]

pub finds_rows : {S : Type 0} (g : Ghosts S) (sql : List ℕ) (tree : Schema → ℕ) (test project : List Term) (names : List (List ℕ)) → IsSelectBy sql (λ schema. rows_from (tree schema) test project) names → (params : Row) (columns : Row → Row) (has : Row → Bool)
    → ((r : Row) → list_all (holds (params ∷ r ∷ [])) test ≡ has (columns r)) → ((r : Row) → (output (rows_from 0 test project) (params ∷ r ∷ [])).1 ≡ columns r)
    → (old : Held S) (rows : List Row) → Selects g sql params old rows → Reads (state g old) (λ db. IsPermutation (filter has (map columns (db.trees (tree db.schema)))) rows)
finds_rows g sql tree test project names is params columns has passes out old rows h = record {
  was_open = h.was_open;
  are = λ schema.
      let at = tree (state g old).committed.schema in
      subst (λ l. IsPermutation l rows) (ap (shown_of (rows_from at test project) params) (overlay_none (state g old).committed.trees at) ∙ shown_is (rows_from at test project) params columns (λ r. r) has passes out ((state g old).committed.trees at) ∙ whole _)
      (rows_answer at test project (overlay (state g old).committed.trees []) params rows (answer_by g sql (λ schema. rows_from (tree schema) test project) names is params old rows h schema));
}

pub finds_uid : {S : Type 0} (g : Ghosts S) (uid : List ℕ) (old : Held S) (rows : List Row) → Selects g SELECT_UID.now (Text uid ∷ []) old rows → Reads (state g old) (λ db. IsPermutation (filter (has_uid uid) (accepted_in db)) rows)
finds_uid g uid old rows h = record {
  was_open = h.was_open;
  are = λ schema. subst (λ l. IsPermutation l rows) (shown_is uid_query (Text uid ∷ []) accepted_columns (λ r. r) (has_uid uid) (λ r. and_true _) (λ r. refl) ((state g old).committed.trees 1) ∙ whole _)
      (rows_answer 1 _ _ _ (Text uid ∷ []) rows (answer_of g SELECT_UID.now uid_query accepted_names select_uid_is (Text uid ∷ []) old rows h schema));
}

pub finds_number : {S : Type 0} (g : Ghosts S) (number : ℕ) (old : Held S) (rows : List Row) → Selects g SELECT_NUMBER.now (Int (pos number) ∷ []) old rows → Reads (state g old) (λ db. IsPermutation (filter (has_number number) (accepted_in db)) rows)
finds_number g number old rows h = record {
  was_open = h.was_open;
  are = λ schema. subst (λ l. IsPermutation l rows) (shown_is number_query (Int (pos number) ∷ []) accepted_columns (λ r. r) (has_number number) (λ r. and_true _) (λ r. refl) ((state g old).committed.trees 1) ∙ whole _)
      (rows_answer 1 _ _ _ (Int (pos number) ∷ []) rows (answer_of g SELECT_NUMBER.now number_query accepted_names select_number_is (Int (pos number) ∷ []) old rows h schema));
}

any_shown : (has : Row → Bool) (show : Row → Row) (all rows : List Row) → IsPermutation (map show (filter has all)) rows → (b : Bool) → (b ≡ (length rows == 0)) → not b ≡ list_any has all
any_shown has show all rows same b is = rw is (ap (λ n. not (n == 0)) (length_permutation _ _ same ∙ length-map (filter has all) show) ∙ some_pass all)
  where
    some_pass : (xs : List Row) → not (length (filter has xs) == 0) ≡ list_any has xs
    some_pass [] = refl
    some_pass (x ∷ xs) = go (has x) (some_pass xs)
      where
        go : (c : Bool) → not (length (filter has xs) == 0) ≡ list_any has xs → not (length (if c then x ∷ filter has xs else filter has xs) == 0) ≡ (c || list_any has xs)
        go true more = ap not (eqb-suc-zero (length (filter has xs)))
        go false more = more

pub finds_before : {S : Type 0} (g : Ghosts S) (uid : List ℕ) (number : ℕ) (old : Held S) (rows : List Row) (b : Bool) → Selects g SELECT_BEFORE.now (Text uid ∷ Int (pos number) ∷ []) old rows → b ≡ (length rows == 0)
    → Reads (state g old) (λ db. not b ≡ list_any (is_before uid number) (accepted_in db))
finds_before g uid number old rows b h is = record {
  was_open = h.was_open;
  are = λ schema. any_shown (is_before uid number) (λ r. column r 0 ∷ []) (accepted_in (state g old).committed) rows
      (subst (λ l. IsPermutation l rows) (shown_is before_query (Text uid ∷ Int (pos number) ∷ []) accepted_columns (λ r. column r 0 ∷ []) (is_before uid number) (λ r. ap (λ c. has_uid uid (accepted_columns r) && c) (and_true _)) (λ r. refl) ((state g old).committed.trees 1))
      (rows_answer 1 _ _ _ (Text uid ∷ Int (pos number) ∷ []) rows (answer_of g SELECT_BEFORE.now before_query _ select_before_is (Text uid ∷ Int (pos number) ∷ []) old rows h schema))) b is;
}

all_pass : (rows : List Row) → shown_of version_query [] rows ≡ map version_columns rows
all_pass [] = refl
all_pass (r ∷ rows) = ap (λ rest. version_columns r ∷ rest) (all_pass rows)

pub one_order : (xs : List Row) (o : Option Row) → IsPermutation xs (only o) → xs ≡ only o
one_order [] None h = refl
one_order (x ∷ xs) None h = absurd (omega (arith, length_permutation _ _ h))
one_order xs (Some x) h = one_permutation x xs (IsPermutation-sym _ _ h)

pub finds_only : (has : Row → Bool) (old : State) (rows : List Row) (o : Option Row) → rows ≡ only o → Reads old (λ db. IsPermutation (filter has (accepted_in db)) rows) → Reads old (λ db. filter has (accepted_in db) ≡ only o)
finds_only has old rows o is h = record { was_open = h.was_open; are = λ schema. one_order _ o (subst (IsPermutation (filter has (accepted_in old.committed))) is (h.are schema)) }

version_by : (xs rows : List Row) (o : Option Version) → IsPermutation xs rows → IsVersionOf rows o → IsVersionOf xs o
version_by xs rows (Some v) same is = one_order xs (Some _) (subst (IsPermutation xs) is same)
version_by xs rows None same none = λ number greatest is. none number greatest (one_order rows (Some _) (IsPermutation-sym _ _ (subst (λ l. IsPermutation l rows) is same)))

pub finds_version : {S : Type 0} (g : Ghosts S) (old : Held S) (rows : List Row) (o : Option Version) → Selects g SELECT_VERSION.now [] old rows → IsVersionOf rows o → Reads (state g old) (λ db. IsVersionOf (version_in db) o)
finds_version g old rows o h is = record {
  was_open = h.was_open;
  are = λ schema. version_by (version_in (state g old).committed) rows o (subst (λ l. IsPermutation l rows) (all_pass ((state g old).committed.trees 0)) (rows_answer 0 _ _ _ [] rows (answer_of g SELECT_VERSION.now version_query _ select_version_is [] old rows h schema))) is;
}

module _ {S : Type 0} (g : Ghosts S) (old : Held S) where
  pub selects : (after : Held S) (sql : List ℕ) (params : Row) (r : Result (Vec Row Global) Error) → (IsTrue (state g old).is_open → (state g old).now ≡ (state g old).committed)
      → IfOk r (λ rows. Shown sql params (state g (record old { in_transaction = true })) (state g after) rows.items) → IfOk r (λ rows. Selects g sql params old rows.items)
  selects after sql params (Err e) settled h = tt
  selects after sql params (Ok rows) settled h =
      let was_open = shown_open sql params (state g (record old { in_transaction = true })) (state g after) rows.items h in
      record { was_open = was_open; settled = settled was_open; after = after; shown = h }

  pub finds_row : (number : ℕ) (rows : List Row) (r : Result (Option Row) Error) → IfOk r (λ found. rows ≡ only found) → Selects g SELECT_NUMBER.now (Int (pos number) ∷ []) old rows
      → IfOk r (λ found. Reads (state g old) (λ db. filter (has_number number) (accepted_in db) ≡ only found))
  finds_row number rows (Err e) is h = tt
  finds_row number rows (Ok o) is h = finds_only (has_number number) (state g old) rows o is (finds_number g number old rows h)

  pub finds_one_uid : (uid : List ℕ) (rows : List Row) (row : Row) → rows ≡ row ∷ [] → Selects g SELECT_UID.now (Text uid ∷ []) old rows → Reads (state g old) (λ db. filter (has_uid uid) (accepted_in db) ≡ row ∷ [])
  finds_one_uid uid rows row is h = finds_only (has_uid uid) (state g old) rows (Some row) is (finds_uid g uid old rows h)

  pub finds_no_uid : (uid : List ℕ) (rows : List Row) → rows ≡ [] → Selects g SELECT_UID.now (Text uid ∷ []) old rows → Reads (state g old) (λ db. filter (has_uid uid) (accepted_in db) ≡ [])
  finds_no_uid uid rows is h = finds_only (has_uid uid) (state g old) rows None is (finds_uid g uid old rows h)

pub is_text : (s : String Global) → IsUtf8 (string_bytes s)
is_text s = IsUtf8-string_bytes s

pub seven : (row : Row) → length row ≡ 7 → row ≡ column row 0 ∷ column row 1 ∷ column row 2 ∷ column row 3 ∷ column row 4 ∷ column row 5 ∷ column row 6 ∷ []
seven (a ∷ b ∷ c ∷ d ∷ e ∷ f ∷ g ∷ []) h = refl
seven [] h = absurd (omega arith)
seven (a ∷ []) h = absurd (omega arith)
seven (a ∷ b ∷ []) h = absurd (omega arith)
seven (a ∷ b ∷ c ∷ []) h = absurd (omega arith)
seven (a ∷ b ∷ c ∷ d ∷ []) h = absurd (omega arith)
seven (a ∷ b ∷ c ∷ d ∷ e ∷ []) h = absurd (omega arith)
seven (a ∷ b ∷ c ∷ d ∷ e ∷ f ∷ []) h = absurd (omega arith)
seven (a ∷ b ∷ c ∷ d ∷ e ∷ f ∷ g ∷ x ∷ more) h = absurd (omega arith)
