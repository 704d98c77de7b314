-- The entries of a set are those of its tables.
use Rattle.desk_types.proofs.Common.{[], ◌==◌, ◌||◌, ◌∙◌, ◌∷◌, ◌≡◌, AllByRecursion, and_parts, ap, ap₂, Bool}
use Rattle.desk_types.proofs.Common.{by_name, by_pair, eqb-true, false, if◌then◌else◌, inl, inr, is_at}
use Rattle.desk_types.proofs.Common.{is_at-by_name, is_at-by_pair, IsStrictlySortedBy, keys_of, List, lookup}
use Rattle.desk_types.proofs.Common.{map, Name, nat_cmp_total, nat_list_cmp_total, None, Option}
use Rattle.desk_types.proofs.Common.{ordering_then, recursion_from_All, refl, same, same-true, Some, subst}
use Rattle.desk_types.proofs.Common.{sym, tied_itself, true, ℕ}
use Rattle.desk_types.specs.declared.row.MountRow.{MountRow}
use Rattle.line_replay.specs.Alone.{AreApart, IsNamed, IsNew, Listed}
use Rattle.line_tables.{proofs.Numbers.some_same, specs.StateRows.unit_if}
use Rattle.state_rows.{proofs.RowLists.is_at-by_sheet_place, specs.Kept.by_sheet_place, specs.Kept.by_since}
use Rattle.state_rows.{specs.Kept.has_key, specs.Kept.Lists, specs.Kept.ListsKeys, specs.Kept.ListsMounts}
use Rattle.state_rows.{specs.Kept.row_at, specs.Kept.since_is}
use Rattle.std.{proofs.Common.Equal, proofs.Common.is_eq, proofs.Common.Less, proofs.Common.Ordering}
use Rattle.std.{proofs.lemmas.Map.Keys.sorted_head, proofs.lemmas.Map.Keys.sorted_tail}

less_equal : ◌≡◌ {A = Ordering} Less Equal → ⊥
less_equal e = cc

module _ {K R : Type 0} (cmp : K → K → Ordering) (tied : (k : K) → cmp k k ≡ Equal) (is_same : (k q : K) → is_at (cmp k) q ≡ true → k ≡ q) where
  new_of : (k : K) (es : List (K × R)) → AllByRecursion (λ q. cmp k q ≡ Less) (keys_of es) → IsNew k es
  new_of k [] h = tt
  new_of k (e ∷ es) h = (λ is. less_equal (sym h.0 ∙ ap (cmp k) (sym is) ∙ tied k), new_of k es h.1)

  apart_of : (es : List (K × R)) → IsStrictlySortedBy cmp (keys_of es) → AreApart es
  apart_of [] h = tt
  apart_of (e ∷ es) h = (new_of e.0 es (sorted_head cmp e.0 (keys_of es) h), apart_of es (sorted_tail cmp e.0 (keys_of es) h))

  named_of : (es : List (K × R)) (k : K) (r : R) → row_at cmp es k ≡ Some r → IsNamed k es
  named_of [] k r h = absurd cc
  named_of (e ∷ es) k r h = go (is_at (cmp k) e.0) refl h (named_of es k r)
    where
      go : (b : Bool) → is_at (cmp k) e.0 ≡ b → (if b then Some e.1 else row_at cmp es k) ≡ Some r → (row_at cmp es k ≡ Some r → IsNamed k es) → IsNamed k (e ∷ es)
      go true is found more = inl (is_same k e.0 is)
      go false is found more = inr (more found)

  past : (e : K × R) (all es : List (K × R)) → IsNew e.0 es → AllByRecursion (λ x. row_at cmp all x.0 ≡ Some x.1) es → AllByRecursion (λ x. row_at cmp (e ∷ all) x.0 ≡ Some x.1) es
  past e all [] new h = tt
  past e all (x ∷ es) new h = (go (is_at (cmp x.0) e.0) refl, past e all es new.1 h.1)
    where
      go : (b : Bool) → is_at (cmp x.0) e.0 ≡ b → (if b then Some e.1 else row_at cmp all x.0) ≡ Some x.1
      go true is = absurd (new.0 (sym (is_same x.0 e.0 is)))
      go false is = h.0

  each_of : (es : List (K × R)) → AreApart es → AllByRecursion (λ e. row_at cmp es e.0 ≡ Some e.1) es
  each_of [] apart = tt
  each_of (e ∷ es) apart = (ap (λ (o : Ordering). if is_eq o then Some e.1 else row_at cmp es e.0) (tied e.0), past e es es apart.0 (each_of es apart.1))

  listed_as : (es : List (K × R)) (f : K → Option R) → IsStrictlySortedBy cmp (keys_of es) → ((k : K) → row_at cmp es k ≡ f k) → Listed es f
  listed_as es f ascending found =
      let apart = apart_of es ascending in
      record { each = each_by es (each_of es apart); all = λ k r is. named_of es k r (found k ∙ is); distinct = apart }
    where
      each_by : (xs : List (K × R)) → AllByRecursion (λ e. row_at cmp es e.0 ≡ Some e.1) xs → AllByRecursion (λ e. f e.0 ≡ Some e.1) xs
      each_by [] h = tt
      each_by (x ∷ xs) h = (sym (found x.0) ∙ h.0, each_by xs h.1)

  pub listed : (es : List (K × R)) (f : K → Option R) → Lists cmp es f → Listed es f
  listed es f lists = listed_as es f lists.ascending lists.rows

-- A key whose row has nothing else.
abbrev pub alone : {K : Type 0} → K → K × Unit {0}
alone k = (k, tt)

module _ {K : Type 0} (cmp : K → K → Ordering) (tied : (k : K) → cmp k k ≡ Equal) (is_same : (k q : K) → is_at (cmp k) q ≡ true → k ≡ q) where
  keys_alone : (ks : List K) → keys_of (map alone ks) ≡ ks
  keys_alone [] = refl
  keys_alone (k ∷ ks) = ap (λ rest. k ∷ rest) (keys_alone ks)

  unit_at : (ks : List K) (k : K) → row_at cmp (map alone ks) k ≡ unit_if (has_key cmp ks k)
  unit_at [] k = refl
  unit_at (q ∷ ks) k = go (is_at (cmp k) q) (unit_at ks k)
    where
      go : (b : Bool) → row_at cmp (map alone ks) k ≡ unit_if (has_key cmp ks k) → (if b then Some tt else row_at cmp (map alone ks) k) ≡ unit_if (b || has_key cmp ks k)
      go true more = refl
      go false more = more

  pub listed_keys : (ks : List K) (f : K → Bool) → ListsKeys cmp ks f → Listed (map alone ks) (λ k. unit_if (f k))
  listed_keys ks f lists = listed_as cmp tied is_same (map alone ks) (λ k. unit_if (f k)) (subst (IsStrictlySortedBy cmp) (sym (keys_alone ks)) lists.ascending) (λ k. unit_at ks k ∙ ap unit_if (lists.rows k))

-- ---- the orders of keys

name_tied : (k : Name) → by_name k k ≡ Equal
name_tied k = tied_itself nat_list_cmp_total k

name_same : (k q : Name) → is_at (by_name k) q ≡ true → k ≡ q
name_same k q h = same-true k q (sym (is_at-by_name k q) ∙ h)

pair_tied : (k : Name × Name) → by_pair k k ≡ Equal
pair_tied k = ap₂ ordering_then (name_tied k.0) (name_tied k.1)

pair_same : (k q : Name × Name) → is_at (by_pair k) q ≡ true → k ≡ q
pair_same k q h = let p = and_parts _ _ (sym (is_at-by_pair k q) ∙ h) in ap₂ (λ (a b : Name). (a, b)) (same-true k.0 q.0 p.0) (same-true k.1 q.1 p.1)

sheet_tied : (k : Name × Name × ℕ) → by_sheet_place k k ≡ Equal
sheet_tied k = ap₂ ordering_then (pair_tied (k.0, k.1)) (tied_itself nat_cmp_total k.2)

sheet_same : (k q : Name × Name × ℕ) → is_at (by_sheet_place k) q ≡ true → k ≡ q
sheet_same k q h =
    let p = and_parts _ _ (sym (is_at-by_sheet_place k q) ∙ h) in
    let r = and_parts _ _ p.0 in
    ap₂ (λ (a : Name) (b : Name × ℕ). (a, b.0, b.1)) (same-true k.0 q.0 r.0) (ap₂ (λ (a : Name) (n : ℕ). (a, n)) (same-true k.1 q.1 r.1) (eqb-true k.2 q.2 p.1))

pub names_listed : {R : Type 0} (es : List (Name × R)) (f : Name → Option R) → Lists by_name es f → Listed es f
names_listed = listed by_name name_tied name_same

pub sheets_listed : {R : Type 0} (es : List ((Name × Name × ℕ) × R)) (f : Name × Name × ℕ → Option R) → Lists by_sheet_place es f → Listed es f
sheets_listed = listed by_sheet_place sheet_tied sheet_same

pub keys_listed : (ks : List Name) (f : Name → Bool) → ListsKeys by_name ks f → Listed (map alone ks) (λ k. unit_if (f k))
keys_listed = listed_keys by_name name_tied name_same

pub pairs_listed : (ks : List (Name × Name)) (f : Name × Name → Bool) → ListsKeys by_pair ks f → Listed (map alone ks) (λ k. unit_if (f k))
pairs_listed = listed_keys by_pair pair_tied pair_same

-- ---- mounted reels, in the order of their numbers

abbrev pub unnumbered : (ℕ × Name) × MountRow → Name × MountRow
unnumbered e = (e.0.1, e.1)

since_tied : (k : ℕ × Name) → by_since k k ≡ Equal
since_tied k = ap₂ ordering_then (tied_itself nat_cmp_total k.0) (name_tied k.1)

since_told : (since : ℕ) (row : Option MountRow) (m : MountRow) → since_is since row ≡ Some m → (row ≡ Some m) × (m.since ≡ since)
since_told since None m h = absurd cc
since_told since (Some x) m h = go (x.since == since) refl h
  where
    go : (b : Bool) → (x.since == since) ≡ b → (if b then Some x else None) ≡ Some m → (Some x ≡ Some m) × (m.since ≡ since)
    go true e is = (is, sym (ap (λ (r : MountRow). r.since) (some_same is)) ∙ eqb-true x.since since e)
    go false e is = absurd cc

module _ (f : Name → Option MountRow) where
  abbrev AreEach : List ((ℕ × Name) × MountRow) → Type 0
  AreEach es = AllByRecursion (λ e. since_is e.0.0 (f e.0.1) ≡ Some e.1) es

  mounts_each : (es : List ((ℕ × Name) × MountRow)) → AreEach es → AllByRecursion (λ e. f e.0 ≡ Some e.1) (map unnumbered es)
  mounts_each [] h = tt
  mounts_each (e ∷ es) h = ((since_told e.0.0 (f e.0.1) e.1 h.0).0, mounts_each es h.1)

  mount_new : (e : (ℕ × Name) × MountRow) (es : List ((ℕ × Name) × MountRow)) → since_is e.0.0 (f e.0.1) ≡ Some e.1 → AreEach es → AllByRecursion (λ q. by_since e.0 q ≡ Less) (keys_of es) → IsNew e.0.1 (map unnumbered es)
  mount_new e [] is h less = tt
  mount_new e (x ∷ es) is h less = (apart, mount_new e es is h.1 less.1)
    where
      apart : e.0.1 ≡ x.0.1 → ⊥
      apart named =
          let one = since_told e.0.0 (f e.0.1) e.1 is in
          let two = since_told x.0.0 (f x.0.1) x.1 h.0 in
          let row : e.1 ≡ x.1 = some_same (sym one.0 ∙ ap f named ∙ two.0) in
          let since : e.0.0 ≡ x.0.0 = sym one.1 ∙ ap (λ (r : MountRow). r.since) row ∙ two.1 in
          let key : x.0 ≡ e.0 = ap₂ (λ (n : ℕ) (r : Name). (n, r)) (sym since) (sym named) in
          less_equal (sym less.0 ∙ ap (by_since e.0) key ∙ since_tied e.0)

  mounts_apart : (es : List ((ℕ × Name) × MountRow)) → AreEach es → IsStrictlySortedBy by_since (keys_of es) → AreApart (map unnumbered es)
  mounts_apart [] h sorted = tt
  mounts_apart (e ∷ es) h sorted = (mount_new e es h.0 h.1 (sorted_head by_since e.0 (keys_of es) sorted), mounts_apart es h.1 (sorted_tail by_since e.0 (keys_of es) sorted))

  mount_named : (es : List ((ℕ × Name) × MountRow)) (k : Name) (r : MountRow) → lookup (λ q. same k q.1) es ≡ Some r → IsNamed k (map unnumbered es)
  mount_named [] k r h = absurd cc
  mount_named (e ∷ es) k r h = go (same k e.0.1) refl h (mount_named es k r)
    where
      go : (b : Bool) → same k e.0.1 ≡ b → (if b then Some e.1 else lookup (λ q. same k q.1) es) ≡ Some r → (lookup (λ q. same k q.1) es ≡ Some r → IsNamed k (map unnumbered es)) → IsNamed k (map unnumbered (e ∷ es))
      go true is found more = inl (same-true k e.0.1 is)
      go false is found more = inr (more found)

  pub mounts_listed : (es : List ((ℕ × Name) × MountRow)) → ListsMounts es f → Listed (map unnumbered es) f
  mounts_listed es lists =
      let each = recursion_from_All _ es lists.each in
      record { each = mounts_each es each; all = λ k r is. mount_named es k r (lists.rows k ∙ is); distinct = mounts_apart es each lists.ascending }
