-- The test of a schema, and facts about our schema.
use Rattle.desk_types.proofs.Common.{[], ◌&&◌, ◌++◌, ◌∙◌, ◌≡◌, and_from, and_parts, ap, ap₂, drop, eq-eqb}
use Rattle.desk_types.proofs.Common.{eqb-true, false, inl, inr, length, or_left, or_right, refl, subst, sym}
use Rattle.desk_types.proofs.Common.{take, take-append-drop, true, true≢false}
use Rattle.line_tables.proofs.Common.{are_quiet, has_state, Indexed, is_ours, IsOurs, Layout, no_schema, One}
use Rattle.line_tables.proofs.Common.{Plain, Rules, same_name, Schema, schema_of, Two}
use Rattle.line_tables.specs.Line.{begins_with, first_behind, is_blank, is_same_code, is_same_schema}
use Rattle.line_tables.specs.Line.{nothing as no_others}
use Rattle.sqlite_schema.specs.contracts.schema.Schema.{the_row}
use Rattle.std.proofs.lemmas.Bool.{or_cases}
use base.Stored.{gcons, gnil, gnum, Gv}

same_is : (a b : Gv) → is_same_code a b ≡ true → a ≡ b
same_is gnil gnil h = refl
same_is gnil (gnum n) h = absurd (true≢false (sym h))
same_is gnil (gcons c d) h = absurd (true≢false (sym h))
same_is (gnum m) gnil h = absurd (true≢false (sym h))
same_is (gnum m) (gnum n) h = ap gnum (eqb-true m n h)
same_is (gnum m) (gcons c d) h = absurd (true≢false (sym h))
same_is (gcons a b) gnil h = absurd (true≢false (sym h))
same_is (gcons a b) (gnum n) h = absurd (true≢false (sym h))
same_is (gcons a b) (gcons c d) h = let p = and_parts _ _ h in ap₂ gcons (same_is a c p.0) (same_is b d p.1)

same_itself : (a : Gv) → is_same_code a a ≡ true
same_itself gnil = refl
same_itself (gnum n) = eq-eqb n n refl
same_itself (gcons a b) = ap₂ (λ x y. x && y) (same_itself a) (same_itself b)

same_schema : (a b : Schema) → is_same_schema a b ≡ true → a ≡ b
unfolding is_same_schema
same_schema a b h = the_row.coded.inj a b (same_is _ _ h)

-- Everything behind our tables and indexes belongs to other people.
begun : (bare : Layout) (schema : Schema) → begins_with bare schema ≡ true → (h : are_quiet (first_behind bare) (drop 11 schema.tables) ≡ true)
    × (schema.tables ≡ (schema_of Two bare).tables ++ drop 11 schema.tables) × (schema.indexes ≡ (schema_of Two bare).indexes ++ drop (length (schema_of Two bare).indexes) schema.indexes)
begun bare schema h =
    let p = and_parts _ _ h in
    let n = length (schema_of Two bare).indexes in
    let same = same_schema (record { tables = take 11 schema.tables; indexes = take n schema.indexes; views = [] }) (schema_of Two bare) p.0 in
    (p.1, sym (take-append-drop 11 schema.tables) ∙ ap (λ (s : Schema). s.tables ++ drop 11 schema.tables) same, sym (take-append-drop n schema.indexes) ∙ ap (λ (s : Schema). s.indexes ++ drop n schema.indexes) same)

pub ours_is : (schema : Schema) → is_ours schema ≡ true → (indexed : Layout) × (schema ≡ schema_of Two indexed)
ours_is schema h = elim (or_cases (begins_with (Indexed no_others) schema) (begins_with (Plain no_others) schema) h) [
  | inl with_indexes ↦
      let b = begun (Indexed no_others) schema with_indexes in (
        Indexed (record { tables = drop 11 schema.tables; indexes = drop (length (schema_of Two (Indexed no_others)).indexes) schema.indexes; views = schema.views; quiet = b.0 }),
        ap₂ (λ ts is. record { tables = ts; indexes = is; views = schema.views }) b.1 b.2,
      )
  | inr without ↦
      let b = begun (Plain no_others) schema without in (
        Plain (record { tables = drop 11 schema.tables; indexes = drop (length (schema_of Two (Plain no_others)).indexes) schema.indexes; views = schema.views; quiet = b.0 }),
        ap₂ (λ ts is. record { tables = ts; indexes = is; views = schema.views }) b.1 b.2,
      )
]

pub blank_is : (schema : Schema) → is_blank schema ≡ true → schema ≡ no_schema
blank_is schema h = same_schema schema no_schema h

same_of : (a b : Schema) → a ≡ b → is_same_schema a b ≡ true
unfolding is_same_schema
same_of a b is = subst (λ s. is_same_code (the_row.coded.code s) (the_row.coded.code b) ≡ true) (sym is) (same_itself (the_row.coded.code b))

pub is_ours_of : (schema : Schema) (indexed : Layout) → schema ≡ schema_of Two indexed → is_ours schema ≡ true
is_ours_of schema (Indexed others) is = or_left _ _ (subst (λ s. begins_with (Indexed no_others) s ≡ true) (sym is) (and_from _ _ (same_of (schema_of Two (Indexed no_others)) (schema_of Two (Indexed no_others)) refl) others.quiet))
is_ours_of schema (Plain others) is = or_right _ _ (subst (λ s. begins_with (Plain no_others) s ≡ true) (sym is) (and_from _ _ (same_of (schema_of Two (Plain no_others)) (schema_of Two (Plain no_others)) refl) others.quiet))

pub is_blank_of : (schema : Schema) → schema ≡ no_schema → is_blank schema ≡ true
is_blank_of schema is = same_of schema no_schema is

-- The names of one version differ from those of the other.
whole_of : (rules kept : Rules) (indexed : Layout) → has_state rules (schema_of kept indexed).tables ≡ true → rules ≡ kept
unfolding same_name
whole_of One One indexed h = refl
whole_of Two Two indexed h = refl
whole_of One Two indexed h = absurd (true≢false (sym h))
whole_of Two One indexed h = absurd (true≢false (sym h))

pub ours_whole : (rules : Rules) (schema : Schema) → IsOurs schema → has_state rules schema.tables ≡ true → (indexed : Layout) × (schema ≡ schema_of rules indexed)
ours_whole rules schema ours whole =
    let kept = ours.rules in
    let indexed = ours.layout in
    let is = ours.same in
    let same : rules ≡ kept = whole_of rules kept indexed (subst (λ (s : Schema). has_state rules s.tables ≡ true) is whole) in
    (indexed, subst (λ r. schema ≡ schema_of r indexed) (sym same) is)
