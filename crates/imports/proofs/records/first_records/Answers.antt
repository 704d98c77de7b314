use Rattle.desk_types.proofs.Common.{[], ◌++◌, ◌∙◌, ◌∷◌, ◌≡◌, ◌≤◌, arith, Bor, inl, inr, length, length-map}
use Rattle.desk_types.proofs.Common.{List, map, map-append, refl, rules, Some, sym, ℕ}
use Rattle.csv.{proofs.ReadFacts.rows-end, proofs.ReadFacts.rows-more, specs.Reading.default_config}
use Rattle.csv.{specs.Reading.Reached, specs.Reading.strip_bom, specs.Records.fields_of}
use Rattle.imports.{proofs.FirstRecords.first-of_reached, specs.declared.records.TheConstants.MOST_RECORDS}
use Rattle.std.proofs.lemmas.List.{places}
use Rattle.csv.specs.declared.parser.State.TheVariants as st
use Rattle.imports.proofs.records.first_records.Goals as goal

pub loop-row-init : goal.loop-row-init
unfolding Reached
loop-row-init c =
    let r = c.reader-rdr.ensures in
    let start = c.into_iter-row-iterator.ensures.into_iter_gives ∙ refl in
    let rdr = c.into_byte_records-row-items.ensures.rdr in
    let left = c.into_byte_records-row-items.ensures.left in
    rw (start, rdr, c.new-records.ensures.items) (search rules, r.untrimmed, r.ready, left, r.config, strip_bom c.args.bytes.now, r.source, (sym r.state, refl))

pub loop-row-preserved : goal.loop-row-preserved
loop-row-preserved c =
    let inv = c.loop-row.invariant in
    let bytes = c.args.bytes.now in
    let found = c.loop-row.records.items in
    let step = rw (c.in-Some.is, c.in-Ok.is) at ((c.next.ensures.steps inv.3 inv.1).0 inv.2) in
    let items : c.push.new.self.items ≡ found ++ c.in-Ok.record ∷ [] = c.in_ok-push.ensures.items in
    let more = rows-more (λ (s : Bor (List ℕ)). Some s.now) c.loop-row.row-iterator.rdr c.next.new.self.rdr (fields_of c.in-Ok.record) default_config st.StartRecord (strip_bom bytes) inv.5 (map fields_of found) inv.4 inv.6 inv.7 step.0 in
    (search (rules, places), step.0.3 ∙ inv.1, inl step.1, step.2, step.0.2 ∙ inv.4, more.0, more.1, rw (items, map-append fields_of found (c.in-Ok.record ∷ [])) more.2)

pub returns-then-len-eq-MOST_RECORDS : goal.returns-then-len-eq-MOST_RECORDS
returns-then-len-eq-MOST_RECORDS c =
    let inv = c.loop-row.invariant in
    let bytes = c.args.bytes.now in
    let found = c.loop-row.records.items in
    let step = rw (c.in-Some.is, c.in-Ok.is) at ((c.next.ensures.steps inv.3 inv.1).0 inv.2) in
    let items : c.push.new.self.items ≡ found ++ c.in-Ok.record ∷ [] = c.in_ok-push.ensures.items in
    let more = rows-more (λ (s : Bor (List ℕ)). Some s.now) c.loop-row.row-iterator.rdr c.next.new.self.rdr (fields_of c.in-Ok.record) default_config st.StartRecord (strip_bom bytes) inv.5 (map fields_of found) inv.4 inv.6 inv.7 step.0 in
    let count : length (map fields_of c.push.new.self.items) ≡ MOST_RECORDS = search (rules, length-map, places) in
    first-of_reached default_config MOST_RECORDS st.StartRecord (strip_bom bytes) (map fields_of c.push.new.self.items) c.next.new.self.rdr.state more.0
    (omega (arith, count)) (rw (items, map-append fields_of found (c.in-Ok.record ∷ [])) more.2) (inr count)

pub returns : goal.returns
returns c =
    let inv = c.loop-row.invariant in
    let found = c.loop-row.records.items in
    let step = rw c.in-None.is at ((c.next.ensures.steps inv.3 inv.1).0 inv.2) in
    let fits : length (map fields_of found) ≤ MOST_RECORDS = search (rules, length-map) in
    first-of_reached default_config MOST_RECORDS st.StartRecord (strip_bom c.args.bytes.now) (map fields_of found) c.loop-row.row-iterator.rdr.state inv.5
    fits inv.7 (inl (rows-end (λ (s : Bor (List ℕ)). Some s.now) c.loop-row.row-iterator.rdr c.next.new.self.rdr [] default_config inv.5 inv.4 inv.6 step))
