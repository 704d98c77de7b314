-- Reads of the version and of the history, in terms of the earlier committed contents.
use Rattle.desk_types.proofs.Common.{◌==◌, ◌∙◌, ◌≡◌, ◌≢◌, ◌≤◌, ◌⊎◌, ap, Basis, basis, Err, found_row, History}
use Rattle.desk_types.proofs.Common.{IfErr, if◌then◌else◌, inl, inr, IsJudged, IsLawful, IsTrue, Name, None}
use Rattle.desk_types.proofs.Common.{Ok, Option, placement_row, pos, refl, Result, Some, subst, sym, true, ℕ}
use Rattle.desk_types.proofs.Common.{ℤ}
use Rattle.desk_laws.proofs.Common.{MOST_ENTRIES, Rules, Two}
use Rattle.line_tables.proofs.Common.{Database, Ghosts, has_state, Held, HoldsBy, is_ours, KeepsCommit, One}
use Rattle.line_tables.proofs.Common.{Reads, ReadsOnly, State, version_in}
use Rattle.desk_laws.proofs.RulesOne.{nothing-found}
use Rattle.desk_types.specs.{Tables.Tables as StateTables, Tables.tables_of as state_of}
use Rattle.desk_types.specs.{declared.row.PlacementRow.PlacementRow}
use Rattle.line_replay.proofs.{PlacementsAsExpected.expected_after, ReadOfCommitted.reads_as}
use Rattle.line_replay.proofs.{ReadOfCommitted.reads_back, Verdicts.all_right}
use Rattle.line_replay.specs.{Audit.IsExpected, Audit.IsVerdict, Audit.Pieces, Audit.state_tables}
use Rattle.line_replay.specs.{Audit.with_placements, Expected.AreExpected, Expected.Expected}
use Rattle.line_replay.specs.{Replay.IsFaultOf as IsReplayFault, Replay.IsReplayed, Rows.ledger_tables}
use Rattle.line_replay.specs.{declared.fault.ReplayFault.ReplayFault, declared.table.StateTable.StateTable}
use Rattle.line_schema.specs.{Opening.IsFaultBy, Opening.IsGreatest, Opening.IsNamedBy, Opening.IsNoDeskBy}
use Rattle.line_schema.specs.{Opening.IsOpened, Opening.IsVersion, Opening.opening_fault}
use Rattle.line_schema.specs.{declared.fault.OpenFault.OpenFault}
use Rattle.line_schema.specs.{declared.fault.OpenFault.TheVariants.NotADesk}
use Rattle.line_schema.specs.{declared.fault.OpenFault.TheVariants.OtherVersion}
use Rattle.line_schema.specs.{declared.fault.OpenFault.TheVariants.TableDiffers}
use Rattle.line_schema.specs.{declared.opening.Opened.Opened}
use Rattle.line_tables.proofs.{Frames.reads_then, Ours.ours_is, Ours.ours_whole}
use Rattle.line_tables.specs.{Calls.IsVersionOf, Rowids.AreAllApartBy, Rows.version_of}
use Rattle.line_tables.specs.{declared.version.Version.Version}
use Rattle.state_rows.specs.{Kept.tables_in, Lists.IsListed}
use Rattle.line_replay.specs.declared.fault.ReplayFault.TheVariants as replay

-- ---- the row of `version`

module _ (old : State) where
  pub version_read : (v : Version) (number : ℤ) (greatest : ℕ) → v.number ≡ number → IsGreatest v.greatest greatest → Reads old (λ db. IsVersionOf (version_in db) (Some v)) → Reads old (λ db. IsVersion db number greatest)
  version_read v number greatest is great r = record { was_open = r.was_open; are = λ schema. record { row = r.are schema ∙ rw (is, great.same) refl; least = great.least; most = great.most } }

module _ (rules : Rules) (old : State) where
  pub no_greatest : (v : Version) → ((greatest : ℕ) → IsGreatest v.greatest greatest → ⊥) → Reads old (λ db. IsVersionOf (version_in db) (Some v)) → IsNoDeskBy rules old
  no_greatest v none r = inr (inl (record { was_open = r.was_open; are = λ schema number greatest is. none greatest (great (r.are schema) number greatest is) }))
    where
      great : IsVersionOf (version_in old.committed) (Some v) → (number : ℤ) (greatest : ℕ) → IsVersion old.committed number greatest → IsGreatest v.greatest greatest
      great row number greatest is = let both = sym row ∙ is.row in record { same = cc; least = is.least; most = is.most }

  pub no_version : Reads old (λ db. IsVersionOf (version_in db) None) → IsNoDeskBy rules old
  no_version r = inr (inl (record { was_open = r.was_open; are = λ schema number greatest is. r.are schema number (pos greatest) is.row }))

  pub other_version : (v : Version) (greatest : ℕ) → v.number ≢ pos (version_of rules) → IsGreatest v.greatest greatest → Reads old (λ db. IsVersionOf (version_in db) (Some v)) → IsFaultBy rules old (OtherVersion v.number)
  other_version v greatest other great r = let is = version_read old v v.number greatest refl great r in (other, record { was_open = is.was_open; are = λ schema. (greatest, is.are schema) })

  pub version_fault : (v : Version) (o : Option Version) (r : Result ℕ OpenFault) → o ≡ Some v
      → IfErr r (λ f. ((f ≡ NotADesk) × ((greatest : ℕ) → IsGreatest v.greatest greatest → ⊥)) ⊎ ((f ≡ OtherVersion v.number) × (v.number ≢ pos (version_of rules)) × (greatest : ℕ) × IsGreatest v.greatest greatest))
      → Reads old (λ db. IsVersionOf (version_in db) o) → IfErr r (IsFaultBy rules old)
  version_fault v o (Ok n) some told read = tt
  version_fault v o (Err f) some (inl (is, none)) read = subst (IsFaultBy rules old) (sym is) (no_greatest v none (subst (λ (x : Option Version). Reads old (λ db. IsVersionOf (version_in db) x)) some read))
  version_fault v o (Err f) some (inr (is, other, greatest, great)) read = subst (IsFaultBy rules old) (sym is) (other_version v greatest other great (subst (λ (x : Option Version). Reads old (λ db. IsVersionOf (version_in db) x)) some read))

-- ---- the history after it

module _ (rules : Rules) (old mid : State) (greatest : ℕ) (kept : KeepsCommit old mid) (version : Reads old (λ db. IsVersion db (pos (version_of rules)) greatest)) where
  pub list_fault : (f : ReplayFault) → IsReplayFault rules greatest mid f → IsFaultBy rules old (opening_fault f)
  list_fault (replay.NotLawful n) h = (greatest, version, reads_back old mid _ kept h)
  list_fault replay.Unavailable h = tt

pub audited : (rules : Rules) (Before After : Type 0) (old mid last : State) (expected : Expected) (H : History) (verdict : Option StateTable) → (After → Before) → (After → KeepsCommit old mid) → (After → KeepsCommit mid last) → AreExpected Before mid.committed expected H
    → (After → (f : ℕ × ℕ → Option PlacementRow) (es : Pieces) → IsExpected last expected.placed es f → Reads last (λ db. IsVerdict (state_tables rules) db (with_placements f (tables_in expected.rows)) verdict))
    → After → Reads old (λ db. IsVerdict (state_tables rules) db (state_of H) verdict)
audited rules Before After old mid last expected H verdict early kept kept_on is told clean =
    let f : ℕ × ℕ → Option PlacementRow = λ key. placement_row H key.0 key.1 in
    let are : IsExpected mid expected.placed is.pieces f = record { listed = is.listed; pieces = is.named; counted = is.counted; placed = λ was_open schema. is.told (early clean) schema; before = λ was_open schema. is.before (early clean) schema } in
    let here = told clean f is.pieces (expected_after mid last (kept_on clean) expected.placed is.pieces f are) in
    let same : with_placements f (tables_in expected.rows) ≡ state_of H = ap (with_placements f) is.rows in
    reads_back old mid _ (kept clean) (reads_back mid last _ (kept_on clean) (subst (λ (t : StateTables). Reads last (λ db. IsVerdict (state_tables rules) db t verdict)) same here))

-- Under rules One there is no row of found pieces.
none_found : (rules : Rules) (H : History) → IsJudged rules H → rules ≡ One → (reel : Name) → found_row H reel ≡ None
none_found rules H judged is reel =
    ap (λ (n : ℕ). if n == 0 then None else Some n) (nothing-found H reel (subst (λ (r : Rules). IsJudged r H) is judged))

pub opened_on : {D : Type 0} (F : D → Basis → Type 0) (Before After : Type 0) (old mid : State) (rules : Rules) (desk : D) (expected : Expected) (count : ℕ) (opened : Opened D) (H : History) → (After → Before)
    → IsReplayed F rules opened.greatest Before mid desk expected count H → IsListed opened.working.lists H → opened.working.desk ≡ desk → opened.count ≡ count → opened.greatest ≤ MOST_ENTRIES → (After → KeepsCommit old mid)
    → (After → Reads old (λ db. IsVersion db (pos (version_of rules)) opened.greatest)) → (After → Reads old (λ db. IsVerdict (state_tables rules) db (state_of H) None)) → (After → Reads old (λ db. AreAllApartBy rules db)) → IsOpened F After old rules opened H
opened_on F Before After old mid rules desk expected count opened H early r listed is counted bound kept version state apart = record {
  working = record { stands = subst (λ d. F d (basis rules H)) (sym is) r.stands; listed = listed };
  judged = r.judged;
  count = counted ∙ sym r.counted;
  within = r.within;
  bound = bound;
  version = version;
  rows = λ clean. reads_back old mid _ (kept clean) (r.rows (early clean));
  state = λ clean. reads_as old _ _ (λ db. all_right rules db (state_of H) (none_found rules H r.judged)) (state clean);
  apart = apart;
}

pub table_fault : {D : Type 0} (F : D → Basis → Type 0) (rules : Rules) (Before : Type 0) (old mid : State) (desk : D) (expected : Expected) (count greatest : ℕ) (H : History) (table : StateTable) → Before → IsReplayed F rules greatest Before mid desk expected count H → KeepsCommit old mid
    → Reads old (λ db. IsVersion db (pos (version_of rules)) greatest) → Reads old (λ db. IsVerdict (state_tables rules) db (state_of H) (Some table)) → IsFaultBy rules old (TableDiffers table)
table_fault F rules Before old mid desk expected count greatest H table clean r kept version first =
    record { greatest = greatest; list = H; version = version; rows = reads_back old mid _ kept (r.rows clean); first = first }

-- The names of the tables show the version.
pub opened_holds : {D : Type 0} (F : D → Basis → Type 0) (Clean : Type 0) (old : State) (rules : Rules) (opened : Opened D) (H : History) → IsOpened F Clean old rules opened H → IsNamedBy rules old
    → (IsTrue old.is_open → old.now ≡ old.committed) → Clean → Reads old (λ db. HoldsBy rules db (ledger_tables opened.greatest H))
opened_holds F Clean old rules opened H o named settled clean =
    let version = o.version clean in record {
      was_open = version.was_open;
      are = λ ours.
          let whole = ours_whole rules old.committed.schema ours (subst (λ (db : Database). has_state rules db.schema.tables ≡ true) (settled version.was_open) named.2) in
          record {
            indexed = whole.0;
            schema = whole.1;
            version = (version.are ours).row;
            accepted = ((o.rows clean).are ours).same;
            state = (o.state clean).are ours;
            apart = (o.apart clean).are ours;
          };
    }

pub opened_lawful : {D : Type 0} (F : D → Basis → Type 0) (Clean : Type 0) (old : State) (opened : Opened D) (H : History) → IsOpened F Clean old Two opened H → Clean → IsTrue (is_ours old.committed.schema)
    → IsLawful Two opened.greatest H
opened_lawful F Clean old opened H o clean own = let ours = ours_is old.committed.schema own in ((o.rows clean).are (record { rules = Two; layout = ours.0; same = ours.1 })).lawful

pub reads_all : {S : Type 0} (g : Ghosts S) (a b c d e : Held S) → ReadsOnly g a b → ReadsOnly g b c → ReadsOnly g c d → ReadsOnly g d e → ReadsOnly g a e
reads_all g a b c d e one two three four = reads_then g a b e one (reads_then g b c e two (reads_then g c d e three four))
