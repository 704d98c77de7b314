-- The result of a replay, in terms of the committed rows.
use Rattle.desk_types.proofs.Common.{[], ◌+◌, ◌==◌, ◌∙◌, ◌≡◌, ◌≤◌, ◌⊎◌, arith, Basis, Bool, eq-eqb, eqb-true}
use Rattle.desk_types.proofs.Common.{false, filter, History, inl, inr, IsJudged, IsPermutation}
use Rattle.desk_types.proofs.Common.{IsPermutation-sym, IsPermutation-trans, IsTrue, length, subst, sym, true}
use Rattle.desk_types.proofs.Common.{true≢false, ℕ}
use Rattle.line_tables.proofs.Common.{accepted_in, Database, Ghosts, has_number, HasCleanDisk, Held, Holds}
use Rattle.line_tables.proofs.Common.{IsOurs, KeepsCommit, Reads, ReadsOnly, Rules, State, state, Two}
use Rattle.line_replay.proofs.{ReadOfCommitted.reads_back, ReadOfCommitted.reads_two, RowsOfLists.are_rows}
use Rattle.line_replay.proofs.{StopsOfRows.stops_short, StopsOfRows.stops_stuck}
use Rattle.line_replay.specs.{Audit.ArePlaced, Expected.Expected, Listed.AreAt, Listed.StopsAt}
use Rattle.line_replay.specs.{Placed.HasBefore, Replay.IsEnd, Replay.IsFaultOf, Replay.IsNumbered}
use Rattle.line_replay.specs.{Replay.IsReplayed, Replay.IsStop, Replay.IsStuck, Replay.StandsListed}
use Rattle.line_replay.specs.{Replay.TakesAll, Rows.ledger_tables, Rows.rows_of}
use Rattle.line_replay.specs.{declared.fault.ReplayFault.ReplayFault}
use Rattle.line_replay.specs.{declared.fault.ReplayFault.TheVariants.NotLawful}
use Rattle.line_replay.specs.{declared.fault.ReplayFault.TheVariants.Unavailable}
use Rattle.line_tables.proofs.Keeps.{keeps_then}
use Rattle.state_rows.specs.{Lists.IsListed, declared.lists.TraceLists.TraceLists}

pub stops_before : (rules : Rules) (greatest : ℕ) (old mid : State) (n : ℕ) → KeepsCommit old mid → Reads old (λ db. IsNumbered (accepted_in db)) → IsStop rules greatest mid n → IsFaultOf rules greatest old (NotLawful n)
stops_before rules greatest old mid n kept numbered stop =
    let H = stop.0 in
    let low : length H + 1 ≤ greatest = omega (arith, stop.2, stop.3) in
    subst (λ m. Reads old (λ db. StopsAt rules greatest (accepted_in db) m)) stop.2
    (reads_two old (λ db. IsNumbered (accepted_in db)) (λ db. AreAt (accepted_in db) H × IsStuck rules H (accepted_in db)) (λ db. StopsAt rules greatest (accepted_in db) (length H + 1))
    (λ db first at. stops_stuck rules greatest (accepted_in db) H first stop.1 at.0 low at.1) numbered (reads_back old mid _ kept stop.4))

pub fault_before : (rules : Rules) (greatest : ℕ) (old mid : State) (f : ReplayFault) → KeepsCommit old mid → Reads old (λ db. IsNumbered (accepted_in db))
    → (f ≡ Unavailable) ⊎ ((n : ℕ) × (f ≡ NotLawful n) × IsStop rules greatest mid n) → IsFaultOf rules greatest old f
fault_before rules greatest old mid f kept numbered (inl is) = subst (IsFaultOf rules greatest old) (sym is) tt
fault_before rules greatest old mid f kept numbered (inr stop) = subst (IsFaultOf rules greatest old) (sym stop.1) (stops_before rules greatest old mid stop.0 kept numbered stop.2)

-- What three reads, one after another, leave as it was: the state of the disk, and the committed contents.
pub reads_through : {S : Type 0} (g : Ghosts S) (a b c d : Held S) → ReadsOnly g a b → ReadsOnly g b c → ReadsOnly g c d → HasCleanDisk (state g d)
    → HasCleanDisk (state g b) × HasCleanDisk (state g c) × KeepsCommit (state g a) (state g b) × KeepsCommit (state g b) (state g c)
reads_through g a b c d one two three clean =
    let late : HasCleanDisk (state g c) = omega (arith, three.survives.clean, clean) in
    let early : HasCleanDisk (state g b) = omega (arith, two.survives.clean, late) in
    (early, late, one.kept early, two.kept late)

module _ {D : Type 0} (F : D → Basis → Type 0) (rules : Rules) (greatest : ℕ) (first mid last : State) (it : D × TraceLists) (expected : Expected) (n : ℕ) (Early Before After : Type 0)
    (on : After → Early × Before × KeepsCommit first mid × KeepsCommit mid last) (all : TakesAll (StandsListed F) rules greatest Before mid it expected n)
    (are : Bool) (counted : After → Reads last (λ db. are ≡ (n == length (accepted_in db)))) where
  same : After → mid.committed ≡ first.committed
  same clean = (on clean).2.committed ((on clean).3.was_open (counted clean).was_open)

  here : After → IsOurs first.committed.schema → AreAt (accepted_in first.committed) all.history
  here clean schema = subst (λ (db : Database). AreAt (accepted_in db) all.history) (same clean) (all.taken.rows (on clean).1 (subst (λ (db : Database). IsOurs db.schema) (sym (same clean)) schema))

  counted_first : After → Reads first (λ db. are ≡ (n == length (accepted_in db)))
  counted_first clean = reads_back first last _ (keeps_then first mid last (on clean).2 (on clean).3) (counted clean)

  within : length all.history ≤ greatest
  within = omega (arith, all.within, all.taken.counted)

  pub replayed : are ≡ true → (H : History) × IsReplayed F rules greatest After first it.0 expected n H × IsListed it.1 H
  replayed is =
      let taken = all.taken in (
        all.history,
        record {
          stands = taken.stands.0;
          judged = taken.judged;
          counted = taken.counted;
          within = within;
          rows = λ clean.
              let r = counted_first clean in record {
                was_open = r.was_open;
                are = λ schema. are_rows rules greatest (accepted_in first.committed) all.history taken.judged (here clean schema) within (sym (eqb-true n _ (sym (r.are schema) ∙ is)) ∙ sym taken.counted);
              };
          others = record {
            rows = taken.others.rows;
            pieces = taken.others.pieces;
            listed = taken.others.listed;
            named = taken.others.named;
            counted = taken.others.counted;
            told = λ clean schema.
                subst (λ (db : Database). ArePlaced db expected.placed.all taken.others.pieces) (same clean) (taken.others.told (on clean).1 (subst (λ (db : Database). IsOurs db.schema) (sym (same clean)) schema));
            before = λ clean schema. subst (HasBefore expected.placed.end expected.placed.count) (same clean) (taken.others.before (on clean).1 (subst (λ (db : Database). IsOurs db.schema) (sym (same clean)) schema));
          };
        },
        taken.stands.1,
      )

  apart : (long : ℕ) → are ≡ (n == long) → are ≡ false → length all.history ≡ long → ⊥
  apart long told not is = true≢false (sym (eq-eqb n long (sym all.taken.counted ∙ is)) ∙ sym told ∙ not)

  end_of : After → IsEnd greatest mid n → IsOurs first.committed.schema → (length all.history ≡ greatest) ⊎ (filter (has_number (length all.history + 1)) (accepted_in first.committed) ≡ [])
  end_of clean (inl full) schema = inl (all.taken.counted ∙ full)
  end_of clean (inr none) schema = inr (subst (λ m. filter (has_number (m + 1)) (accepted_in first.committed) ≡ []) (sym all.taken.counted) ((reads_back first mid _ (on clean).2 none).are schema))

  pub too_few : are ≡ false → After → (Early → Reads first (λ db. IsNumbered (accepted_in db))) → IsFaultOf rules greatest first (NotLawful (n + 1))
  too_few not clean numbered =
      let r = counted_first clean in record {
        was_open = r.was_open;
        are = λ schema. subst (λ m. StopsAt rules greatest (accepted_in first.committed) (m + 1)) all.taken.counted
            (stops_short rules greatest (accepted_in first.committed) all.history ((numbered (on clean).0).are schema) all.taken.judged (here clean schema) within (end_of clean (all.ends (on clean).1) schema) (apart _ (r.are schema) not));
      }

pub same_list : {D : Type 0} (F : D → Basis → Type 0) (rules : Rules) (greatest : ℕ) (Clean : Type 0) (old : State) (desk : D) (expected : Expected) (count : ℕ) (H G : History)
    → ((A B : History) → IsJudged rules A → IsJudged rules B → IsPermutation (rows_of A) (rows_of B) → A ≡ B) → IsReplayed F rules greatest Clean old desk expected count H → IsJudged rules G
    → (IsTrue old.is_open → Holds old.committed (ledger_tables greatest G)) → Clean → H ≡ G
same_list F rules greatest Clean old desk expected count H G tell all judged holds clean =
    let r = all.rows clean in
    let tables = holds r.was_open in
    tell H G all.judged judged (IsPermutation-trans _ _ _ (IsPermutation-sym _ _ (r.are (record { rules = Two; layout = tables.indexed; same = tables.schema })).same) tables.accepted)
