-- One more row is taken.
use Rattle.desk_types.proofs.Common.{[], ◌+◌, ◌∙◌, ◌∷◌, ◌≡◌, ◌≤◌, ◌⊎◌, ap, arith, Basis, false, filter}
use Rattle.desk_types.proofs.Common.{History, inl, inr, length, list_any, Option, Some, sym, true, true≢false}
use Rattle.desk_types.proofs.Common.{ℕ}
use Rattle.line_tables.proofs.Common.{accepted_in, Database, has_number, is_before, KeepsCommit, only, Reads}
use Rattle.line_tables.proofs.Common.{Row, Rules, State}
use Rattle.desk_types.specs.declared.command.Entry.{Entry}
use Rattle.line_replay.proofs.{ExpectedRows.expected_more, ReadOfCommitted.reads_back}
use Rattle.line_replay.proofs.{ReadOfCommitted.reads_two}
use Rattle.line_replay.specs.{Expected.Expected, Judging.GoesOn, Listed.IsAt, Replay.Goes, Replay.IsStop}
use Rattle.line_replay.specs.{Replay.IsStuck, Replay.IsTaken, Rows.entry_row}
use Rattle.line_replay.specs.{declared.fault.ReplayFault.ReplayFault}
use Rattle.line_replay.specs.{declared.fault.ReplayFault.TheVariants.NotLawful}
use Rattle.line_replay.specs.{declared.fault.ReplayFault.TheVariants.Unavailable}

module _ {D : Type 0} (F : D → Basis → Type 0) (B : Basis) (old mid : State) (Before After : Type 0) (early : After → Before) (kept : Before → KeepsCommit old mid)
    (desk new : D) (before after : Expected) (count : ℕ) (taken : IsTaken F B Before old.committed desk before count) where
  at_first : (P : Database → Type 0) → After → Reads mid P → Reads old P
  at_first P clean r = reads_back old mid P (kept (early clean)) r

  pub taken_more : Goes F B After mid before new after true → (H : History) × IsTaken F (record B { history = H }) After old.committed new after (count + 1)
  taken_more went = (
    went.entry ∷ B.history,
    record {
      stands = went.stands;
      judged = (went.next, taken.judged);
      counted = omega (arith, taken.counted);
      rows = λ clean schema. ((at_first _ clean (went.row clean)).are schema, taken.rows (early clean) schema);
      others = expected_more Before After old mid went.edits before after B.history went.entry early (λ clean. kept (early clean)) taken.others went.lead went.adds;
    },
  )

pub row_taken : (old first : State) (o : Option Row) (row : Row) (H : History) (e : Entry) (number : ℕ) → KeepsCommit old first → o ≡ Some row → length H + 1 ≡ number → row ≡ entry_row H e
    → Reads old (λ db. filter (has_number number) (accepted_in db) ≡ only o) → Reads first (λ db. list_any (is_before e.stamped.uid number) (accepted_in db) ≡ false) → Reads old (λ db. IsAt (accepted_in db) H e)
row_taken old first o row H e number kept is numbered same found none =
    reads_two old (λ db. filter (has_number number) (accepted_in db) ≡ only o) (λ db. list_any (is_before e.stamped.uid number) (accepted_in db) ≡ false) (λ db. IsAt (accepted_in db) H e)
    (λ db found none. record {
      row = ap (λ n. filter (has_number n) (accepted_in db)) numbered ∙ found ∙ ap only is ∙ ap (λ (r : Row). r ∷ []) same;
      first = ap (λ n. list_any (is_before e.stamped.uid n) (accepted_in db)) numbered ∙ none;
    })
    found (reads_back old first _ kept none)

row_stuck : (rules : Rules) (old first : State) (o : Option Row) (row : Row) (H : History) (number : ℕ) → KeepsCommit old first → o ≡ Some row → length H + 1 ≡ number
    → Reads old (λ db. filter (has_number number) (accepted_in db) ≡ only o) → ((e : Entry) → GoesOn rules H row e → Reads first (λ db. list_any (is_before e.stamped.uid number) (accepted_in db) ≡ true))
    → Reads old (λ db. IsStuck rules H (accepted_in db))
row_stuck rules old first o row H number kept is numbered found repeats = record {
  was_open = found.was_open;
  are = λ schema.
      let there : filter (has_number (length H + 1)) (accepted_in old.committed) ≡ row ∷ [] = ap (λ n. filter (has_number n) (accepted_in old.committed)) numbered ∙ found.are schema ∙ ap only is in
      record {
        row = row;
        there = there;
        stuck = λ e next at.
            let both = sym there ∙ at.row in
            let same : row ≡ entry_row H e = cc in
            let repeat = reads_back old first _ kept (repeats e (record { same = same; next = next })) in
            true≢false (sym (repeat.are schema) ∙ sym (ap (λ n. list_any (is_before e.stamped.uid n) (accepted_in old.committed)) numbered) ∙ at.first);
      };
}

pub fault_stuck : (rules : Rules) (old first : State) (o : Option Row) (row : Row) (H : History) (number : ℕ) → KeepsCommit old first → o ≡ Some row → length H + 1 ≡ number
    → Reads old (λ db. filter (has_number number) (accepted_in db) ≡ only o) → (f : ReplayFault)
    → (f ≡ Unavailable) ⊎ ((f ≡ NotLawful number) × ((e : Entry) → GoesOn rules H row e → Reads first (λ db. list_any (is_before e.stamped.uid number) (accepted_in db) ≡ true)))
    → (f ≡ Unavailable) ⊎ ((f ≡ NotLawful number) × Reads old (λ db. IsStuck rules H (accepted_in db)))
fault_stuck rules old first o row H number kept is numbered found f (inl none) = inl none
fault_stuck rules old first o row H number kept is numbered found f (inr stop) = inr (stop.0, row_stuck rules old first o row H number kept is numbered found stop.1)

pub fault_taken : {D : Type 0} (F : D → Basis → Type 0) (B : Basis) (greatest : ℕ) (old mid : State) (Clean : Type 0) (desk : D) (expected : Expected) (count : ℕ) → Clean → KeepsCommit old mid
    → IsTaken F B Clean old.committed desk expected count → count + 1 ≤ greatest → (f : ReplayFault) → (f ≡ Unavailable) ⊎ ((f ≡ NotLawful (count + 1)) × Reads mid (λ db. IsStuck B.rules B.history (accepted_in db)))
    → (f ≡ Unavailable) ⊎ ((n : ℕ) × (f ≡ NotLawful n) × IsStop B.rules greatest old n)
fault_taken F B greatest old mid Clean desk expected count clean kept taken low f (inl none) = inl none
fault_taken F B greatest old mid Clean desk expected count clean kept taken low f (inr stop) =
    let stuck = reads_back old mid _ kept stop.1 in
    inr (count + 1, stop.0, (B.history, taken.judged, omega (arith, taken.counted), low, record { was_open = stuck.was_open; are = λ schema. (taken.rows clean schema, stuck.are schema) }))
