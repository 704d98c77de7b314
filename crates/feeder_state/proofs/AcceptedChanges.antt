-- A change that is accepted.
use Rattle.desk_types.proofs.Common.{[], ◌∙◌, ◌∷◌, ◌≡◌, accept, ap, arith, Basis, board_row, Bool}
use Rattle.desk_types.proofs.Common.{desk_minute, effective_minute, entry_of, false, History, if◌then◌else◌}
use Rattle.desk_types.proofs.Common.{is_alternate, is_mounted, is_part, is_some, IsChange, IsJudged, IsMinute}
use Rattle.desk_types.proofs.Common.{IsStamped, left_of, List, list_any, live_on, max, Name, nat_lt, None}
use Rattle.desk_types.proofs.Common.{now_of, option_map_or, or_parts, refl, same, selected_on, Some, subst}
use Rattle.desk_types.proofs.Common.{sym, Tables, takes_by, true, with_edit, with_edits, ℕ}
use Rattle.desk_laws.proofs.Common.{judged-by-two, ReelRow, Rules, Stamped, Two}
use Rattle.desk_laws.proofs.PicksOfOneSlot.{live-pieces}
use Rattle.desk_laws.proofs.Tapes.{not-zero}
use Rattle.desk_types.specs.declared.change.Change.{Change}
use Rattle.desk_types.specs.declared.edit.RowEdit.{RowEdit}
use Rattle.desk_types.specs.declared.edit.RowEdit.TheVariants.{PutAlternate, PutBoard, PutFound, PutMount}
use Rattle.desk_types.specs.declared.edit.RowEdit.TheVariants.{PutPart, PutPlacement, PutReel, PutSelected}
use Rattle.desk_types.specs.declared.edit.RowEdit.TheVariants.{PutSheetRow, TakeMount, TakeSheetRow}
use Rattle.feeder_state.proofs.RowReels.{mounts-row, row-left}
use Rattle.feeder_state.proofs.TapeSteps.{all-kept, zero-is}
use Rattle.feeder_state.specs.Noted.{IsNoted}
use Rattle.feeder_state.specs.Rows.{AreRows, AreRowsAt, left_at}
use Rattle.feeder_state.specs.Spending.{empties, NoneIsSpent}
use Rattle.feeder_state.specs.State.{IsState, Represents}
use Rattle.feeder_state.specs.Tape.{tape_at}
use Rattle.feeder_state.specs.declared.desk.StateDesk.{StateDesk}
use Rattle.state_rows.specs.Kept.{but_placements, KeptRows, tables_in}
use Rattle.std.specs.List.{filter}

pub accepted-judged : (rules : Rules) (H : History) (s : Stamped) (change : Change) → IsJudged rules H → IsStamped s → IsMinute change.minute → IsChange rules H s change
    → IsJudged rules (accept H s)
accepted-judged rules H s change judged in_range minute is =
    let at = ap (λ (x : Change). x.minute) is.value in
    (record { in_range = record { stamped = in_range; effective = omega (arith, at, minute) }; number = refl; effective = refl; accepted = is.accepted }, judged)

pub accepted-noted : (rules : Rules) (H : History) (s : Stamped) (change : Change) → IsJudged rules H → IsStamped s → IsMinute change.minute → IsChange rules H s change
    → IsNoted H (entry_of H s) s.command change.minute change.takes
accepted-noted rules H s change judged in_range minute is =
    let at = ap (λ (x : Change). x.minute) is.value in
    record {
      judged = judged-by-two rules (accept H s) (accepted-judged rules H s change judged in_range minute is);
      command_is = refl;
      effective = sym at;
      takes_are = ap (λ (x : Change). x.takes) is.value ∙ ap (λ m. takes_by H m s.command) (sym at);
    }

pub accepted-minute : (rules : Rules) (H : History) (s : Stamped) (change : Change) → IsChange rules H s change → Some change.minute ≡ desk_minute (accept H s)
accepted-minute rules H s change is =
    let at = ap (λ (x : Change). x.minute) is.value in
    let greatest : change.minute ≡ max (effective_minute H s.minute) (now_of H) = omega (arith, at) in
    ap Some greatest

pub none-accepted : (H : History) → desk_minute H ≡ None → [] ≡ H
none-accepted [] none = refl
none-accepted (e ∷ H) none = cc

-- ---- the facts of a state

pub represents-judged : (desk : StateDesk) (B : Basis) → Represents desk B → IsJudged B.rules B.history
represents-judged desk B stands = subst (λ r. IsJudged r B.history) stands.rules stands.state.judged

pub represents-state : (desk : StateDesk) (B : Basis) → Represents desk B → IsState B.history desk
represents-state desk B stands = stands.state

pub state-two : (H : History) (desk : StateDesk) → IsState H desk → IsJudged Two H
state-two H desk state = judged-by-two desk.rules H state.judged

pub state-live : (H : History) (desk : StateDesk) (machine slot : Name) → IsState H desk
    → filter (λ reel. nat_lt 0 (left_of H reel)) (tape_at desk.floor.tapes machine slot) ≡ live_on H machine slot
state-live H desk machine slot state =
    ap (filter (λ reel. nat_lt 0 (left_of H reel))) (state.floor.tapes machine slot)
    ∙ all-kept (λ reel. nat_lt 0 (left_of H reel)) (live_on H machine slot) (live-pieces H machine slot)

pub state-rows : (H : History) (desk : StateDesk) → IsState H desk → AreRows H desk.rows
state-rows H desk state = record { judged = state-two H desk state; same = state.rows }

pub state-told : (H : History) (desk : StateDesk) → IsState H desk → AreRowsAt H desk.minute desk.rows
state-told H desk state = record { are = state-rows H desk state; minute_is = state.minute }

-- ---- single facts

pub state-selected : (H : History) (desk : StateDesk) (machine : Name) → IsState H desk → (tables_in desk.rows).selected machine ≡ selected_on H machine
state-selected H desk machine state = ap (λ (t : Tables). t.selected machine) state.rows

pub state-part : (H : History) (desk : StateDesk) (part : Name) → IsState H desk → (tables_in desk.rows).parts part ≡ is_part H part
state-part H desk part state = ap (λ (t : Tables). t.parts part) state.rows

pub state-alternate : (H : History) (desk : StateDesk) (p q : Name) → IsState H desk → (tables_in desk.rows).alternates p q ≡ is_alternate H p q
state-alternate H desk p q state = ap (λ (t : Tables). t.alternates p q) state.rows

pub state-left : (H : History) (desk : StateDesk) (reel : Name) → IsState H desk → left_at desk.rows reel ≡ left_of H reel
state-left H desk reel state = row-left H desk.rows (state-rows H desk state) reel

pub state-mounted : (H : History) (desk : StateDesk) (reel : Name) → IsState H desk → is_some ((tables_in desk.rows).mounts reel) ≡ is_mounted H reel
state-mounted H desk reel state = mounts-row H desk.rows (state-rows H desk state) reel

pub state-board : (H : History) (desk : StateDesk) (board : Name) → IsState H desk → (tables_in desk.rows).boards board ≡ board_row H board
state-board H desk board state = ap (λ (t : Tables). t.boards board) state.rows

-- ---- reels that edits leave without pieces

abbrev left_in : Tables → Name → ℕ
left_in t r = option_map_or (λ (row : ReelRow). row.remaining) (t.reels r) 0

one-left : (e : RowEdit) (t : Tables) (r : Name) → empties e ≡ false → nat_lt 0 (left_in t r) ≡ true → nat_lt 0 (left_in (with_edit e t) r) ≡ true
one-left (PutReel row) t r full some = by (same row.reel r)
  where
    by : (b : Bool) → nat_lt 0 (option_map_or (λ (x : ReelRow). x.remaining) (if b then Some row else t.reels r) 0) ≡ true
    by true = not-zero row.remaining full
    by false = some
one-left (TakeSheetRow p m k) t r full some = some
one-left (TakeMount reel) t r full some = some
one-left (PutPart p) t r full some = some
one-left (PutAlternate p q) t r full some = some
one-left (PutSheetRow p m k row) t r full some = some
one-left (PutSelected m p) t r full some = some
one-left (PutMount row) t r full some = some
one-left (PutBoard row) t r full some = some
one-left (PutPlacement row) t r full some = some
one-left (PutFound reel n) t r full some = some

edits-left : (edits : List RowEdit) (t : Tables) (r : Name) → list_any empties edits ≡ false → nat_lt 0 (left_in t r) ≡ true → nat_lt 0 (left_in (with_edits edits t) r) ≡ true
edits-left [] t r none some = some
edits-left (e ∷ es) t r none some =
    let both = or_parts (empties e) (list_any empties es) none in
    edits-left es (with_edit e t) r both.1 (one-left e t r both.0 some)

pub accepted-spends : (H : History) (desk : StateDesk) (after : KeptRows) (edits : List RowEdit) (spends : Bool) → IsState H desk → spends ≡ list_any empties edits
    → tables_in after ≡ but_placements (with_edits edits (tables_in desk.rows)) (tables_in desk.rows) → NoneIsSpent spends H after
accepted-spends H desk after edits spends state is made none r some =
    zero-is (left_at after r) true (
    ap (λ (t : Tables). nat_lt 0 (left_in t r)) made
    ∙ edits-left edits (tables_in desk.rows) r (sym is ∙ none) (ap (nat_lt 0) (state-left H desk r state) ∙ some))

pub ruleset of_state = (represents-judged, represents-state, state-two, state-live, state-told, state-selected)
