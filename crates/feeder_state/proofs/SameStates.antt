-- Histories of one state agree on everything that replies depend on.
use Rattle.desk_types.proofs.Common.{◌&&◌, ◌-◌, ◌∙◌, ◌≡◌, All, ap, arith, Bool, desk_minute, false, History}
use Rattle.desk_types.proofs.Common.{is_baked, is_mounted, is_six, is_some, IsJudged, IsStamped, left_of}
use Rattle.desk_types.proofs.Common.{LevelWithLabel, limit_of, List, Name, None, not, now_of, Option}
use Rattle.desk_types.proofs.Common.{option_and_then, option_map, option_map_or, receipt_of, refl, replies_to}
use Rattle.desk_types.proofs.Common.{Some, sym, Tables, tables_of, unwrap_or}
use Rattle.desk_laws.proofs.Common.{BoardRow, ReelRow, Stamped, Two}
use Rattle.desk_laws.proofs.{AfterCommands.many-commands, Agreeing.Agree, Agreeing.IsSame, Agreeing.mark}
use Rattle.desk_laws.proofs.{Agreeing.marks_of, FromAlike.same-absent}
use Rattle.desk_types.specs.Row.{IsRowIfAny, IsRowOf}
use Rattle.feeder_state.proofs.{AcceptedChanges.state-rows, AcceptedChanges.state-two, RestoredWork.busy-row}
use Rattle.feeder_state.proofs.{RestoredWork.is_at_work, RestoredWork.product-row, RowReels.mounts-row}
use Rattle.feeder_state.proofs.RowReels.{row-at, row-left}
use Rattle.feeder_state.specs.{Rows.AreRows, State.IsState, declared.desk.StateDesk.StateDesk}
use Rattle.state_rows.specs.Kept.{tables_in, unnumbered}

marks-row : (H : History) (reel : Name) (row : ReelRow) → IsRowOf H reel row
    → marks_of H reel ≡ Some (row.part, (row.lot, record { level = row.level; label = row.label }))
marks-row H reel row of =
    ap (option_map mark) of.is
    ∙ sym (ap (λ (r : ReelRow). Some (r.part, (r.lot, record { level = r.level; label = r.label }))) of.row_is)

-- A reel with one row in both histories.
same-row : (G H : History) (reel : Name) (said : Option ReelRow) → now_of G ≡ now_of H → IsJudged Two G → IsJudged Two H
    → IsRowIfAny G reel said → IsRowIfAny H reel said → IsSame G H reel
same-row G H reel None now of_G of_H in_G in_H = same-absent G H reel of_G of_H in_G in_H
same-row G H reel (Some row) now of_G of_H in_G in_H = record {
  marks = marks-row G reel row in_G ∙ sym (marks-row H reel row in_H);
  unbaked = sym in_G.unbaked ∙ in_H.unbaked;
  out = ap is_some (sym (ap (λ (r : ReelRow). r.open_since) in_G.row_is) ∙ ap (λ (r : ReelRow). r.open_since) in_H.row_is);
  minutes = λ _ minute le.
      let exposure = sym (in_G.exposure minute le).0 ∙ (in_H.exposure minute (omega (arith, now, le))).0 in
      let life = sym in_G.limit ∙ in_H.limit in
      (λ j. option_map (λ limit. limit - exposure j) (life j));
}

-- No board and no reel is past.
abbrev none_past : Name → Bool
none_past _ = false

state-agree : (G H : History) (desk : StateDesk) → IsState G desk → IsState H desk → Agree none_past none_past G H
state-agree G H desk of_G of_H = record {
  minute = minute;
  parts = λ j. (same_rows j).parts;
  alternates = λ j. (same_rows j).alternates;
  sheets = λ j product machine. (sym (of_G.setup.sheets product machine) ∙ of_H.setup.sheets product machine) j;
  selections = λ j. (same_rows j).selected;
  running = λ j machine. (sym (of_G.work.running machine) ∙ of_H.work.running machine) j;
  busy = λ j board. (sym (busy-row G board two_G) ∙ ap (λ (t : Tables). option_map_or is_at_work (t.boards board) false) same_rows ∙ busy-row H board two_H) j;
  products = λ board _. sym (product-row G board) ∙ ap (λ (t : Tables). option_and_then (λ (r : BoardRow). Some r.product) (t.boards board)) same_rows ∙ product-row H board;
  placed = λ board _. λ j d. (sym (of_G.work.placed board d) ∙ of_H.work.placed board d) j;
  left = λ j reel. (sym (row-left G desk.rows rows_G reel) ∙ row-left H desk.rows rows_H reel) j;
  live = λ j machine slot. (sym (of_G.floor.tapes machine slot) ∙ of_H.floor.tapes machine slot) j;
  mounted = λ j reel. (sym (mounts-row G desk.rows rows_G reel) ∙ mounts-row H desk.rows rows_H reel) j;
  started = λ board past. cc;
  spent = λ reel past. cc;
  reels = λ reel _. of_reel reel;
}
  where
    minute : desk_minute G ≡ desk_minute H
    minute = sym of_G.minute ∙ of_H.minute

    two_G : IsJudged Two G
    two_G = state-two G desk of_G

    two_H : IsJudged Two H
    two_H = state-two H desk of_H

    same_rows : unnumbered (tables_of G) ≡ unnumbered (tables_of H)
    same_rows = sym of_G.rows ∙ of_H.rows

    rows_G : AreRows G desk.rows
    rows_G = state-rows G desk of_G

    rows_H : AreRows H desk.rows
    rows_H = state-rows H desk of_H

    of_reel : (reel : Name) → IsSame G H reel
    of_reel reel =
        same-row G H reel ((tables_in desk.rows).reels reel) (ap (λ o. unwrap_or o 0) minute) two_G two_H (row-at G desk.rows rows_G reel _ refl) (row-at H desk.rows rows_H reel _ refl)

pub state-replies : (G H : History) (desk : StateDesk) (messages : List Stamped) → All IsStamped messages → IsState G desk → IsState H desk
    → replies_to desk.rules G messages ≡ replies_to desk.rules H messages
state-replies G H desk messages ranges of_G of_H =
    (many-commands none_past none_past desk.rules messages G H ranges (λ k d lt. record { boards = λ _ _ _. refl; reels = λ _ _ _. refl }) of_G.judged of_H.judged
    (state-agree G H desk of_G of_H)).0
