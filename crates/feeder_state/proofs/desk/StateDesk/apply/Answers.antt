use Rattle.desk_types.proofs.Common.{◌∙◌, accept, ap, entry_of, IsJudged, IsMinute, refl, subst, sym}
use Rattle.feeder_state.{proofs.AcceptedChanges.accepted-judged, proofs.AcceptedChanges.accepted-minute}
use Rattle.feeder_state.{proofs.AcceptedChanges.accepted-noted, proofs.AcceptedChanges.accepted-spends}
use Rattle.feeder_state.{proofs.AcceptedChanges.represents-judged, specs.Noted.IsNoted}
use Rattle.state_rows.{proofs.EditLists.edits-unnumbered, specs.Kept.unnumbered}
use Rattle.feeder_state.proofs.desk.StateDesk.apply.Goals as goal

pub note-requires : goal.note-requires
note-requires c =
    let room = c.requires.room in
    let B = room.0 in
    let H = B.history in
    let change = c.args.change in
    let s = change.stamped in
    let noted = accepted-noted B.rules H s change (represents-judged c.args.self.now B room.1) c.ranges_hold.ensures (subst IsMinute c.get.ensures.value c.get.ensures.range) (c.requires.judged B room.1) in
    (H, entry_of H s, change.minute, subst (IsNoted H (entry_of H s) s.command change.minute) (sym c.as_slice.ensures) noted, room.1.state.floor)

pub returns-clause-stands : goal.returns-clause-stands
returns-clause-stands c = λ B stands.
    let H = B.history in
    let state = stands.state in
    let change = c.args.change in
    let s = change.stamped in
    let is = c.requires.judged B stands in
    let range = subst IsMinute c.get.ensures.value c.get.ensures.range in
    let was = represents-judged c.args.self.now B stands in
    let judged = accepted-judged B.rules H s change was c.ranges_hold.ensures range is in
    let noted = accepted-noted B.rules H s change was c.ranges_hold.ensures range is in
    let rows = ap unnumbered c.in_ok-apply_but_placements.ensures ∙ edits-unnumbered c.args.edits.now _ _ state.rows ∙ c.requires.lead B stands in
    record {
      rules = stands.rules;
      state = record {
        judged = subst (λ r. IsJudged r (accept H s)) (sym stands.rules) judged;
        minute = accepted-minute B.rules H s change is;
        rows = rows;
        setup = c.in_ok-note-3.ensures H (entry_of H s) refl state.setup;
        floor = c.in_ok-note.ensures H (entry_of H s) change.minute (subst (IsNoted H (entry_of H s) s.command change.minute) (sym c.as_slice.ensures) noted) (record { judged = noted.judged; same = rows })
            (accepted-spends H c.args.self.now _ c.args.edits.now _ state c.spends.ensures c.in_ok-apply_but_placements.ensures) state.floor;
        work = c.in_ok-note-2.ensures H (entry_of H s) refl state.work;
      };
    }
