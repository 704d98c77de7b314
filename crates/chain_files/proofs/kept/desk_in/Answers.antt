use Rattle.std.specs.Prelude.{⊤}
use Rattle.std.proofs.Common.{Bool, Err, None, Some, arith, ◌∙◌, subst, inl, inr}
use Rattle.sqlite.specs.Files.{file_state, image_of, over_files}
use Rattle.sqlite.specs.State.{HasCleanDisk}
use Rattle.desk_types.specs.declared.rules.Rules.TheVariants.{Two}
use Rattle.feeder_state.specs.contracts.desk.StateDeskDesk.TheImpl.{ghosts as state}
use Rattle.line_schema.specs.Stands.{Kept, Stands}
use Rattle.desk_file.proofs.FirstLists.{opened_begins}
use Rattle.desk_file.specs.Refused.{IsFaultIn}
use Rattle.desk_file.proofs.RefusedFiles.{fault_in, refused, refuses}
use Rattle.line_tables.proofs.Ours.{ours_is}
use Rattle.sqlite_store.specs.Laws.{settled_at}
use Rattle.chain_files.proofs.kept.desk_in.Goals as goal

pub returns-in-Ok-open-clause-opens : goal.returns-in-Ok-open-clause-opens
returns-in-Ok-open-clause-opens g c = λ clean alone.
    let image = image_of g.D.Disk c.args.files in
    let conn = c.in-Ok.conn in
    let L = c.in-Ok-open.ensures.opened.0 in
    let opens = c.in-Ok-open.ensures.opened.1 in
    let before : HasCleanDisk (file_state conn) = omega (arith, opens.reads.survives.clean, clean) in
    let opened = c.in-Ok.ensures.opened before in
    let begins = opened_begins image (file_state conn) (c.in-Ok.ensures.found before) opened.0 opened.1
    None L.greatest L.history opens.named (opens.tables clean) alone in
    let kept : Bool → Kept = λ own. record { greatest = L.greatest; history = L.history; own = own } in (
      L.greatest,
      L.history,
      begins.0,
      subst (λ (own : Bool). Stands over_files state.Stands c.in-Ok-open.store (kept own))
          (opens.own ∙ begins.1) opens.stands,
      λ trees may.
          let layout = ours_is (file_state conn).committed.schema begins.1 in
          let held = (opens.tables clean).are (record { rules = Two; layout = layout.0; same = layout.1 }) in
          let was : (file_state conn).may_leave trees = elim (opens.reads.survives.crash clean trees may) [
            | inl old ↦ old
            | inr none ↦ absurd none
          ] in
          ((file_state conn).committed, held, (opened.1 opened.0.is_open).1, settled_at conn.store g.met.D.Disk.seen_may_stay trees opened.0.is_open was),
    )

pub returns-in-Err-open-clause-refused : goal.returns-in-Err-open-clause-refused
returns-in-Err-open-clause-refused g c =
    let image = image_of g.D.Disk c.args.files in
    let first = c.in-Ok in
    let opened = first.ensures.opened in
    let found = first.ensures.found in
    let last = c.in-Err-open.conn in
    let fault = c.in-Err-open.fault in
    let told = c.in-Err-open.ensures in
    let kept = told.refused.kept in
    let survives = told.refused.survives in
    let stands = fault_in image first.conn last (λ _ _. ⊥) opened found kept survives Two fault
    told.fault.holds told.fault.told in
    refuses {X = ⊤} image None (Err (record { fault = fault; file = Some last; unread = None })) told.fault.never
    (refused image first.conn last (λ _ _. ⊥) opened found kept survives (IsFaultIn image Two) ⊥ fault stands
    (λ none. absurd none))
