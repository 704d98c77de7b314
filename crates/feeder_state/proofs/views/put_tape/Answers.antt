use Rattle.desk_types.proofs.Common.{[], ◌++◌, ◌<◌, ◌∙◌, ◌∷◌, ◌≡◌, All, All-get_or, ap, false, get_or}
use Rattle.desk_types.proofs.Common.{History, is_some, length, List, mount_of, Name, receipt_of, rules, subst}
use Rattle.desk_types.proofs.Common.{sym, true, ℕ}
use Rattle.feeder_state.{proofs.FloorTells.told-now, proofs.views.put_tape.Goals.in-Some+in_ok-push}
use Rattle.feeder_state.{proofs.RowReels.row-at, proofs.views.put_tape.Goals.in_default}
use Rattle.judging.proofs.MountLists.{place-next}
use Rattle.std.specs.Option.{option_copied}
use Rattle.feeder_state.proofs.views.put_tape.Goals as goal

there : (H : History) (tape : List Name) (i : ℕ) (x : Name) → i < length tape → x ≡ get_or tape i x → All (λ name. is_some (receipt_of H name) ≡ true) tape → is_some (receipt_of H x) ≡ true
there H tape i x inside is all = let received : Name → Type 0 = λ name. is_some (receipt_of H name) ≡ true in subst received (sym is) (All-get_or received tape i x inside all)

pub loop-index-preserved : goal.loop-index-preserved
loop-index-preserved c = λ H told received.
    let tape = c.args.tape.now in
    let index = c.loop-index.index in
    let name = c.index-name.result.now in
    let row = row-at H c.args.rows.now told.are name in
    let inside : index < length tape = search rules in
    let is : name ≡ get_or tape index name = search rules in
    let one = there H tape index name inside is received in
    elim c.match-reel.branch [
      | in-Some+in_ok-push w ↦
          rw w.mounts-is (
          w.in_ok-push.ensures.items
          ∙ ap (λ m. c.loop-index.mounts.items ++ m ∷ []) (w.mount_of.ensures H (row _ (sym (ap option_copied w.in-Some.is) ∙ c.reel.ensures)) (told-now H c.args.minute c.args.rows.now told))
          ∙ place-next (mount_of H c.args.slot.now) c.args.mounts.now.items c.loop-index.mounts.items tape index name inside is (c.loop-index.invariant H told received)
          )
      | in_default w ↦ absurd (none-there (sym (ap is_some (row _ (sym (ap option_copied w.in_default.is) ∙ c.reel.ensures))) ∙ one))
    ]
  where
    none-there : false ≡ true → ⊥
    none-there is = cc
