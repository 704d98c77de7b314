use Rattle.desk_types.proofs.Common.{◌∙◌, ap, cond, None, option_or, Some, sym, ℕ}
use Rattle.line_doubt.specs.Sources.{Joint, number_at, number_in, same_joint}
use Rattle.line_doubt.proofs.Joints.{joint-written, or-chosen}
use Rattle.line_doubt.proofs.entries.add_joint.Goals as goal

pub returns-in_ok-insert : goal.returns-in_ok-insert
returns-in_ok-insert c = λ joint.
    let old = c.args.joints.now in
    let note = c.args.note.now in
    let b = c.in-Boundary in
    let key : ℕ → Joint = λ n. (n, (b.machine, b.slot), (b.board, b.desk_reel)) in
    joint-written (number_in old) (number_in c.insert.new.self) (key c.number_after-at.result)
    (Some c.from-number.result) c.in_ok-insert.ensures.updates.0 joint
    ∙ or-chosen (same_joint (key c.number_after-at.result) joint) c.from-number.result (number_in old joint)
    ∙ ap (λ k. option_or (cond (same_joint (key c.number_after-at.result) joint) (Some k) None) (number_in old joint))
    c.from-number.ensures
    ∙ ap (λ n. option_or (cond (same_joint (key n) joint) (Some note.number) None) (number_in old joint))
    c.number_after-at.ensures
    ∙ ap (λ m. option_or (number_at joint note.number note.after m) (number_in old joint)) (sym b.is)
