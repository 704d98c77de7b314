use Rattle.desk_types.proofs.Common.{◌∙◌, ap, arith, option_or, sym, take, take-next}
use Rattle.line_doubt.specs.Sources.{boundary_at, number_at}
use Rattle.line_doubt.proofs.Joints.{boundary-last}
use Rattle.line_doubt.proofs.entries.joints_in.Goals as goal

pub loop-note-preserved : goal.loop-note-preserved
loop-note-preserved c = λ joint.
    let book = c.args.book.now in
    let i = c.loop-note.note-index in
    let n = c.note-item.result in
    c.in_ok-add_joint.ensures joint
    ∙ ap (option_or (number_at joint n.number n.after n.matter)) (c.loop-note.invariant joint)
    ∙ sym (ap (λ ns. boundary_at ns joint) (take-next book i n (omega arith) c.note-item.is)
    ∙ boundary-last (take i book) n joint)
