use Rattle.desk_types.proofs.Tabs.{texts_apart}
use Rattle.desk_types.proofs.Common.{◌∙◌, ◌≡◌, ap, change_of, entry_of, inr, refl, rules, sym}
use Rattle.line_replay.proofs.Judgements.{refused, said, stamped_is, unsaid}
use Rattle.line_replay.proofs.judging.accept_row.Goals as goal

pub returns-then-not-says-clause-err : goal.returns-then-not-says-clause-err
returns-then-not-says-clause-err g c B stands numbered =
    let H = B.history in
    let s = c.in-Some.stamped in
    inr (
      refl,
      unsaid texts_apart _ H c.args.row.now s (search rules) c.ranges_hold.ensures c.in-Ok.change c.args.number _ (c.in-Ok.ensures B stands) numbered c.in_ok-text-in-Ok.ensures
          (λ three. search rules),
    )

pub returns-in-Ok-clause-ok : goal.returns-in-Ok-clause-ok
returns-in-Ok-clause-ok g c B stands numbered =
    let H = B.history in
    let s = c.in-Some.stamped in
    let is = c.in-Ok.ensures B stands in
    let same : c.in-Ok.change.stamped ≡ s = stamped_is _ H s c.in-Ok.change is in (
      entry_of H s,
      refl,
      rw same at (c.in_ok-settle_edits-in-Ok.ensures.stands B stands),
      said texts_apart _ H c.args.row.now s (search rules) c.ranges_hold.ensures c.in-Ok.change c.args.number _ is numbered c.in_ok-text-in-Ok.ensures (search rules) (search rules),
      record {
        lead = rw same at (c.in_ok-edits-in-Ok.ensures.lead B stands (sym numbered));
        new = c.in_ok-edits-in-Ok.ensures.new B stands (sym numbered);
      },
      λ listed. rw same at (c.in_ok-note-in-Ok.ensures.listed H listed (sym numbered) (is.value ∙ ap (change_of H) (sym same))),
    )

pub returns-in-Err-Refused-clause-err : goal.returns-in-Err-Refused-clause-err
returns-in-Err-Refused-clause-err g c B stands numbered =
    let H = B.history in
    let s = c.in-Some.stamped in
    inr (refl, refused texts_apart _ H c.args.row.now s (search rules) c.ranges_hold.ensures _ (rw c.in-Err-Refused.field-0-is at (c.in-Err-Refused.ensures B stands)))
