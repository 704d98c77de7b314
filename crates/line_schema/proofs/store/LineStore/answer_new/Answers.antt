use Rattle.desk_types.proofs.Common.{inl, inr}
use Rattle.line_schema.proofs.{ListsAfter.newly_weaker, Others.file_then}
use Rattle.line_schema.proofs.store.LineStore.answer_new.Goals as goal

pub returns-clause-answers : goal.returns-clause-answers
returns-clause-answers g c L stands clean own =
    let early = c.answer_at_hand.ensures.file.clean clean in
    let told = c.answer_at_hand.ensures.answers L (c.ready.ensures.makes_desk.stands L stands early own) in
    let rows = c.ready.ensures.rows L stands early own in
    record { answer = told.answer; err = told.err; rows = λ was. told.rows (rows was); rows_stay = λ was. told.rows_stay (rows was) }

pub returns-clause-crash : goal.returns-clause-crash
returns-clause-crash g c L stands clean own trees left =
    let early = c.answer_at_hand.ensures.file.clean clean in
    newly_weaker L c.args.stamped.now _ _ _ trees
    (λ before. elim (c.ready.ensures.makes_desk.survives.crash early trees before) [ inl at_entry ↦ at_entry | inr none ↦ absurd none ])
    (c.answer_at_hand.ensures.crash L (c.ready.ensures.makes_desk.stands L stands early own) clean own trees left)

pub returns-clause-file : goal.returns-clause-file
returns-clause-file g c = file_then _ _ _ c.ready.ensures.makes_desk.survives c.ready.ensures.others c.answer_at_hand.ensures.file
