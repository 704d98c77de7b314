use Rattle.desk_types.proofs.Common.{◌∙◌, arith, sym}
use Rattle.state_rows.proofs.SumsInRange.{count-fits}
use Rattle.state_rows.proofs.counted.count_row.Goals as goal

pub note-requires : goal.note-requires
note-requires g c =
    let room = c.requires.room in
    let few = room.2 in
    count-fits room.0.history c.args.row.now.reel c.get-pieces.result c.in-Some.view (c.requires.judged room.0 room.1) (omega (arith, few)) c.get-pieces.ensures.range
    (sym (c.reel.ensures room.0 room.1) ∙ c.in-Some.is)
