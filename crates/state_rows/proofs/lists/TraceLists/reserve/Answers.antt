use Rattle.desk_types.proofs.Common.{refl}
use Rattle.state_rows.proofs.KeptUnderNames.{listed-still}
use Rattle.state_rows.proofs.lists.TraceLists.reserve.Goals as goal

pub returns-in_err-room_for_install-clause-same : goal.returns-in_err-room_for_install-clause-same
returns-in_err-room_for_install-clause-same c H is = listed-still c.args.self.now _ H (λ n. refl) c.room_for_install.ensures c.reserve-2.ensures.items c.reserve.ensures.items is

pub returns-in_err-room_for_pieces-clause-same : goal.returns-in_err-room_for_pieces-clause-same
returns-in_err-room_for_pieces-clause-same c H is = listed-still c.args.self.now _ H c.room_for_pieces.ensures c.room_for_install.ensures c.reserve-2.ensures.items c.reserve.ensures.items is

pub returns-clause-same : goal.returns-clause-same
returns-clause-same c H is = listed-still c.args.self.now _ H c.room_for_pieces.ensures c.room_for_install.ensures c.reserve-2.ensures.items c.reserve.ensures.items is
