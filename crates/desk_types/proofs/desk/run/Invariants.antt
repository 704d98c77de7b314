use Rattle.desk_types.proofs.Common.{◌++◌, ◌-◌, ◌≡◌, after_commands, Basis, drop, History, length, replies_to}
use Rattle.desk_types.specs.Desk.{HasRoom}
use Rattle.desk_types.proofs.desk.run.Given as goal

-- For each initial basis, the desk represents one with the same rules that gives the remaining
-- replies.
abbrev pub invariant-loop-message : goal.invariant-loop-message
invariant-loop-message g l =
    let stands = g.D.Desk.Stands in
    let to_come = drop l.message-index l.messages in
    record {
      told : (B : Basis) → stands l.fn.desk B
          → (H : History) × stands l.desk (record B { history = H })
          × (l.replies.items ++ replies_to B.rules H to_come
          ≡ replies_to B.rules B.history l.messages)
          × (after_commands B.rules H to_come ≡ after_commands B.rules B.history l.messages);
      room : HasRoom stands l.desk (length l.messages - l.message-index);
    }
