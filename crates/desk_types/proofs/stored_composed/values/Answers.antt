use Rattle.desk_types.proofs.Common.{arith}
use Rattle.desk_types.proofs.Readers.{value_unread}
use Rattle.desk_types.proofs.stored_composed.values.Goals as goal

pub returns-in_err-value : goal.returns-in_err-value
returns-in_err-value g c =
    let so_far = c.loop.invariant in
    value_unread g.T.Stored.in_range g.T.Stored.spelling g.met.T.Stored.apart c.args.count c.loop.found.items c.args.fields.now c.loop.fields c.read.new.fields c.read.new.fields
    c.in_err-value.field-0.0 c.from_residual.result so_far.each so_far.read (omega arith) c.from_residual.ensures.1 c.in_err-value.ensures
