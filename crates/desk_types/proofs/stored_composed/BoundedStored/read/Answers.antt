use Rattle.desk_types.proofs.Common.{◌∙◌, ap, arith, IsListLength, length, subst, sym}
use Rattle.desk_types.proofs.Readers.{length_read, list_unread}
use Rattle.desk_types.proofs.stored_composed.BoundedStored.read.Goals as goal

pub returns-then-count : goal.returns-then-count
returns-then-count g c xs more is e =
    let read = c.in_ok-count.ensures in
    let one = length_read g.T.Stored.in_range g.T.Stored.spelling c.in_ok-count.count c.args.fields.now c.read.new.fields read.0 read.1 xs more is e in
    let fits = is.count in
    omega (arith, one.0)

pub returns-in_err-found : goal.returns-in_err-found
returns-in_err-found g c =
    let read = c.in_ok-count.ensures in
    list_unread g.T.Stored.in_range g.T.Stored.spelling c.in_ok-count.count c.args.fields.now c.read.new.fields c.values.new.fields c.values.new.fields
    c.in_err-found.field-0.0 c.from_residual-in_err-found.result read.0 read.1 c.from_residual-in_err-found.ensures.1 c.in_err-found.ensures

pub returns-in_default : goal.returns-in_default
returns-in_default g c xs more is e =
    let read = c.in_ok-count.ensures in
    let one = length_read g.T.Stored.in_range g.T.Stored.spelling c.in_ok-count.count c.args.fields.now c.read.new.fields read.0 read.1 xs more is e in
    c.in_default.ensures (subst IsListLength (sym one.0 ∙ sym c.in_ok-found.ensures.0.1 ∙ ap length (sym c.into_vec.ensures)) is.count)
