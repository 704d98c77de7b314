use Rattle.desk_types.proofs.Common.{◌∙◌, ap, IfErr, IfOk, subst, sym}
use Rattle.desk_commands.specs.Closed.{failed, whole}
use Rattle.line_commands.specs.Serving.{ClosesLists, ClosesSome}
use Rattle.line_commands.specs.declared.left.LineLeft.{LineLeft}
use Rattle.line_schema.specs.Stands.{conn_of}
use Rattle.line_tables.proofs.Common.{Held}
use Rattle.line_commands.proofs.left.close_line.Goals as goal

pub returns-in-Lists-clause-ok : goal.returns-in-Lists-clause-ok
returns-in-Lists-clause-ok g c =
    let is = c.into_connection.ensures ∙ ap conn_of c.into_store.ensures in
    subst (λ (left : LineLeft _ _). IfOk c.close_connection-in-Lists.result (ClosesLists whole left))
    (sym c.in-Lists.is)
    (subst (λ (conn : Held _). IfOk c.close_connection-in-Lists.result (ClosesSome whole conn)) is
    c.close_connection-in-Lists.ensures.ok)

pub returns-in-Lists-clause-err : goal.returns-in-Lists-clause-err
returns-in-Lists-clause-err g c =
    let is = c.into_connection.ensures ∙ ap conn_of c.into_store.ensures in
    subst (λ (left : LineLeft _ _). IfErr c.close_connection-in-Lists.result (ClosesLists failed left))
    (sym c.in-Lists.is)
    (subst (λ (conn : Held _). IfErr c.close_connection-in-Lists.result (ClosesSome failed conn)) is
    c.close_connection-in-Lists.ensures.err)
