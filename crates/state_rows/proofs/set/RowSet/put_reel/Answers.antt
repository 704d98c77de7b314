use Rattle.desk_types.proofs.Common.{◌∙◌, ap, by_name, cond, get, is_at, rules, Some}
use Rattle.state_rows.{proofs.RowLists.reel-put, specs.contracts.set.RowSet.the_view}
use Rattle.state_rows.proofs.set.RowSet.put_reel.Goals as goal

pub returns-in-Some : goal.returns-in-Some
returns-in-Some c = reel-put (the_view c.self.inside) c.args.self.now c.self.view_is _ c.args.row.now (((c.get_mut.follows.holds c.args.row.now).3 (search rules)).0)

pub returns : goal.returns
returns c =
    let row = c.args.row.now in
    reel-put (the_view c.self.inside) c.args.self.now c.self.view_is c.insert.new.self.entries row
    (λ q. c.in_ok-insert.ensures.updates.0 q ∙ ap (λ m. cond (is_at (by_name row.reel) q) (Some row) (get by_name m q)) c.get_mut.follows.holds-at-none)
