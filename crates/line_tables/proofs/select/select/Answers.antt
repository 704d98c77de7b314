use Rattle.desk_types.proofs.Common.{◌≡◌, arith, IsTrue, rules, subst, sym}
use Rattle.line_tables.proofs.Common.{HasCleanDisk, state}
use Rattle.line_tables.proofs.Finds.{selects}
use Rattle.line_tables.proofs.select.select.Goals as goal

pub returns-clause-shown : goal.returns-clause-shown
returns-clause-shown g c clean =
    let old = c.args.conn.now in
    let last = c.select_in.new.tx.conn.now in
    let end = c.drop-tx.new.self.0 in
    let same : end ≡ c.conn-1.given.0 = search rules in
    let clean_end : HasCleanDisk (state g.S.Store end) = subst (λ h. HasCleanDisk (state g.S.Store h)) (sym same) clean in
    let auto : IsTrue c.is_autocommit.result = search rules in
    selects g.S.Store old last _ _ c.select_in.result (c.is_autocommit.ensures.settled auto) (rw c.transaction-tx.ensures.begun at (c.select_in.ensures.shown (omega (arith, c.drop-tx.ensures.survives.clean))))
