use Rattle.desk_types.proofs.Common.{◌∙◌, ◌≡◌, AllByRecursion, ap, by_name, exact_bytes, false, is_some, Name}
use Rattle.desk_types.proofs.Common.{None, Option, option_and_then, refl, rules, Some, subst, sym, true}
use Rattle.desk_laws.proofs.Common.{BoardRow}
use Rattle.chain_check.proofs.{Covered.covered-rows, SameRows.IsOffWork}
use Rattle.state_rows.specs.Kept.{Lists, tables_in}
use Rattle.chain_check.proofs.tables.first_in_work.Goals as goal

pub loop-board-preserved : goal.loop-board-preserved
loop-board-preserved c = λ rest.
    let rows = c.args.rows.now in
    let off : IsOffWork rows c.in-Some.board.now = sym c.is_in_work.ensures ∙ c.if-is_in_work.false in
    c.loop-board.invariant (subst (AllByRecursion (λ (e : Name × BoardRow). IsOffWork rows e.0)) (sym c.in-Some.ensures.steps) (off, rest))

-- A board without a row is not in work.
unlisted : (row : Option BoardRow) → (is_some row ≡ true → is_some (option_and_then (λ (r : BoardRow). r.machine) row) ≡ false)
    → is_some (option_and_then (λ (r : BoardRow). r.machine) row) ≡ false
unlisted None off = refl
unlisted (Some row) off = off refl

pub returns : goal.returns
returns c =
    let rows = c.args.rows.now in
    let es = c.into_iter-board-iterator.result in
    let table = (tables_in rows).boards in
    let lists : Lists by_name es table = subst (λ xs. Lists by_name xs table) (search rules) c.boards-board-items.ensures in
    let all = c.loop-board.invariant (subst (AllByRecursion (λ (e : Name × BoardRow). IsOffWork rows e.0)) (sym c.in-None.ensures.steps.0) tt) in
    record { none = λ board. unlisted (table board) (λ has. covered-rows by_name exact_bytes (λ (k : Name). IsOffWork rows k) es board all (ap is_some (lists.rows board) ∙ has)); some = tt }
