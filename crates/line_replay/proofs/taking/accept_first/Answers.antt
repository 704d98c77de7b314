use Rattle.desk_types.proofs.Common.{◌∙◌, ◌≡◌, inr, list_any, Name, refl, subst, sym, true}
use Rattle.line_tables.proofs.Common.{accepted_in, is_before, Reads, state}
use Rattle.line_replay.{proofs.ReadOfCommitted.reads_as, specs.Rows.entry_row}
use Rattle.line_replay.proofs.taking.accept_first.Goals as goal

pub returns-then-repeated-clause-err : goal.returns-then-repeated-clause-err
returns-then-repeated-clause-err g c B stands numbered clean =
    let old = state g.S.Store c.args.conn.now in
    let it = c.in-Ok.ensures.ok B stands numbered in
    inr (
      refl,
      λ e goes.
          let same : entry_row B.history it.0 ≡ entry_row B.history e = sym it.3.same ∙ goes.same in
          let uid : it.0.stamped.uid ≡ e.stamped.uid = cc in
          let read : c.as_str.result.now ≡ e.stamped.uid = c.as_str.ensures ∙ sym it.1 ∙ uid in
          subst (λ (name : Name). Reads old (λ db. list_any (is_before name c.args.number) (accepted_in db) ≡ true)) read
          (reads_as old (λ db. c.in_ok-repeated-in-Ok.repeated ≡ list_any (is_before c.as_str.result.now c.args.number) (accepted_in db))
          (λ db. list_any (is_before c.as_str.result.now c.args.number) (accepted_in db) ≡ true) (λ db told. sym told ∙ c.if-repeated.true) (c.in_ok-repeated-in-Ok.ensures.found clean)),
    )
