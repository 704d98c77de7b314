use Rattle.desk_types.proofs.Common.{◌+◌, ◌∙◌, ◌≡◌, AllByRecursion, arith, drop, false, rules, Some, subst}
use Rattle.desk_types.proofs.Common.{sym, take, true≢false, ℤ}
use Rattle.line_tables.proofs.Common.{Int, IsBefore, IsPast}
use Rattle.line_tables.proofs.Rising.{above_more, AreAbove, below_more, DoRise, past_here, rising_more}
use Rattle.std.proofs.{Common.of_z, Common.SFits, Common.to_z, Common.w64, lemmas.Int.to_z-of_z}
use Rattle.line_tables.proofs.rowids.are_rising.Goals as goal

pub loop-row-preserved : goal.loop-row-preserved
loop-row-preserved c =
    let was = c.loop-row.invariant in
    let i = c.loop-row.row-index in
    let n = c.in_ok-number.number in
    let last = c.loop-row.last in
    let fits : SFits w64 n = search rules in
    let same : to_z w64 (of_z w64 n) ≡ n = to_z-of_z w64 n fits in
    let past : IsPast last n = subst (IsPast last) same (c.is_past.ensures.0 (search rules)) in
    record {
      rising = rising_more c.args.rows.now i c.row-item.result n last (search arith) (search rules) c.in_ok-number.ensures.ok past was.rising was.below;
      below = subst (λ k. (m : ℤ) → IsPast (Some k) m → AllByRecursion (IsBefore (Int m)) (take (i + 1) c.args.rows.now)) (sym same)
          (below_more c.args.rows.now i c.row-item.result n last (search arith) (search rules) c.in_ok-number.ensures.ok past was.below);
      above = λ rise. subst (λ k. DoRise (drop (i + 1) c.args.rows.now) × AreAbove (Some k) (drop (i + 1) c.args.rows.now)) (sym same)
          (above_more c.args.rows.now i c.row-item.result n (search arith) (search rules) c.in_ok-number.ensures.ok (was.above rise).0);
    }

pub returns-then-not-is_past-clause-ok : goal.returns-then-not-is_past-clause-ok
returns-then-not-is_past-clause-ok c =
    let n = c.in_ok-number.number in
    let last = c.loop-row.last in
    let fits : SFits w64 n = search rules in
    let same : to_z w64 (of_z w64 n) ≡ n = to_z-of_z w64 n fits in
    let no : c.is_past.result ≡ false = search rules in (
      λ told. absurd (true≢false (sym told)),
      λ rises.
          let past = past_here c.args.rows.now c.loop-row.row-index c.row-item.result n (search arith) (search rules) c.in_ok-number.ensures.ok last (c.loop-row.invariant.above rises.0).1 in
          absurd (true≢false (sym (c.is_past.ensures.1 (subst (IsPast last) (sym same) past)) ∙ no)),
    )
