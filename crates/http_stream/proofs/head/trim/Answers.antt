use Rattle.desk_types.proofs.Common.{◌∙◌, ◌≡◌, ap, arith, List, reverse, sym, ℕ}
use Rattle.http_stream.proofs.head.trim.Goals.{else-loop-start-test, then-loop-start-test+else-is_blank}
use Rattle.httparse.proofs.TrimLemmas.{skip_ows_no, skip_ows_yes, slice_empty, slice_first, slice_last}
use Rattle.httparse.specs.Grammar.{skip_ows, trim_ows}
use Rattle.std.proofs.{Common.slice_range, lemmas.List.reverse-reverse}
use Rattle.http_stream.proofs.head.trim.Goals as goal

pub loop-start-preserved : goal.loop-start-preserved
loop-start-preserved c = (
  omega arith,
  c.loop-start.invariant.1 ∙ skip_ows_yes (slice_first _ _ _ c.loop-start-test.true c.requires.in_range) c.if-is_blank.ensures,
)

pub loop-end-init : goal.loop-end-init
unfolding trim_ows
loop-end-init c =
    let here = slice_range c.args.buf.now c.loop-start.start c.args.end in
    let stays : skip_ows here ≡ here =
    elim c.loop-start-test.branch [
      | then-loop-start-test+else-is_blank w ↦
          let first = slice_first _ _ _ w.loop-start-test.true c.requires.in_range in
          skip_ows_no first w.if-is_blank.ensures
      | else-loop-start-test w ↦
          let empty = slice_empty c.args.buf.now c.loop-start.start c.args.end (omega arith) c.requires.in_range in
          ap skip_ows empty ∙ sym empty
    ] in (
      omega arith,
      omega arith,
      ap (λ (t : List ℕ). reverse (skip_ows (reverse t))) (c.loop-start.invariant.1 ∙ stays),
    )

pub loop-end-preserved : goal.loop-end-preserved
loop-end-preserved c =
    let last = slice_last c.args.buf.now _ _ c.loop-end-test.true (omega arith) in (
      omega arith,
      omega arith,
      c.loop-end.invariant.2
          ∙ ap reverse (skip_ows_yes last c.if-is_blank-2.ensures),
    )

pub returns-else-is_blank-2-clause-value : goal.returns-else-is_blank-2-clause-value
returns-else-is_blank-2-clause-value c =
    let last = slice_last c.args.buf.now _ _ c.loop-end-test.true (omega arith) in
    sym (c.loop-end.invariant.2
    ∙ ap reverse (skip_ows_no last c.if-is_blank-2.ensures)
    ∙ reverse-reverse _)
