use Rattle.desk_types.proofs.Common.{[], ◌++◌, ◌+◌, ◌-◌, ◌∙◌, ◌∷◌, ◌≡◌, ap, append_assoc, count_picks}
use Rattle.desk_types.proofs.Common.{counts_refusal, drop, drop-next, left_of, List, map, map-append, Name}
use Rattle.desk_types.proofs.Common.{option_or, pieces_off, subst, sym, take, take-next}
use Rattle.desk_laws.proofs.Common.{Counted, CountRow}
use Rattle.desk_types.proofs.Common.{err_from_is_err_and}
use Rattle.desk_types.specs.Refusals.{count_refusal}
use Rattle.setup_sheets.specs.Names.{HasSeen}
use Rattle.judging.proofs.Told.{told-of-all}
use Rattle.judging.proofs.counts.picks_of_counts.Goals as goal

pub returns-in_err-pieces : goal.returns-in_err-pieces
returns-in_err-pieces g c = λ H stands.
    let rows = c.args.rows.now in
    let i = c.loop-row.row-index in
    let row = c.row-item.result in
    let before : List Name = map (λ (r : CountRow). r.reel) (take i rows) in
    let inv = c.loop-row.invariant H stands in
    let here = c.in_err-pieces.ensures H before stands inv.seen in
    let told = err_from_is_err_and c.from_residual.result c.from_residual.ensures.1 in
    rw (told.1, told.2)
    (told-of-all (count_refusal c.args.rules H before row) _ c.in_err-pieces.field-0.0 here (λ r first.
    sym inv.refusal
    ∙ ap (counts_refusal c.args.rules H before) (drop-next rows i row c.loop-row-test.true c.row-item.is)
    ∙ ap (λ o. option_or o (counts_refusal c.args.rules H (before ++ row.reel ∷ []) (drop (i + 1) rows))) first))

pub loop-row-preserved : goal.loop-row-preserved
loop-row-preserved g c = λ H stands.
    let rows = c.args.rows.now in
    let i = c.loop-row.row-index in
    let row = c.row-item.result in
    let before : List Name = map (λ (r : CountRow). r.reel) (take i rows) in
    let inv = c.loop-row.invariant H stands in
    let here = c.in_ok-pieces.ensures H before stands inv.seen in
    let rest = drop-next rows i row c.loop-row-test.true c.row-item.is in
    let more : map (λ (r : CountRow). r.reel) (take (i + 1) rows) ≡ before ++ row.reel ∷ [] =
    ap (map (λ (r : CountRow). r.reel)) (take-next rows i row c.loop-row-test.true c.row-item.is) ∙ map-append (λ (r : CountRow). r.reel) (take i rows) (row ∷ []) in
    record {
      seen = subst (HasSeen c.pieces_above.new.seen) (sym more) here.2;
      refusal = ap (λ names. counts_refusal c.args.rules H names (drop (i + 1) rows)) more
          ∙ ap (λ o. option_or o (counts_refusal c.args.rules H (before ++ row.reel ∷ []) (drop (i + 1) rows))) (sym here.0)
          ∙ ap (counts_refusal c.args.rules H before) (sym rest)
          ∙ inv.refusal;
      picks = ap (λ ps. ps ++ count_picks (left_of H) (drop (i + 1) rows))
          (c.in_ok-put_off.ensures ∙ ap (λ n. c.loop-row.picks.items ++ pieces_off row.reel n Counted) here.1)
          ∙ append_assoc c.loop-row.picks.items (pieces_off row.reel (left_of H row.reel - row.quantity) Counted) (count_picks (left_of H) (drop (i + 1) rows))
          ∙ ap (λ rs. c.loop-row.picks.items ++ count_picks (left_of H) rs) (sym rest)
          ∙ inv.picks;
    }
