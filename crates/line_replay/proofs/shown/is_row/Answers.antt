use Rattle.desk_types.proofs.Common.{◌<◌, ◌∙◌, ◌≡◌, arith, get_or, length, length-map, rules, sym}
use Rattle.line_tables.proofs.Common.{Null, owned, values_of}
use Rattle.std.proofs.{Math.ListN.get_or-map, lemmas.List.take_more_same}
use Rattle.sqlite_value.specs.declared.value.ValueRef.TheVariants as lent
use Rattle.line_replay.proofs.shown.is_row.Goals as goal

pub loop-at-preserved : goal.loop-at-preserved
loop-at-preserved c =
    let row = c.args.row.now in
    let wanted = c.args.wanted.now in
    let k = c.loop-at.at in
    let same : length row ≡ length wanted = search rules in
    let within : k < length row = c.in-Ok.ensures.ok.0 in
    let values : length (values_of wanted) ≡ length wanted = length-map wanted owned in
    let one : owned c.in-Ok.value ≡ owned (get_or wanted k lent.Null) = search rules in
    let there : owned (get_or wanted k lent.Null) ≡ get_or (values_of wanted) k Null = sym (get_or-map owned wanted k lent.Null) in
    take_more_same row (values_of wanted) k Null within (omega (arith, same, values, within)) c.loop-at.invariant (sym c.in-Ok.ensures.ok.1 ∙ one ∙ there)
