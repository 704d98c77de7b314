use Rattle.desk_types.proofs.Common.{◌∙◌, ap, map, map_more, subst, sym, take}
use Rattle.http_stream.{proofs.Headers.values_of-more, specs.Heads.values_of, specs.Looks.HasValues}
use Rattle.httparse.specs.Spans.{header_bytes}
use Rattle.http_stream.proofs.head.values_of.Goals as goal

pub loop-header-preserved : goal.loop-header-preserved
loop-header-preserved c =
    let look = header_bytes c.args.bytes.now in
    let i = c.loop-header.header-index in
    let headers = c.args.headers.now in
    let name = c.args.name.now in
    subst (HasValues c.args.bytes.now c.next_values-found.result)
    (sym (values_of-more name (map look (take i headers)) _) ∙ ap (values_of name) (sym (map_more look headers i _ c.loop-header-test.true)))
    (c.next_values-found.ensures (values_of name (map look (take i headers))) c.loop-header.invariant)
