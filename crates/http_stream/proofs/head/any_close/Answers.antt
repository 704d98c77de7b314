use Rattle.desk_types.proofs.Common.{◌||◌, ◌∙◌, ap, codes, list_any, map, map_more, sym, take}
use Rattle.http_stream.{proofs.Headers.any_close-more, specs.Heads.has_close, specs.Heads.values_of}
use Rattle.httparse.specs.Spans.{header_bytes}
use Rattle.http_stream.proofs.head.any_close.Goals as goal

pub loop-header-preserved : goal.loop-header-preserved
loop-header-preserved c =
    let look = header_bytes c.args.bytes.now in
    let i = c.loop-header.header-index in
    let headers = c.args.headers.now in
    ap (λ b. c.loop-header.any || b) c.closes_by-any.ensures
    ∙ any_close-more c.loop-header.any (map look (take i headers)) _ c.loop-header.invariant
    ∙ ap (λ fs. list_any has_close (values_of (codes "Connection") fs)) (sym (map_more look headers i _ c.loop-header-test.true))
