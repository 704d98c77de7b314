use Rattle.desk_types.proofs.Common.{◌≡◌, codes, list_any, map, take}
use Rattle.http_stream.specs.Heads.{has_close, values_of}
use Rattle.httparse.specs.Spans.{header_bytes}
use Rattle.http_stream.proofs.head.any_close.Given as goal

abbrev pub invariant-loop-header : goal.invariant-loop-header
invariant-loop-header l = l.any ≡ list_any has_close (values_of (codes "Connection") (map (header_bytes l.bytes) (take l.header-index l.headers)))
