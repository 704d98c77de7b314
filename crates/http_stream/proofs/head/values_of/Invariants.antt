use Rattle.desk_types.proofs.Common.{map, take}
use Rattle.http_stream.specs.{Heads.values_of, Looks.HasValues}
use Rattle.httparse.specs.Spans.{header_bytes}
use Rattle.http_stream.proofs.head.values_of.Given as goal

abbrev pub invariant-loop-header : goal.invariant-loop-header
invariant-loop-header l = HasValues l.bytes l.found (values_of l.name (map (header_bytes l.bytes) (take l.header-index l.headers)))
