-- The parameters of queries, by name.
use Rattle.std.specs.Prelude.{ℕ, List, codes}
use Rattle.gateway_http.specs.declared.parameter.Parameter.{Parameter}
use Rattle.gateway_http.specs.declared.parameter.Parameter.TheVariants.{Id, Source, Time, Product, Machine, Board, Lot, Detail, Reel, Boards, After}

abbrev pub parameter_text : Parameter → List ℕ
parameter_text Id = codes "id"
parameter_text Source = codes "source"
parameter_text Time = codes "time"
parameter_text Product = codes "product"
parameter_text Machine = codes "machine"
parameter_text Board = codes "board"
parameter_text Lot = codes "lot"
parameter_text Detail = codes "detail"
parameter_text Reel = codes "reel"
parameter_text Boards = codes "boards"
parameter_text After = codes "after"
