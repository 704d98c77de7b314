use Rattle.desk_types.proofs.Common.{◌≡◌, cons_option}
use Rattle.form_urlencoded.{specs.Form.raw_pairs, specs.Parse.pairs_left}
use Rattle.gateway_http.specs.Query.{values_of}
use Rattle.std.{proofs.Common.option_map, specs.Cow.cow_str_bytes}
use Rattle.gateway_http.proofs.query.value_of.Given as goal

-- The name's values are the one found, if any, and those left.
abbrev pub invariant-loop-pair : goal.invariant-loop-pair
invariant-loop-pair l = values_of l.fn.name (raw_pairs l.fn.query) ≡ cons_option (option_map cow_str_bytes l.found) (values_of l.fn.name (pairs_left l.pair-iterator))
