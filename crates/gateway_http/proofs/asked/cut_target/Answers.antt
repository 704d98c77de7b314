use Rattle.desk_types.proofs.Common.{◌≡◌, None, rules, Some}
use Rattle.gateway_http.proofs.Cuts.{path-none, path-some, query-none, query-some}
use Rattle.gateway_http.specs.Asked.{is_mark}
use Rattle.std.specs.List.{position}
use Rattle.gateway_http.proofs.asked.cut_target.Goals as goal

pub returns-in-Some-clause-path : goal.returns-in-Some-clause-path
returns-in-Some-clause-path c =
    let found : position is_mark c.args.target.now ≡ Some c.in-Some.at = search rules in
    path-some c.args.target.now c.in-Some.at found

pub returns-in-Some-clause-query : goal.returns-in-Some-clause-query
returns-in-Some-clause-query c =
    let found : position is_mark c.args.target.now ≡ Some c.in-Some.at = search rules in
    query-some c.args.target.now c.in-Some.at found

pub returns-in-None-clause-path : goal.returns-in-None-clause-path
returns-in-None-clause-path c =
    let none : position is_mark c.args.target.now ≡ None = search rules in
    path-none c.args.target.now none

pub returns-in-None-clause-query : goal.returns-in-None-clause-query
returns-in-None-clause-query c =
    let none : position is_mark c.args.target.now ≡ None = search rules in
    query-none c.args.target.now none
