use Rattle.desk_types.proofs.Common.{◌∙◌, ◌≡◌, ap, arith, drop, inner_of, length, length-drop, length-take}
use Rattle.desk_types.proofs.Common.{List, Ok, refl, rules, subst, sym, ℕ}
use Rattle.desk_answers.specs.Block.{pending_bytes, source}
use Rattle.desk_types.specs.declared.limits.TheConstants.{HEAD_LIMIT}
use Rattle.http_stream.proofs.Portions.{ends_in_body, stops_in_body, takes_starved, takes_unread, takes_whole}
use Rattle.http_stream.specs.{Bodies.TakesBody, Cut.ReadsInside, Cut.TakesPortion, Cut.whole}
use Rattle.http_stream.specs.{Fronts.seen_bytes, Portions.method_of, Portions.target_of}
use Rattle.http_stream.specs.{declared.body.BodyTaken.BodyTaken}
use Rattle.http_stream.proofs.portion.take_request.Goals as goal

pub returns-in-Err-clause-next : goal.returns-in-Err-clause-next
returns-in-Err-clause-next g c =
    let block = c.args.block.now in
    let pend = pending_bytes block in
    let seen = c.args.seen in
    let f = c.requires.seen in
    record {
      taken = search rules;
      portion = takes_unread pend (seen_bytes block.bytes seen) (drop seen.head.len pend) seen.head f.0 (g.R.Read.remaining (inner_of c.args.input.now)) c.in-Err.fault
          (record { is = f.1; all = f.2; left = refl }) c.in-Err.is;
    }

pub give-requires-clause-there : goal.give-requires-clause-there
give-requires-clause-there g c =
    let f = c.requires.seen in
    omega (arith, f.1.in_bytes, ap length f.2, length-take HEAD_LIMIT (pending_bytes c.args.block.now))

pub returns-in-Whole-clause-next : goal.returns-in-Whole-clause-next
returns-in-Whole-clause-next g c =
    let block = c.args.block.now in
    let seen = c.args.seen in
    let known = g.R.Read.remaining (inner_of c.args.input.now) in
    let new = source c.take_body.new.block (g.R.Read.remaining (inner_of c.take_body.new.wire)) in
    let f = c.requires.seen in
    let got = subst (λ (b : BodyTaken). TakesBody (source c.give.new.self known) c.in-Ok.length b new) c.in-Whole.is c.in_ok-bytes-in-Ok.ensures.body in
    let told = takes_whole (pending_bytes block) (seen_bytes block.bytes seen) (pending_bytes c.give.new.self) seen.head f.0 known new c.in-Whole.bytes.items
    (record { is = f.1; all = f.2; left = c.give.ensures.pending }) (c.in-Ok.is ∙ ap Ok (sym got.0)) got.1 in
    let same : block.bytes ≡ c.take_body.new.block.bytes = sym (c.take_body.ensures.bytes ∙ c.give.ensures.bytes) in
    record { taken = search rules; portion = subst (λ (b : List ℕ). TakesPortion (source block known) (whole (record { method = method_of b seen; target = target_of b seen; body = c.in-Whole.bytes.items }) seen.head.closes) new) same told }

pub returns-in-End-clause-next : goal.returns-in-End-clause-next
returns-in-End-clause-next g c =
    let block = c.args.block.now in
    let seen = c.args.seen in
    let known = g.R.Read.remaining (inner_of c.args.input.now) in
    let new = source c.take_body.new.block (g.R.Read.remaining (inner_of c.take_body.new.wire)) in
    let f = c.requires.seen in
    let got = subst (λ (b : BodyTaken). TakesBody (source c.give.new.self known) c.in-Ok.length b new) c.in-End.is c.in_ok-bytes-in-Ok.ensures.body in
    record {
      taken = search rules;
      portion = ends_in_body (pending_bytes block) (seen_bytes block.bytes seen) (pending_bytes c.give.new.self) seen.head f.0 known new c.in-Ok.length got.0
          (record { is = f.1; all = f.2; left = c.give.ensures.pending }) c.in-Ok.is got.1 got.2 got.3;
    }

pub returns-in-NoMemory-clause-next : goal.returns-in-NoMemory-clause-next
returns-in-NoMemory-clause-next g c =
    let block = c.args.block.now in
    let seen = c.args.seen in
    let known = g.R.Read.remaining (inner_of c.args.input.now) in
    let new = source c.take_body.new.block (g.R.Read.remaining (inner_of c.take_body.new.wire)) in
    let f = c.requires.seen in
    let got = subst (λ (b : BodyTaken). TakesBody (source c.give.new.self known) c.in-Ok.length b new) c.in-NoMemory.is c.in_ok-bytes-in-Ok.ensures.body in
    record {
      taken = search rules;
      portion = takes_starved (pending_bytes block) (seen_bytes block.bytes seen) (pending_bytes c.give.new.self) seen.head f.0 known new c.in-Ok.length
          (record { is = f.1; all = f.2; left = c.give.ensures.pending }) c.in-Ok.is got.0 got.1;
    }

pub returns-in-Whole-clause-falls : goal.returns-in-Whole-clause-falls
returns-in-Whole-clause-falls g c = λ _.
    let f = c.requires.seen in
    let pend = pending_bytes c.args.block.now in
    omega (arith, c.in_ok-bytes-in-Ok.ensures.falls, ap length c.give.ensures.pending, length-drop c.args.seen.head.len pend, f.1.some, f.1.in_bytes, ap length f.2, length-take HEAD_LIMIT pend)

pub returns-in_err-bytes-in-Ok-clause-unread : goal.returns-in_err-bytes-in-Ok-clause-unread
returns-in_err-bytes-in-Ok-clause-unread g c =
    let block = c.args.block.now in
    let seen = c.args.seen in
    let known = g.R.Read.remaining (inner_of c.args.input.now) in
    let new = g.R.Read.remaining (inner_of c.take_body.new.wire) in
    let f = c.requires.seen in
    let stops : ReadsInside (source block known) new = stops_in_body (pending_bytes block) (seen_bytes block.bytes seen) (pending_bytes c.give.new.self) seen.head f.0 known new c.in-Ok.length
    (record { is = f.1; all = f.2; left = c.give.ensures.pending }) c.in-Ok.is c.in_err-bytes-in-Ok.ensures.unread in
    search rules
