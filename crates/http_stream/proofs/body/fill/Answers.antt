use Rattle.desk_types.proofs.Common.{[], ◌++◌, ◌<◌, ◌∙◌, ◌≡◌, ap, append-nil, arith, drop, drop_all, inner_of}
use Rattle.desk_types.proofs.Common.{length, length-append, on_err_weaker, sym}
use Rattle.desk_answers.{proofs.Blocks.at_end, specs.Block.pending_bytes}
use Rattle.http_stream.proofs.Bodies.{all_goes, body_goes, split_front}
use Rattle.http_stream.proofs.body.fill.Goals as goal

pub returns-clause-room : goal.returns-clause-room
returns-clause-room g c =
    let pend = pending_bytes c.args.block.now in
    let have = c.min-have.result in
    let front = c.copy_from_slice.new.self in
    let behind = pending_bytes c.give.new.self in
    let known = g.R.Read.remaining (inner_of c.args.wire.now) in
    let after = g.R.Read.remaining (inner_of c.read_whole.new.wire) in
    let cut = split_front c.pending-bytes.result.now pend front behind have c.pending-bytes.ensures c.copy_from_slice.ensures.after c.give.ensures.pending in
    let none : 0 < length c.read_whole.new.room → behind ≡ [] =
    λ some. c.give.ensures.pending ∙ drop_all have pend (omega (arith, ap length c.pending-bytes.ensures, c.min-have.ensures, c.split_at_mut-front.ensures.back_len, c.read_whole.auto.room, some)) in record {
      whole = λ e. body_goes pend front behind c.read_whole.new.room known after cut none (c.read_whole.ensures.room.whole e);
      end = λ e.
          let got = c.read_whole.ensures.room.end e in
          let few = got.1 in
          let none : behind ≡ [] = none (omega (arith, c.read_whole.auto.room, few)) in (
            front ++ got.0,
            omega (arith, length-append front got.0, c.copy_from_slice.ensures.len, c.split_at_mut-front.ensures.front_len, c.split_at_mut-front.ensures.back_len, few),
            body_goes pend front behind got.0 known after cut (λ _. none) got.2,
            at_end behind after none got.3,
          );
    }

pub returns-clause-unread : goal.returns-clause-unread
returns-clause-unread g c = on_err_weaker c.read_whole.result (λ got.
    let pend = pending_bytes c.args.block.now in
    let have = c.min-have.result in
    let front = c.copy_from_slice.new.self in
    let few = got.1 in
    let none : drop have pend ≡ [] =
    drop_all have pend (omega (arith, ap length c.pending-bytes.ensures, c.min-have.ensures, c.split_at_mut-front.ensures.back_len, few)) in
    let cut = split_front c.pending-bytes.result.now pend front [] have c.pending-bytes.ensures c.copy_from_slice.ensures.after (sym none) ∙ append-nil front in (
      front ++ got.0,
      omega (arith, length-append front got.0, c.copy_from_slice.ensures.len, c.split_at_mut-front.ensures.front_len, c.split_at_mut-front.ensures.back_len, few),
      all_goes pend front got.0 (g.R.Read.remaining (inner_of c.args.wire.now)) (g.R.Read.remaining (inner_of c.read_whole.new.wire)) cut got.2,
    )) c.read_whole.ensures.unread
