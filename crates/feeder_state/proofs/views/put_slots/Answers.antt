use Rattle.desk_types.proofs.Common.{[], ◌++◌, ◌∙◌, ◌≡◌, ap, append-nil, append_assoc, cons_option}
use Rattle.desk_types.proofs.Common.{enumerate_from, flat_map, if◌then◌else◌, keys_of, live_on, map, mount_of}
use Rattle.desk_types.proofs.Common.{None, rules, same-true, slot_mounts, Some, sym, unwrap_or}
use Rattle.feeder_state.{proofs.FloorTells.all-received, proofs.SlotsOfMachines.by_pair-total}
use Rattle.feeder_state.{proofs.SlotsOfMachines.slots_among, proofs.SlotsOfMachines.told-loaded}
use Rattle.feeder_state.{specs.Tape.tape_at}
use Rattle.std.{proofs.lemmas.Map.Iter.btree_map_turn, specs.Map.Iter.deref_pair}
use Rattle.feeder_state.proofs.views.put_slots.Goals as goal

pub loop-key-preserved : goal.loop-key-preserved
loop-key-preserved c = λ H told is_floor.
    let machine = c.args.machine.now in
    let items = c.loop-key.mounts.items in
    ap (λ here. items ++ flat_map (slot_mounts H machine) (cons_option (if here then Some c.in-Some.key.now.1 else None) (slots_among machine (keys_of c.next.new.self)))) c.if-eq.ensures
    ∙ ap (λ rest. items ++ flat_map (slot_mounts H machine) (slots_among machine (keys_of rest))) (sym c.in-Some.ensures.steps)
    ∙ c.loop-key.invariant H told is_floor

pub loop-key-preserved-in-Continue-1 : goal.loop-key-preserved-in-Continue-1
loop-key-preserved-in-Continue-1 c = λ H told is_floor.
    let floor = c.args.floor.now in
    let machine = c.args.machine.now in
    let key = c.in-Some.key.now in
    let items = c.loop-key.mounts.items in
    let rest = slots_among machine (keys_of c.next.new.self) in
    let there = btree_map_turn deref_pair c.loop-key.yielded c.into_iter-key-iterator.result c.loop-key.key-iterator c.next.new.self c.next.result
    (c.in-Some.key, c.in-Some.tape) c.loop-key.yielded_by c.in-Some.is c.next.ensures.steps by_pair-total floor.tapes (search rules) (search rules) in
    let tape : tape_at floor.tapes key.0 key.1 ≡ c.in-Some.tape.now = ap (λ found. unwrap_or found []) there.1 in
    let live : c.in-Some.tape.now ≡ live_on H machine key.1 =
    sym tape ∙ is_floor.tapes key.0 key.1 ∙ ap (λ m. live_on H m key.1) (same-true key.0 machine (sym c.if-eq.ensures)) in
    ap (λ told_now. told_now ++ flat_map (slot_mounts H machine) rest) (
    c.in_ok-put_tape.ensures H told (all-received H c.in-Some.tape.now machine key.1 told.are.judged live)
    ∙ ap (λ reels. items ++ map (mount_of H key.1) (enumerate_from 1 reels)) live)
    ∙ append_assoc items (slot_mounts H machine key.1) (flat_map (slot_mounts H machine) rest)
    ∙ ap (λ here. items ++ flat_map (slot_mounts H machine) (cons_option (if here then Some key.1 else None) rest)) c.if-eq.ensures
    ∙ ap (λ left. items ++ flat_map (slot_mounts H machine) (slots_among machine (keys_of left))) (sym c.in-Some.ensures.steps)
    ∙ c.loop-key.invariant H told is_floor

pub returns : goal.returns
returns c = λ H told is_floor.
    let floor = c.args.floor.now in
    let machine = c.args.machine.now in
    sym (append-nil c.loop-key.mounts.items)
    ∙ ap (λ left. c.loop-key.mounts.items ++ flat_map (slot_mounts H machine) (slots_among machine (keys_of left))) (sym c.in-None.ensures.steps.0)
    ∙ c.loop-key.invariant H told is_floor
    ∙ ap (λ told_all. c.args.mounts.now.items ++ told_all) (told-loaded H machine floor.tapes (search rules) (is_floor.tapes machine))
