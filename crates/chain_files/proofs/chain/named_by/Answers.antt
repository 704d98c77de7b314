use Rattle.desk_types.proofs.Common.{[], ◌<◌, ◌≤◌, All, List, length, length-map, map, string_bytes, subst, subst₂, sym, ℕ}
use Rattle.std.proofs.lemmas.List.{take_all}
use Rattle.std.proofs.lemmas.List.Elements.{All-more, All-nil}
use Rattle.chain_files.specs.Marks.{FollowsNone, NamesChecksum}
use Rattle.chain_files.proofs.chain.named_by.Goals as goal

pub loop-place-init : goal.loop-place-init
loop-place-init c = All-nil (λ checksum. ¬ NamesChecksum checksum (string_bytes c.in-BegunFrom.mark))

pub loop-place-preserved : goal.loop-place-preserved
loop-place-preserved c =
    let Other : List ℕ → Type 0 = λ checksum. ¬ NamesChecksum checksum (string_bytes c.in-BegunFrom.mark) in
    let seen = map string_bytes c.args.seen.now in
    let within : c.loop-place.place < length seen =
    subst (λ n. c.loop-place.place < n) (sym (length-map c.args.seen.now string_bytes)) c.loop-place-test.true in
    All-more Other seen c.loop-place.place [] within c.loop-place.invariant
    (subst₂ (λ checksum mark. ¬ NamesChecksum checksum mark) c.text_at.ensures c.as_str.ensures.value
    (c.names_checksum.ensures.no c.if-names_checksum.false))

pub returns-clause-none : goal.returns-clause-none
returns-clause-none c = λ _.
    let seen = map string_bytes c.args.seen.now in
    let all = take_all c.loop-place.place seen
    (subst (λ n. n ≤ c.loop-place.place) (sym (length-map c.args.seen.now string_bytes)) c.loop-place-test.false) in
    subst (λ fault. FollowsNone fault seen) (sym c.in-BegunFrom.is)
    (subst (All (λ checksum. ¬ NamesChecksum checksum (string_bytes c.in-BegunFrom.mark))) all c.loop-place.invariant)
