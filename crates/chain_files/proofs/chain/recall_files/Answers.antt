use Rattle.std.proofs.Common.{◌≡◌, ◌∙◌, ◌+◌, ◌<◌, ◌∷◌, [], None, List, ℕ, inl, length, length-append, map, string_bytes}
use Rattle.std.proofs.Common.{refl, subst, sym, ap, arith}
use Rattle.std.proofs.lemmas.List.{length-map}
use Rattle.sqlite_wal.specs.Recovery.{Image}
use Rattle.desk_file.specs.Files.{HasOursFirst}
use Rattle.sqlite_wal.specs.Reads.{AreClean}
use Rattle.chain_files.specs.Files.{HoldsSaid, IsRefused, Takes, files_in, placed}
use Rattle.sqlite_disk.specs.declared.Files.{Files}
use Rattle.chain_files.proofs.Answered.{are-chain}
use Rattle.chain_files.proofs.KeptFiles.{more-kept, none-kept}
use Rattle.chain_files.proofs.OneFileMore.{added, stopped}
use Rattle.chain_files.proofs.RefusedFiles.{honest-before, to-fault}
use Rattle.chain_files.proofs.chain.recall_files.Goals as goal

pub loop-place-init : goal.loop-place-init
loop-place-init g c = record {
  few = c.requires.few;
  count = ap length c.requires.none;
  same = refl;
  kept = none-kept g.O.File.Disk _ (map string_bytes c.args.paths.now) _ _ c.requires.none;
  so_far = λ honest. record {
    newest_first = [];
    order = c.requires.none;
    files = [];
    count = refl;
    held = tt;
    chained = refl;
    begun = tt;
    linked = tt;
    wants = c.wanted_first.ensures;
    written = c.in-Ok.ensures;
  };
}

pub returns-in-Err-clause-stopped : goal.returns-in-Err-clause-stopped
returns-in-Err-clause-stopped g c honest =
    let image = g.O.Opener.image c.args.opener.now in
    let paths = map string_bytes c.args.paths.now in
    let closed = files_in c.loop-place.closed in
    let after = files_in c.look_at.new.closed in
    let refused = subst (λ (path : List ℕ). IsRefused g.O.File.Disk (image path c.loop-place.place) closed after c.in-Err.fault)
    c.text_at-path.ensures
    (subst (λ (held : List ℕ → ℕ → Image). IsRefused g.O.File.Disk (held c.text_at-path.result.now c.loop-place.place) closed after c.in-Err.fault)
    c.loop-place.invariant.same c.in-Err.ensures.refused) in
    let before = c.loop-place.invariant.so_far
    (honest-before g.O.File.Disk (placed image paths) closed after refused.0 refused.1 honest) in
    inl (record {
      newest_first = before.newest_first;
      before = before.files;
      count = before.count;
      held = before.held;
      chain = are-chain c.loop-place.older.chain before.files before.chained;
      linked = before.linked;
      refused = subst (λ (fs : List (Files _)). IsRefused g.O.File.Disk (placed image paths c.loop-place.place) fs after c.in-Err.fault) before.order refused;
      in_file = to-fault g.O.File.Disk (placed image paths c.loop-place.place) closed after c.in-Err.fault refused honest.clean;
    })

pub returns-in-Err-add-clause-stopped : goal.returns-in-Err-add-clause-stopped
returns-in-Err-add-clause-stopped g c honest =
    let was = c.loop-place.invariant in
    let image = g.O.Opener.image c.args.opener.now in
    let paths = map string_bytes c.args.paths.now in
    let takes = subst (λ (held : List ℕ → ℕ → Image). Takes g.O.File.Disk (held c.text_at-path.result.now c.loop-place.place) c.args.question.now c.args.links.without_marks (files_in c.loop-place.closed) (files_in c.look_at.new.closed) c.in-Ok-look_at.taken)
    was.same c.in-Ok-look_at.ensures.takes in
    let said = subst (λ (path : List ℕ). AreClean g.O.File.Disk takes.0.log takes.0.db → HasOursFirst (image path c.loop-place.place)
    → HoldsSaid g.O.File.Disk (image path c.loop-place.place) c.args.question.now takes.0 c.in-Ok-look_at.taken.looked) c.text_at-path.ensures takes.2 in
    stopped g.O.File.Disk (placed image paths) c.args.question.now c.args.links (map string_bytes c.args.paths.now) c.loop-place.older c.loop-place.answer c.loop-place.place (files_in c.loop-place.closed) takes.0 c.in-Ok-look_at.taken (files_in c.look_at.new.closed) c.in-Err-add.fault takes.1
    was.count was.so_far said c.in-Err-add.ensures.err honest

pub loop-place-preserved : goal.loop-place-preserved
loop-place-preserved g c =
    let was = c.loop-place.invariant in
    let closed = files_in c.loop-place.closed in
    let after = files_in c.look_at.new.closed in
    let image = g.O.Opener.image c.args.opener.now in
    let paths = map string_bytes c.args.paths.now in
    let takes = subst (λ (held : List ℕ → ℕ → Image). Takes g.O.File.Disk (held c.text_at-path.result.now c.loop-place.place) c.args.question.now c.args.links.without_marks (files_in c.loop-place.closed) (files_in c.look_at.new.closed) c.in-Ok-look_at.taken)
    was.same c.in-Ok-look_at.ensures.takes in
    let said = subst (λ (path : List ℕ). AreClean g.O.File.Disk takes.0.log takes.0.db → HasOursFirst (image path c.loop-place.place)
    → HoldsSaid g.O.File.Disk (image path c.loop-place.place) c.args.question.now takes.0 c.in-Ok-look_at.taken.looked) c.text_at-path.ensures takes.2 in
    let within : c.loop-place.place < length paths =
    subst (λ n. c.loop-place.place < n) (sym (length-map c.args.paths.now string_bytes)) c.loop-place-test.true in
    let long : length after ≡ length closed + 1 = ap length takes.1 ∙ length-append closed (takes.0 ∷ []) in
    record {
      few = c.tell_file.ensures.few;
      count = omega (arith, long, was.count);
      same = c.look_at.ensures.same ∙ was.same;
      kept = more-kept g.O.File.Disk paths _ c.loop-place.place c.text_at-path.result.now was.same c.text_at-path.ensures
          within was.count was.kept c.look_at.ensures.kept;
      so_far = added g.O.File.Disk (placed image paths) c.args.question.now c.args.links (map string_bytes c.args.paths.now) c.loop-place.older c.loop-place.answer c.loop-place.place closed takes.0 c.in-Ok-look_at.taken after c.in-Ok-add.longer c.add.new.answer takes.1 was.count was.so_far said takes.3 _ c.text_at-path.ensures c.in-Ok-add.ensures.wanted c.in-Ok-add.ensures.next c.in-Ok-add.ensures.ok;
    }

pub returns-in_default-clause-stopped : goal.returns-in_default-clause-stopped
returns-in_default-clause-stopped g c honest = inl (record {
  newest_first = [];
  before = [];
  count = refl;
  held = tt;
  chain = tt;
  linked = tt;
  refused = (None, c.requires.none, inl refl);
  in_file = inl refl;
})

pub returns-in-Err-clause-kept : goal.returns-in-Err-clause-kept
returns-in-Err-clause-kept g c =
    let was = c.loop-place.invariant in
    let paths = map string_bytes c.args.paths.now in
    let within : c.loop-place.place < length paths =
    subst (λ n. c.loop-place.place < n) (sym (length-map c.args.paths.now string_bytes)) c.loop-place-test.true in
    more-kept g.O.File.Disk paths _ c.loop-place.place c.text_at-path.result.now was.same c.text_at-path.ensures within
    was.count was.kept c.look_at.ensures.kept

pub returns-in-Err-add-clause-kept : goal.returns-in-Err-add-clause-kept
returns-in-Err-add-clause-kept g c =
    let was = c.loop-place.invariant in
    let paths = map string_bytes c.args.paths.now in
    let within : c.loop-place.place < length paths =
    subst (λ n. c.loop-place.place < n) (sym (length-map c.args.paths.now string_bytes)) c.loop-place-test.true in
    more-kept g.O.File.Disk paths _ c.loop-place.place c.text_at-path.result.now was.same c.text_at-path.ensures within
    was.count was.kept c.look_at.ensures.kept

pub returns-in_default-clause-kept : goal.returns-in_default-clause-kept
returns-in_default-clause-kept g c =
    none-kept g.O.File.Disk _ (map string_bytes c.args.paths.now) _ _ c.requires.none
