use Rattle.std.proofs.Common.{◌≡◌, ◌∙◌, ◌+◌, ◌++◌, ◌<◌, ℕ, List, ap, arith, drop, length, rules, subst, sym, take, take-append-drop}
use Rattle.std.proofs.lemmas.List.{drop-take, take-take}
use Rattle.std.proofs.Math.Seq.{take-append_seam}
use Rattle.sha2.specs.Hashers.{Holds256}
use Rattle.sqlite_disk.specs.Disk.{Holds}
use Rattle.sqlite_wal.specs.Format.{part}
use Rattle.sqlite_wal.proofs.PartLemmas.{held_is_part}
use Rattle.chain_files.proofs.marks.checksum.Goals as goal

held : (seen buf : List ℕ) (at : ℕ) → Holds seen at buf → take (length buf) (drop at seen) ≡ buf
unfolding part
held seen buf at holds = held_is_part seen buf at (length buf) holds (λ _. length buf)

-- The bytes so far, and the next ones.
joined : (seen buf rest : List ℕ) (at step : ℕ) → length buf ≡ step → Holds seen at buf
    → take at seen ++ take step (buf ++ rest) ≡ take (at + step) seen
joined seen buf rest at step long holds =
    let next : take step (buf ++ rest) ≡ take step (drop at seen) =
    ap (λ n. take n (buf ++ rest)) (sym long) ∙ take-append_seam buf rest ∙ sym (held seen buf at holds)
    ∙ ap (λ n. take n (drop at seen)) long in
    let front : take at (take (at + step) seen) ≡ take at seen = take-take at (at + step) seen (omega arith) in
    ap (λ l. take at seen ++ l) (next ∙ sym (drop-take at step seen))
    ∙ ap (λ l. l ++ drop at (take (at + step) seen)) (sym front)
    ∙ take-append-drop at (take (at + step) seen)

pub loop-at-preserved : goal.loop-at-preserved
loop-at-preserved g c =
    let was = c.loop-at.invariant in
    let r = c.in-Ok-read_at.ensures in
    let step = c.min-step.result in
    let some : 0 < length (take step c.loop-at.part) = search rules in
    let long : length c.read_at.new.buf ≡ step = search rules in
    record {
      read = record {
        seen = r.seen ∙ was.read.seen;
        leaves = λ bytes out. was.read.leaves bytes (r.crash bytes out);
        clean = λ clean. was.read.clean (r.clean clean);
      };
      usable = r.usable;
      inside = omega (arith, was.inside, c.min-step.ensures);
      all = λ clean. was.all (r.clean clean) ∙ ap length (sym r.seen);
      holds = λ clean.
          subst (Holds256 c.update.new.self)
          (joined _ c.read_at.new.buf (drop step c.loop-at.part) c.loop-at.at step long (r.read clean some)
          ∙ ap (take (c.loop-at.at + step)) (sym r.seen))
          (c.update.ensures _ (was.holds (r.clean clean)));
    }
