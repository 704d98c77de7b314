use Rattle.std.proofs.Common.{◌≡◌, ◌≤◌, IsTrue, length, take, ◌-◌}
use Rattle.sha2.specs.Hashers.{Holds256}
use Rattle.chain_files.specs.Marks.{OnlyRead}
use Rattle.chain_files.proofs.marks.checksum.Given as goal

abbrev pub invariant-loop-at : goal.invariant-loop-at
invariant-loop-at g l = record {
  read : OnlyRead g.D.Disk l.fn.file l.file;
  usable : IsTrue (g.D.Disk.is_usable l.file);
  inside : l.at ≤ l.length;
  all : IsTrue (g.D.Disk.is_clean l.file) → l.length ≡ length (g.D.Disk.seen l.file);
  holds : IsTrue (g.D.Disk.is_clean l.file) → Holds256 l.hasher (take l.at (g.D.Disk.seen l.file));
}

abbrev pub decreases-loop-at : goal.decreases-loop-at
decreases-loop-at g l = l.length - l.at
