use Rattle.std.proofs.Common.{◌≡◌, ◌<◌, ◌^◌, length, map, string_bytes}
use Rattle.desk_types.specs.Wire.{failures_of}
use Rattle.chain_files.specs.Kept.{AreKept}
use Rattle.chain_files.specs.Files.{Reaches, files_in, placed}
use Rattle.chain_files.proofs.chain.recall_files.Given as goal

abbrev pub invariant-loop-place : goal.invariant-loop-place
invariant-loop-place g l = record {
  few : failures_of l.errors < 2 ^ 63;
  count : length (files_in l.closed) ≡ l.place;
  same : g.O.Opener.image l.opener ≡ g.O.Opener.image l.fn.opener;
  kept : AreKept g.O.File.Disk (g.O.Opener.image l.fn.opener) (map string_bytes l.paths)
      (g.O.Opener.opened l.fn.opener) (g.O.Opener.opened l.opener) (files_in l.closed);
  so_far : Reaches g.O.File.Disk (placed (g.O.Opener.image l.fn.opener) (map string_bytes l.paths)) l.question l.links (map string_bytes l.paths) (files_in l.closed) l.place l.older l.answer;
}
