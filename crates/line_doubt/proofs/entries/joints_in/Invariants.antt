use Rattle.desk_types.proofs.Common.{◌≡◌, take}
use Rattle.line_doubt.specs.Sources.{boundary_at, Joint, number_in}
use Rattle.line_doubt.proofs.entries.joints_in.Given as goal

-- The map has the boundaries so far.
abbrev pub invariant-loop-note : goal.invariant-loop-note
invariant-loop-note l = (joint : Joint) → number_in l.joints joint ≡ boundary_at (take l.note-index l.book) joint
