use Rattle.desk_types.proofs.Common.{◌≡◌, list_all, map, true}
use Rattle.cfx_profile.specs.Forms.{is_designator}
use Rattle.imports.proofs.fields.designators_of.Given as goal

-- The words so far are these designators.
abbrev pub invariant-loop-word : goal.invariant-loop-word
invariant-loop-word l = record {
  words : l.found.items ≡ map (λ word. word.now) l.yielded;
  designators : list_all is_designator l.found.items ≡ true;
}
