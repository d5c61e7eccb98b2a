use Rattle.std.proofs.Common.{◌≡◌, drop}
use Rattle.duty_rest.specs.Heads as spec
use Rattle.duty_rest.proofs.earlier.class_of.Given as goal

-- what is there and what is left are all
abbrev pub invariant-loop-group : goal.invariant-loop-group
invariant-loop-group l = record {
  count : l.class ≡ l.group-index;
  left : spec.class_of l.groups l.number 0 ≡ spec.class_of (drop l.group-index l.groups) l.number l.class;
}
