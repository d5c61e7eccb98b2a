use Rattle.std.proofs.Common.{◌≡◌, drop}
use Rattle.duty_rest.specs.Heads as spec
use Rattle.duty_rest.proofs.earlier.is_one_of.Given as goal

-- what is there and what is left are all
abbrev pub invariant-loop-part : goal.invariant-loop-part
invariant-loop-part l = spec.is_one_of l.begun l.parts ≡ spec.is_one_of l.begun (drop l.part-index l.parts)
