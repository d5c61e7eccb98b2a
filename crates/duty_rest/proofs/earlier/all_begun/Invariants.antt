use Rattle.std.proofs.Common.{◌≡◌, drop}
use Rattle.duty_rest.specs.Heads as spec
use Rattle.duty_rest.proofs.earlier.all_begun.Given as goal

-- what is there and what is left are all
abbrev pub invariant-loop-part : goal.invariant-loop-part
invariant-loop-part l = spec.all_begun l.begun l.parts ≡ spec.all_begun l.begun (drop l.part-index l.parts)
