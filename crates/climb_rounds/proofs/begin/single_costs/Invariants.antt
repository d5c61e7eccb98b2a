use Rattle.std.proofs.Common.{◌≡◌}
use Rattle.climb_rounds.proofs.begin.single_costs.Given as goal

abbrev pub invariant-loop-span : goal.invariant-loop-span
invariant-loop-span l = l.span-index ≡ 0 → l.sum ≡ 0
