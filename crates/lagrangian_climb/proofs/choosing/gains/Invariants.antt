use Rattle.std.proofs.Common.{◌≡◌, ◌++◌, drop}
use Rattle.lagrangian_climb.specs.Choices.{gains_at}
use Rattle.lagrangian_climb.proofs.choosing.gains.Given as goal

abbrev pub invariant-loop-place : goal.invariant-loop-place
invariant-loop-place l =
    gains_at l.prices.items l.pool l.places ≡ l.keys.items ++ gains_at l.prices.items l.pool (drop l.place-index l.places)
