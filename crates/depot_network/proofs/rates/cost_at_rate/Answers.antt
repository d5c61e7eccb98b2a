use Rattle.std.proofs.Common.{ℕ, ◌*◌, ◌≤◌, zero, suc, arith}
use Rattle.depot_network.proofs.rates.cost_at_rate.Goals as goal

times_low : (rate seconds : ℕ) → seconds ≤ 345600 → rate * seconds ≤ 345600 * rate
times_low zero seconds few = omega arith
times_low (suc rate) seconds few = let rest = times_low rate seconds few in omega arith

pub returns-clause-dear : goal.returns-clause-dear
returns-clause-dear c =
    let rate_is = c.from.ensures in
    let seconds_is = c.from-2.ensures in
    let low = times_low c.from.result c.from-2.result (omega (arith, seconds_is, c.requires.seconds)) in
    omega (arith, low, rate_is)
