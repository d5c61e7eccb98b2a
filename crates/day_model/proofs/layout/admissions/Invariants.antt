use Rattle.std.proofs.Common.{◌≡◌, take}
use Rattle.day_model.specs.Layout.{admissions_of}
use Rattle.day_model.proofs.layout.admissions.Given as goal

-- the pools that are passed stand there
abbrev pub invariant-loop-pool : goal.invariant-loop-pool
invariant-loop-pool l = l.admitted ≡ admissions_of l.params (take l.pool-index l.params.pools) l.trips
