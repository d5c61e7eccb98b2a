use Rattle.std.proofs.Common.{◌≡◌, ◌++◌, map, take}
use Rattle.plan_params.specs.LookUps.{admits_in}
use Rattle.day_model.proofs.layout.add_pool.Given as goal

-- the trips that are passed stand behind the others
abbrev pub invariant-loop-trip : goal.invariant-loop-trip
invariant-loop-trip l = l.admitted ≡ l.initial.admitted ++ map (λ trip. admits_in l.params trip.line l.pool.typ) (take l.trip-index l.trips)
