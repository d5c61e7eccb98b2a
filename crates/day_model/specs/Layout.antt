-- Inner: the times of deadheads, the admissions and the relief points of a day, laid out flat.
use Rattle.std.specs.Prelude.{◌≡◌, ℕ, Bool, List, Some, length, map, slice_get, slice_index}
use Rattle.std.specs.List.{flat_map}
use Rattle.trip_times.specs.declared.trip.Trip.{Trip}
use Rattle.deadheads.specs.declared.moves.Ends.{Ends}
use Rattle.deadheads.specs.DeadTimes.{dead_on}
use Rattle.plan_params.specs.declared.rows.ParamRows.{ParamRows}
use Rattle.plan_params.specs.declared.rows.pool.Pool.{Pool}
use Rattle.plan_params.specs.LookUps.{admits_in, is_relief_in}
use Rattle.point_grid.specs.Grid.{IsCell}
use Rattle.day_model.specs.declared.layout.Layout.{Layout}
use Rattle.day_model.specs.Begins.{AreDepartures, AreEndNumbers, AreMinutes}

-- whether each of the pools admits each of the trips, pool by pool
abbrev pub admissions_of : ParamRows → List Pool → List Trip → List Bool
admissions_of params pools trips = flat_map (λ (pool : Pool). map (λ (trip : Trip). admits_in params trip.line pool.typ) trips) pools

-- whether drivers are relieved where each of the trips begins
abbrev pub reliefs_of : ParamRows → List Trip → List Bool
reliefs_of params trips = map (λ (trip : Trip). is_relief_in params trip.from) trips

-- all that is asked of pools and trips by their numbers stands in the layout
pub record AreLaidOut (trips : List Trip) (params : ParamRows) (deads : List (Ends × ℕ)) (layout : Layout) : Type 0 where
  pub begins : length layout.begins ≡ length trips
  pub ends : length layout.ends ≡ length trips
  pub between : (t u : ℕ) (trip next : Trip) → slice_get trips t ≡ Some trip → slice_get trips u ≡ Some next →
      IsCell layout.between (slice_index layout.ends t) (slice_index layout.begins u) (dead_on deads trip.to next.from)
  pub outward : (class u : ℕ) (pool : Pool) (next : Trip) → slice_get params.pools class ≡ Some pool → slice_get trips u ≡ Some next →
      IsCell layout.outward class (slice_index layout.begins u) (dead_on deads pool.depot next.from)
  pub inward : (class t : ℕ) (pool : Pool) (trip : Trip) → slice_get params.pools class ≡ Some pool → slice_get trips t ≡ Some trip →
      IsCell layout.inward (slice_index layout.ends t) class (dead_on deads trip.to pool.depot)
  pub admitted : layout.admitted ≡ admissions_of params params.pools trips
  pub relieved : layout.relieved ≡ reliefs_of params trips
  pub departures : AreDepartures trips layout.begins layout.firsts layout.nexts
  pub minutes : AreMinutes trips 2881 layout.minutes
  pub lasts : AreEndNumbers trips layout.ends
