-- Promise: days on which each trip alone is a block of the first pool, each piece alone a duty of the first group, and there are as many
-- vehicles and drivers as trips.
use Rattle.std.specs.Prelude.{◌≡◌, ℕ, ◌+◌, ◌≤◌, ◌≤ℤ◌, true, length, Some, slice_get}
use Rattle.plan_core.specs.declared.types.Point.{Point}
use Rattle.trip_times.specs.declared.trip.Trip.{Trip}
use Rattle.plan_params.specs.declared.rows.ParamRows.{ParamRows}
use Rattle.plan_params.specs.declared.rows.group.Group.{Group}
use Rattle.plan_params.specs.declared.rows.pool.Pool.{Pool}
use Rattle.plan_params.specs.LookUps.{way_in}
use Rattle.day_model.specs.declared.link.Link.{Link}
use Rattle.day_model.specs.Facts.{DayFacts, admits}
use Rattle.day_model.specs.Links.{link, pull_in, pull_out}
use Rattle.day_model.specs.Pieces.{longest_driving}
use Rattle.depot_network.specs.Driving.{is_cut_on, trip_seconds}
use Rattle.eu561_rules.specs.Lawful.{regular}

-- a point has ways from and to the group's home of at most so many seconds
pub record IsNear (params : ParamRows) (group : Group) (way : ℕ) (at : Point) : Type 0 where
  pub out : ℕ
  pub inward : ℕ
  pub out_is : way_in params group.home at ≡ Some out
  pub in_is : way_in params at group.home ≡ Some inward
  pub out_short : out ≤ way
  pub in_short : inward ≤ way

-- a trip that the pool's vehicles may serve, with a pull-out and a pull-in, and all three are driven within four and a half hours
pub record IsAlone (day : DayFacts) (pool : Pool) (t : Trip) : Type 0 where
  pub admitted : admits day t.line pool.typ ≡ true
  pub order : t.begin.0 ≤ℤ t.end.0
  pub out : ℕ
  pub inward : ℕ
  pub out_is : pull_out day pool t ≡ Some out
  pub in_is : pull_in day pool t ≡ Some inward
  pub short : out + trip_seconds t + inward ≤ longest_driving

-- A day with this first pool and this first group. Each trip can be driven alone by the pool, each connection of any pool has a cut, so
-- that no piece has a stand in it, and each point at which a piece may begin or end is near the group's home: four and a half hours of
-- driving, the ways, sign-on and sign-off are within thirteen hours.
pub record IsRoomyWith (day : DayFacts) (pool : Pool) (group : Group) (way : ℕ) : Type 0 where
  pub pool_is : slice_get day.params.pools 0 ≡ Some pool
  pub group_is : slice_get day.params.groups 0 ≡ Some group
  pub vehicles : length day.trips ≤ pool.cap
  pub drivers : length day.trips ≤ group.cap
  pub spread : longest_driving + way + way + group.sign_on + group.sign_off ≤ regular.spread
  pub alone : (k : ℕ) (t : Trip) → slice_get day.trips k ≡ Some t → IsAlone day pool t
  pub begins : (k : ℕ) (t : Trip) → slice_get day.trips k ≡ Some t → IsNear day.params group way t.from
  pub ends : (k : ℕ) (t : Trip) → slice_get day.trips k ≡ Some t → IsNear day.params group way t.to
  pub depots : (class : ℕ) (q : Pool) → slice_get day.params.pools class ≡ Some q → IsNear day.params group way q.depot
  pub cuts : (class j k : ℕ) (q : Pool) (t u : Trip) (l : Link) →
      slice_get day.params.pools class ≡ Some q → slice_get day.trips j ≡ Some t →
      slice_get day.trips k ≡ Some u → link day q t u ≡ Some l → is_cut_on day q u l ≡ true

-- a day with such a pool and such a group
pub record IsRoomy (day : DayFacts) : Type 0 where
  pub pool : Pool
  pub group : Group
  pub way : ℕ
  pub roomy : IsRoomyWith day pool group way
