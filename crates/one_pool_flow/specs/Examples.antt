-- Promise: worked examples, computed: two trips, from A to B and back, with a depot D and one pool.
use Rattle.std.specs.Prelude.{◌≡◌, ℕ, ℤ, pos, true, [], ◌∷◌, map, Some, None, refl}
use Rattle.plan_core.specs.declared.Price.{Price}
use Rattle.plan_core.specs.declared.types.Point.{Point}
use Rattle.trip_times.specs.declared.trip.Trip.{Trip}
use Rattle.deadheads.specs.declared.moves.Ends.{Ends}
use Rattle.plan_params.specs.declared.rows.pool.Pool.{Pool}
use Rattle.plan_params.specs.declared.rows.settings.Settings.{Settings}
use Rattle.cover_core.specs.Plans.{bound_of}
use Rattle.day_model.specs.Facts.{DayFacts}
use Rattle.path_cover.specs.Nets.{successor}
use Rattle.one_pool_flow.specs.Paths.{is_flow_day, path_cost, plan_cost}
use Rattle.one_pool_flow.specs.DayNets.{arc_of}

abbrev point : ℕ → ℕ → Point
point typ nr = record { typ = typ; nr = nr }

abbrev A : Point
A = point 1 1

abbrev B : Point
B = point 1 2

abbrev D : Point
D = point 2 9

abbrev trip : ℕ → Point → ℕ → Point → ℕ → Trip
trip fid from begin to end =
    record { fid = fid; line = 1; from = from; begin = record { 0 = pos begin }; to = to; end = record { 0 = pos end } }

abbrev pool_with : ℕ → ℕ → ℕ → Pool
pool_with cap fixed stand_rate = record { number = 1; depot = D; typ = 1; cap = cap; fixed = fixed; dead_rate = 1; stand_rate = stand_rate }

abbrev ends : Point → Point → Ends
ends from to = record { from = from; to = to }

abbrev settings : Settings
settings = record { area = 1; group = 1; turn = 300; max_wait = 7200; handover = 300 }

-- the second trip begins and ends at these seconds
abbrev day_with : Pool → ℕ → ℕ → DayFacts
day_with pool begin end = record {
  kind = record { version = 1; kind = 1; day = 20260302; weekday = 1 };
  rows = 0 ∷ 1 ∷ [];
  trips = trip 1 A 28800 B 32400 ∷ trip 2 B begin A end ∷ [];
  params = record { settings = settings; pools = pool ∷ []; groups = []; admissions = []; reliefs = B ∷ []; ways = [] };
  deads = (ends D A, 600) ∷ (ends A D, 600) ∷ (ends D B, 900) ∷ (ends B D, 900) ∷ [];
}

-- two vehicles, each of which costs 1,000
abbrev dear : DayFacts
dear = day_with (pool_with 2 1000 0) 33000 36600

-- vehicles cost nothing, and stands cost
abbrev waiting : ℕ → DayFacts
waiting cap = day_with (pool_with cap 0 4) 33000 36600

a_flow_day : is_flow_day dear ≡ true
a_flow_day = refl

-- one path is cheaper than two
one_path : plan_cost dear ((0 ∷ 1 ∷ []) ∷ []) ≡ 2200
one_path = refl

two_paths : plan_cost dear ((0 ∷ []) ∷ (1 ∷ []) ∷ []) ≡ 5000
two_paths = refl

-- the second trip follows the first one, and nothing follows the second
successors : map (successor 2 ((0 ∷ 1 ∷ []) ∷ [])) (0 ∷ 1 ∷ []) ≡ 1 ∷ 2 ∷ []
successors = refl

-- what connections and pulls add: with the store and the end at -1,600, the trips at 0 and 0 as they are entered and at 0 and -2,200 as
-- they are left no potential can be greater
link_of_both : arc_of dear (pool_with 2 1000 0) 0 1 ≡ Some 0
link_of_both = refl

pull_outs : map (arc_of dear (pool_with 2 1000 0) 2) (0 ∷ 1 ∷ []) ≡ Some 1600 ∷ Some 1900 ∷ []
pull_outs = refl

pull_ins : map (λ t. arc_of dear (pool_with 2 1000 0) t 2) (0 ∷ 1 ∷ []) ≡ Some 900 ∷ Some 600 ∷ []
pull_ins = refl

abbrev price : ℤ → Price
price z = record { 0 = z }

-- so the prices are 0 and 2,200,000 and the class price is 0, and the bound is the cost
bound_of_one_path : bound_of (price (pos 0) ∷ price (pos 2200000) ∷ []) (pos 0 ∷ []) (2 ∷ []) ≡ 2200
bound_of_one_path = refl

-- with one vehicle alone there is one path, which stands 600 s; the class price makes the bound its cost
one_vehicle : plan_cost (waiting 1) ((0 ∷ 1 ∷ []) ∷ []) ≡ 3600
one_vehicle = refl

bound_of_one_vehicle : bound_of (price (pos 2400000) ∷ price (pos 2100000) ∷ []) (pos 900000 ∷ []) (1 ∷ []) ≡ 3600
bound_of_one_vehicle = refl

-- with two vehicles two paths are cheaper
two_vehicles : plan_cost (waiting 2) ((0 ∷ []) ∷ (1 ∷ []) ∷ []) ≡ 3000
two_vehicles = refl

bound_of_two_vehicles : bound_of (price (pos 1500000) ∷ price (pos 1500000) ∷ []) (pos 0 ∷ []) (2 ∷ []) ≡ 3000
bound_of_two_vehicles = refl

-- where the minimum layover is one second short there is no connection, and one vehicle is not enough
no_link : path_cost (day_with (pool_with 1 1000 0) 32699 36299) 0 (0 ∷ 1 ∷ []) ≡ None
no_link = refl
