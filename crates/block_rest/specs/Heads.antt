-- Promise: what of an earlier plan's blocks has begun before a moment.
use Rattle.std.specs.Prelude.{ℕ, pos, ◌-ℤ◌, int_lt, ◌<◌, ◌==◌, Bool, false, cond, zero, suc, List, [], ◌∷◌, ◌++◌, length, slice_get}
use Rattle.std.specs.Option.{option_map_or}
use Rattle.cover_core.specs.declared.Column.{Column}
use Rattle.cover_core.specs.Cover.{AllBelow}
use Rattle.trip_times.specs.declared.trip.Trip.{Trip}
use Rattle.day_model.specs.Facts.{DayFacts}
use Rattle.day_model.specs.Links.{pull_out_at}
use Rattle.block_rest.specs.declared.head.Head.{Head}

-- whether a trip ends before a moment
abbrev pub ends_before : DayFacts → ℕ → ℕ → Bool
ends_before day moment t = option_map_or (λ (trip : Trip). int_lt trip.end.0 (pos moment)) (slice_get day.trips t) false

-- whether the pull-out of a pool to a trip leaves before a moment
abbrev pub leaves_before : DayFacts → ℕ → ℕ → ℕ → Bool
leaves_before day moment class t =
    option_map_or (λ (trip : Trip). option_map_or (λ out. int_lt (trip.begin.0 -ℤ pos out) (pos moment)) (pull_out_at day class t) false)
    (slice_get day.trips t) false

-- of the trips after a kept trip those that are kept: a trip is where the one before it is kept and ends before the moment
abbrev pub kept_after : DayFacts → ℕ → ℕ → List ℕ → List ℕ
kept_after day moment t [] = []
kept_after day moment t (u ∷ us) = cond (ends_before day moment t) (u ∷ kept_after day moment u us) []

-- the last trip
abbrev pub last_trip : ℕ → List ℕ → ℕ
last_trip t [] = t
last_trip t (u ∷ us) = last_trip u us

-- the head of a block whose first trip is kept: it is finished where its last kept trip ends before the moment
abbrev pub head_from : DayFacts → ℕ → ℕ → ℕ → List ℕ → Head
head_from day moment class t kept = record { class = class; trips = t ∷ kept; finished = ends_before day moment (last_trip t kept) }

-- the head of a block, if its first trip is this one and is kept: the pull-out to it leaves before the moment
abbrev pub head_at : DayFacts → ℕ → ℕ → ℕ → List ℕ → List Head
head_at day moment first class [] = []
head_at day moment first class (t ∷ ts) =
    cond (t == first) (cond (leaves_before day moment class t) (head_from day moment class t (kept_after day moment t ts) ∷ []) []) []

-- the heads of blocks that begin with a trip
abbrev pub heads_at : DayFacts → ℕ → List Column → ℕ → List Head
heads_at day moment [] first = []
heads_at day moment (c ∷ cs) first = head_at day moment first c.class c.items ++ heads_at day moment cs first

-- the heads of blocks that begin with one of n trips from one on, by their first trips
abbrev pub heads_from : DayFacts → ℕ → List Column → ℕ → ℕ → List Head
heads_from day moment blocks zero first = []
heads_from day moment blocks (suc n) first = heads_at day moment blocks first ++ heads_from day moment blocks n (suc first)

-- the heads of a plan's blocks, by their first trips
abbrev pub heads_of : DayFacts → ℕ → List Column → List Head
heads_of day moment blocks = heads_from day moment blocks (length day.trips) 0

-- each list is one of trips and pools of the day
abbrev pub AreOfDay : DayFacts → List Column → Type 0
AreOfDay day [] = Unit {0}
AreOfDay day (c ∷ cs) = ((c.class < length day.params.pools) × AllBelow (length day.trips) c.items) × AreOfDay day cs
