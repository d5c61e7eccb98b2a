-- What is read in the layout of a day is what the day says.
use Rattle.std.proofs.Common.{◌≡◌, ℕ, ◌+◌, ◌*◌, ◌<◌, Bool, true, false, List, length, map, Option, Some, refl, sym, ap, subst, ◌∙◌, slice_get, slice_index, get_or, is_some, arith}
use Rattle.std.specs.Prelude.{unwrap_or}
use Rattle.std.proofs.lemmas.List.{length-map}
use Rattle.std.proofs.lemmas.Option.{slice_get_within, get_or_from_slice_get}
use Rattle.plan_core.specs.declared.types.Point.{Point}
use Rattle.trip_times.specs.declared.trip.Trip.{Trip}
use Rattle.deadheads.specs.declared.moves.Ends.{Ends}
use Rattle.deadheads.specs.DeadTimes.{dead_on}
use Rattle.plan_params.specs.declared.rows.ParamRows.{ParamRows}
use Rattle.plan_params.specs.declared.rows.pool.Pool.{Pool}
use Rattle.plan_params.specs.LookUps.{admits_in, is_relief_in}
use Rattle.day_model.specs.declared.layout.Layout.{Layout}
use Rattle.point_grid.specs.declared.grid.Grid.{Grid}
use Rattle.point_grid.specs.declared.numbering.Numbering.{Numbering}
use Rattle.point_grid.specs.Grid.{IsGrid, told}
use Rattle.point_grid.specs.Numbering.{AreNumbered}
use Rattle.point_grid.proofs.Flat.{cell_told, cell_within, flat_at, grid_cell, mapped_at, there}
use Rattle.day_model.specs.Begins.{AreHeads, AreMinutes, AreNexts}
use Rattle.day_model.specs.Facts.{DayFacts, admits, dead, is_relief}
use Rattle.day_model.specs.Layout.{AreLaidOut, admissions_of, reliefs_of}
use Rattle.day_model.specs.Links.{admits_at, given, pull_in_at, with_pool, with_trip}

-- numbers are below the count of the points
pub numbers_below : (given : List Point) (numbering : Numbering) → AreNumbered given numbering → (i : ℕ) → i < length numbering.numbers →
    slice_index numbering.numbers i < length numbering.points
numbers_below given numbering are i inside =
    let many = are.count in
    let (point, at) = there given i (omega (arith, many, inside)) in
    slice_get_within numbering.points _ point (are.points i point at)

-- A layout is made of its parts: points have numbers, a grid holds the times between numbered points, and a trip's first or last
-- point stands at the trip's number; so the time between two trips is the cell at their two numbers. What trips share, a point, is
-- held once, which keeps the grids small where many trips begin at few points.
laid_of : (trips : List Trip) (params : ParamRows) (deads : List (Ends × ℕ)) (begins ends : Numbering) (firsts nexts minutes : List ℕ)
    (between outward inward : Grid) (admitted relieved : List Bool) →
    AreNumbered (map (λ (trip : Trip). trip.from) trips) begins → AreNumbered (map (λ (trip : Trip). trip.to) trips) ends →
    IsGrid (dead_on deads) ends.points begins.points between →
    IsGrid (dead_on deads) (map (λ (pool : Pool). pool.depot) params.pools) begins.points outward →
    IsGrid (dead_on deads) ends.points (map (λ (pool : Pool). pool.depot) params.pools) inward →
    admitted ≡ admissions_of params params.pools trips → relieved ≡ reliefs_of params trips → length firsts ≡ length begins.points →
    AreHeads begins.numbers firsts 0 → AreNexts begins.numbers nexts 0 → AreMinutes trips 2881 minutes →
    AreLaidOut trips params deads (record {
      begins = begins.numbers;
      firsts = firsts;
      nexts = nexts;
      minutes = minutes;
      ends =
          ends.numbers;
      between = between;
      outward = outward;
      inward = inward;
      admitted = admitted;
      relieved = relieved;
    })
laid_of trips params deads begins ends firsts nexts minutes between outward inward admitted relieved first last are_between are_outward
    are_inward are_admitted are_relieved room are_firsts are_nexts are_minutes =
    let from : Trip → Point = λ trip. trip.from in
    let to : Trip → Point = λ trip. trip.to in
    let depot : Pool → Point = λ pool. pool.depot in
    record {
      begins = first.count ∙ length-map trips from;
      ends = last.count ∙ length-map trips to;
      between = λ t u trip next at at'. grid_cell (dead_on deads) ends.points begins.points between (slice_index ends.numbers t)
          (slice_index begins.numbers u) trip.to next.from are_between (last.points t trip.to (mapped_at to trips t trip at))
          (first.points u next.from (mapped_at from trips u next at'));
      outward = λ class u pool next at at'. grid_cell (dead_on deads) (map depot params.pools) begins.points outward class
          (slice_index begins.numbers u) pool.depot next.from are_outward (mapped_at depot params.pools class pool at)
          (first.points u next.from (mapped_at from trips u next at'));
      inward = λ class t pool trip at at'. grid_cell (dead_on deads) ends.points (map depot params.pools) inward
          (slice_index ends.numbers t) class trip.to pool.depot are_inward (last.points t trip.to (mapped_at to trips t trip at'))
          (mapped_at depot params.pools class pool at);
      admitted = are_admitted;
      relieved = are_relieved;
      departures = record {
        points = record {
          count = first.count ∙ length-map trips from;
          same = λ t u trip next at at' one.
              let P : ℕ → Type 0 = λ n. slice_get begins.points n ≡ Some trip.from in
              one_point trip.from next.from (sym (subst P one (first.points t trip.from (mapped_at from trips t trip at)))
              ∙ first.points u next.from (mapped_at from trips u next at'));
        };
        below = λ t inside. (let less = numbers_below (map from trips) begins first t inside in omega (arith, less, room));
        heads = are_firsts;
        chains = are_nexts;
      };
      minutes = are_minutes;
      lasts = record {
        count = last.count ∙ length-map trips to;
        same = λ t u trip next at at' one.
            let P : ℕ → Type 0 = λ n. slice_get ends.points n ≡ Some trip.to in
            one_point trip.to next.to (sym (subst P one (last.points t trip.to (mapped_at to trips t trip at)))
            ∙ last.points u next.to (mapped_at to trips u next at'));
      };
    }
  where
    one_point : (a b : Point) → Some a ≡ Some b → a ≡ b
    one_point a b e = let f : Option Point → Point = λ o. unwrap_or o a in ap f e

-- the same, where its parts are over lists of points that are read first
pub laid_out : (trips : List Trip) (params : ParamRows) (deads : List (Ends × ℕ)) (begins ends : Numbering) (firsts nexts minutes : List ℕ)
    (between outward inward : Grid) (admitted relieved : List Bool) (first_points lasts depots from to : List Point) →
    first_points ≡ map (λ (trip : Trip). trip.from) trips → lasts ≡ map (λ (trip : Trip). trip.to) trips →
    depots ≡ map (λ (pool : Pool). pool.depot) params.pools →
    from ≡ begins.points → to ≡ ends.points →
    AreNumbered first_points begins → AreNumbered lasts ends → IsGrid (dead_on deads) to from between →
    IsGrid (dead_on deads) depots from outward → IsGrid (dead_on deads) to depots inward →
    admitted ≡ admissions_of params params.pools trips → relieved ≡ reliefs_of params trips → length firsts ≡ length begins.points →
    AreHeads begins.numbers firsts 0 → AreNexts begins.numbers nexts 0 → AreMinutes trips 2881 minutes →
    AreLaidOut trips params deads (record {
      begins = begins.numbers;
      firsts = firsts;
      nexts = nexts;
      minutes = minutes;
      ends =
          ends.numbers;
      between = between;
      outward = outward;
      inward = inward;
      admitted = admitted;
      relieved = relieved;
    })
laid_out trips params deads begins ends firsts nexts minutes between outward inward admitted relieved first_points lasts depots from to e1
    e2 e3 e4 e5 first last are_between are_outward are_inward are_admitted are_relieved room are_firsts are_nexts are_minutes =
    laid_of trips params deads begins ends firsts nexts minutes between outward inward admitted relieved
    (let P : List Point → Type 0 = λ ps. AreNumbered ps begins in subst P e1 first)
    (let P : List Point → Type 0 = λ ps. AreNumbered ps ends in subst P e2 last)
    (let P : List Point → Type 0 = λ ps. IsGrid (dead_on deads) ends.points ps between in let Q : List Point → Type 0 =
    λ ps. IsGrid (dead_on deads) ps from between in subst P e4 (subst Q e5 are_between))
    (let P : List Point → Type 0 = λ ps. IsGrid (dead_on deads) (map (λ (pool : Pool). pool.depot) params.pools) ps outward in
    let Q : List Point → Type 0 = λ ps. IsGrid (dead_on deads) ps from outward in subst P e4 (subst Q e3 are_outward))
    (let P : List Point → Type 0 = λ ps. IsGrid (dead_on deads) ends.points ps inward in let Q : List Point → Type 0 =
    λ ps. IsGrid (dead_on deads) ps depots inward in subst P e3 (subst Q e5 are_inward))
    are_admitted are_relieved room are_firsts are_nexts are_minutes

abbrev pub place : Grid → ℕ → ℕ → ℕ
place grid row column = row * grid.columns + column

-- from a trip to another
pub between_within : (trips : List Trip) (params : ParamRows) (deads : List (Ends × ℕ)) (layout : Layout) (t u : ℕ) →
    AreLaidOut trips params deads layout → t < length trips → u < length trips →
    place layout.between (slice_index layout.ends t) (slice_index layout.begins u) < length layout.between.cells
between_within trips params deads layout t u laid below below' =
    let trip = there trips t below in
    let next = there trips u below' in
    cell_within layout.between _ _ _ (laid.between t u trip.0 next.0 trip.1 next.1)

-- What is read in the layout is what the day says of the deadhead from one trip to another; below the same from depots, to depots,
-- of admissions and of relief points. Each has a lemma that the place is in the layout, so that the code may read it without a
-- test, and one that the reading is the definition's value (`between_within`, `between_is`). So a day answers by numbers what its
-- rules ask by points.
pub between_is : (day : DayFacts) (layout : Layout) (t u : ℕ) → AreLaidOut day.trips day.params day.deads layout →
    t < length day.trips → u < length day.trips →
    told (slice_index layout.between.cells (place layout.between (slice_index layout.ends t) (slice_index layout.begins u)))
    ≡ with_trip day t (λ trip. with_trip day u (λ next. dead day trip.to next.from))
between_is day layout t u laid below below' =
    let trip = there day.trips t below in
    let next = there day.trips u below' in
    let e : with_trip day t (λ trip. with_trip day u (λ next. dead day trip.to next.from)) ≡ dead day (trip.0).to (next.0).from =
    rw (trip.1, next.1) refl in
    cell_told layout.between _ _ _ (laid.between t u trip.0 next.0 trip.1 next.1) ∙ sym e

-- from a depot to a trip
pub outward_within : (trips : List Trip) (params : ParamRows) (deads : List (Ends × ℕ)) (layout : Layout) (class u : ℕ) →
    AreLaidOut trips params deads layout → class < length params.pools → u < length trips →
    place layout.outward class (slice_index layout.begins u) < length layout.outward.cells
outward_within trips params deads layout class u laid below below' =
    let pool = there params.pools class below in
    let next = there trips u below' in
    cell_within layout.outward _ _ _ (laid.outward class u pool.0 next.0 pool.1 next.1)

pub outward_is : (day : DayFacts) (layout : Layout) (class u : ℕ) → AreLaidOut day.trips day.params day.deads layout →
    class < length day.params.pools → u < length day.trips →
    told (slice_index layout.outward.cells (place layout.outward class (slice_index layout.begins u)))
    ≡ with_pool day class (λ pool. with_trip day u (λ next. dead day pool.depot next.from))
outward_is day layout class u laid below below' =
    let pool = there day.params.pools class below in
    let next = there day.trips u below' in
    let e : with_pool day class (λ pool. with_trip day u (λ next. dead day pool.depot next.from)) ≡ dead day (pool.0).depot (next.0).from =
    rw (pool.1, next.1) refl in
    cell_told layout.outward _ _ _ (laid.outward class u pool.0 next.0 pool.1 next.1) ∙ sym e

-- from a trip to a depot
pub inward_within : (trips : List Trip) (params : ParamRows) (deads : List (Ends × ℕ)) (layout : Layout) (class t : ℕ) →
    AreLaidOut trips params deads layout → class < length params.pools → t < length trips →
    place layout.inward (slice_index layout.ends t) class < length layout.inward.cells
inward_within trips params deads layout class t laid below below' =
    let pool = there params.pools class below in
    let trip = there trips t below' in
    cell_within layout.inward _ _ _ (laid.inward class t pool.0 trip.0 pool.1 trip.1)

pub inward_is : (day : DayFacts) (layout : Layout) (class t : ℕ) → AreLaidOut day.trips day.params day.deads layout →
    class < length day.params.pools → t < length day.trips →
    told (slice_index layout.inward.cells (place layout.inward (slice_index layout.ends t) class)) ≡ pull_in_at day class t
inward_is day layout class t laid below below' =
    let pool = there day.params.pools class below in
    let trip = there day.trips t below' in
    let e : pull_in_at day class t ≡ dead day (trip.0).to (pool.0).depot = rw (pool.1, trip.1) refl in
    cell_told layout.inward _ _ _ (laid.inward class t pool.0 trip.0 pool.1 trip.1) ∙ sym e

-- whether a pool admits a trip
given_is : (test : Bool) (trip : Trip) → is_some (given test (Some trip)) ≡ test
given_is true trip = refl
given_is false trip = refl

admitted_at : (trips : List Trip) (params : ParamRows) (deads : List (Ends × ℕ)) (layout : Layout) (class t : ℕ) (pool : Pool)
    (trip : Trip) → AreLaidOut trips params deads layout →
    slice_get params.pools class ≡ Some pool → slice_get trips t ≡ Some trip →
    slice_get layout.admitted (class * length trips + t) ≡ Some (admits_in params trip.line pool.typ)
admitted_at trips params deads layout class t pool trip laid at at' =
    let row : Pool → List Bool = λ pool. map (λ (trip : Trip). admits_in params trip.line pool.typ) trips in
    ap (λ (cells : List Bool). slice_get cells (class * length trips + t)) laid.admitted
    ∙ flat_at row (length trips) (λ pool. length-map trips (λ (trip : Trip). admits_in params trip.line pool.typ)) params.pools class
    pool at t (admits_in params trip.line pool.typ) (mapped_at (λ (trip : Trip). admits_in params trip.line pool.typ) trips t trip at')
    (class * length trips + t) refl

pub admitted_within : (trips : List Trip) (params : ParamRows) (deads : List (Ends × ℕ)) (layout : Layout) (class t : ℕ) →
    AreLaidOut trips params deads layout → class < length params.pools → t < length trips →
    class * length trips + t < length layout.admitted
admitted_within trips params deads layout class t laid below below' =
    let pool = there params.pools class below in
    let trip = there trips t below' in
    slice_get_within layout.admitted _ _ (admitted_at trips params deads layout class t pool.0 trip.0 laid pool.1 trip.1)

pub admitted_is : (day : DayFacts) (layout : Layout) (class t : ℕ) → AreLaidOut day.trips day.params day.deads layout →
    class < length day.params.pools → t < length day.trips →
    get_or layout.admitted (class * length day.trips + t) false ≡ admits_at day class t
admitted_is day layout class t laid below below' =
    let pool = there day.params.pools class below in
    let trip = there day.trips t below' in
    let e : admits_at day class t ≡ is_some (given (admits day (trip.0).line (pool.0).typ) (Some trip.0)) = rw (pool.1, trip.1) refl in
    get_or_from_slice_get layout.admitted _ _ false
    (admitted_at day.trips day.params day.deads layout class t pool.0 trip.0 laid pool.1 trip.1)
    ∙ sym (given_is (admits day (trip.0).line (pool.0).typ) trip.0) ∙ sym e

-- whether drivers are relieved where a trip begins
relieved_at : (trips : List Trip) (params : ParamRows) (deads : List (Ends × ℕ)) (layout : Layout) (t : ℕ) (trip : Trip) →
    AreLaidOut trips params deads layout →
    slice_get trips t ≡ Some trip → slice_get layout.relieved t ≡ Some (is_relief_in params trip.from)
relieved_at trips params deads layout t trip laid at =
    ap (λ (cells : List Bool). slice_get cells t) laid.relieved ∙ mapped_at (λ (trip : Trip). is_relief_in params trip.from) trips t trip at

pub relieved_within : (trips : List Trip) (params : ParamRows) (deads : List (Ends × ℕ)) (layout : Layout) (t : ℕ) →
    AreLaidOut trips params deads layout → t < length trips →
    t < length layout.relieved
relieved_within trips params deads layout t laid below =
    let trip = there trips t below in
    slice_get_within layout.relieved _ _ (relieved_at trips params deads layout t trip.0 laid trip.1)

pub relieved_is : (day : DayFacts) (layout : Layout) (t : ℕ) (trip : Trip) → AreLaidOut day.trips day.params day.deads layout →
    slice_get day.trips t ≡ Some trip →
    get_or layout.relieved t false ≡ is_relief day trip.from
relieved_is day layout t trip laid at =
    get_or_from_slice_get layout.relieved _ _ false (relieved_at day.trips day.params day.deads layout t trip laid at)
