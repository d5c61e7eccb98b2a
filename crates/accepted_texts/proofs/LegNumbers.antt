-- The legs, pieces and costs of blocks have numbers of few bits.
use Rattle.std.proofs.Common.{◌≡◌, ℕ, ℤ, pos, negsuc, neg_ℤ, zero, suc, ◌+◌, ◌*◌, ◌≤◌, ◌≤ℤ◌, ◌+ℤ◌, ◌-ℤ◌, ◌&&◌, ◌++◌, ◌⊎◌, inl, inr, Bool, true, false, cond, All, List, [], ◌∷◌, length, Option, Some, None, IfSome, refl, ap, subst, arith, slice_get, nat_le, length-append}
use Rattle.std.specs.Prelude.{option_and_then, unwrap_or}
use Rattle.std.proofs.Math.Nat.{mul-le-mul}
use Rattle.std.proofs.lemmas.Int.{ints}
use Rattle.std.proofs.lemmas.List.Elements.{All-from_recursion}
use Rattle.std.specs.List.{AllByRecursion}
use Rattle.plan_core.specs.declared.types.Leg.{Leg}
use Rattle.plan_core.specs.declared.types.LegKind.TheVariants.{PullIn, PullOut}
use Rattle.plan_core.specs.declared.types.Piece.{Piece}
use Rattle.plan_core.specs.declared.types.Point.{Point}
use Rattle.cover_core.specs.declared.Column.{Column}
use Rattle.vdv452_tables.specs.Keys.{point_eq}
use Rattle.vdv452_tables.specs.Ranges.{IsTime}
use Rattle.trip_times.specs.declared.trip.Trip.{Trip as TheTrip}
use Rattle.plan_params.specs.declared.rows.pool.Pool.{Pool}
use Rattle.plan_params.specs.Limits.{IsPool}
use Rattle.vdv452_tables.proofs.OrderLemmas.{order_all}
use Rattle.day_model.specs.declared.link.Link.{Link}
use Rattle.day_model.specs.declared.link.Link.TheVariants.{Direct, Depot}
use Rattle.day_model.specs.Blocks.{all_admitted, block_cost, block_worth, cost_from, dead_seconds, link_cost, rises, stand_seconds, trips_at}
use Rattle.day_model.specs.Facts.{DayFacts, dead}
use Rattle.day_model.specs.Links.{depot_link, direct_for, direct_link, first_of, given, link, pull_in, pull_out, seconds}
use Rattle.day_model.specs.Pieces.{can_be_driven, is_cut, is_shown, last_leg, leg, legs_from, legs_of, link_legs, onto_first, parts, pieces_from, pieces_of, shown, trip_leg}
use Rattle.day_model.specs.Ranges.{IsDaily, IsShort}
use Rattle.block_cut.specs.Cuts.{block_pieces, moment, pieces_by_block, pieces_of_plan}
use Rattle.block_cut.specs.Legs.{block_legs, legs_or}
use Rattle.block_cut.proofs.Times.{and_then_some, given_some, some_same}
use Rattle.accepted_texts.proofs.FactNumbers.{HasPlaces, IsPlace}

-- a moment less than 12 days from midnight
abbrev pub IsClose : ℤ → Type 0
IsClose z = (neg_ℤ (pos 1000000) ≤ℤ z) × (z ≤ℤ pos 1000000)

abbrev pub IsFitLeg : Leg → Type 0
IsFitLeg l = IsPlace l.from × IsPlace l.to × IsClose l.begin.0 × IsClose l.end.0

-- a piece between places
abbrev pub HasEnds : Piece → Type 0
HasEnds p = IsPlace p.from × IsPlace p.to

pub record IsFitTrip (t : TheTrip) : Type 0 where
  pub places : HasPlaces t
  pub daily : IsDaily t

pub at_each : {A : Type 0} (P : A → Type 0) (xs : List A) (k : ℕ) (x : A) → AllByRecursion P xs → slice_get xs k ≡ Some x → P x
at_each P [] k x all e = absurd cc
at_each P (y ∷ xs) zero x all e = subst P (some_same y x e) all.0
at_each P (y ∷ xs) (suc k) x all e = at_each P xs k x all.1 e

pub both_each : {A : Type 0} (P : A → Type 0) (xs ys : List A) → AllByRecursion P xs → AllByRecursion P ys → AllByRecursion P (xs ++ ys)
both_each P [] ys h k = k
both_each P (x ∷ xs) ys h k = (h.0, both_each P xs ys h.1 k)

first_cases : (a b : Option Link) (l : Link) → first_of a b ≡ Some l → (a ≡ Some l) ⊎ (b ≡ Some l)
first_cases None b l e = inr e
first_cases (Some x) b l e = inl e

seconds_some : (z : ℤ) (n : ℕ) → seconds z ≡ Some n → z ≡ pos n
seconds_some (pos m) n e = ap pos (some_same m n e)
seconds_some (negsuc m) n e = absurd cc

shown_fit : (legs : List Leg) → AllByRecursion IsFitLeg legs → AllByRecursion IsFitLeg (shown legs)
shown_fit [] fit = tt
shown_fit (l ∷ ls) fit = by (is_shown l) (shown_fit ls fit.1)
  where
    by : (b : Bool) → AllByRecursion IsFitLeg (shown ls) → AllByRecursion IsFitLeg (cond b (l ∷ shown ls) (shown ls))
    by true later = (fit.0, later)
    by false later = later

shown_few : (legs : List Leg) → length (shown legs) ≤ length legs
shown_few [] = omega arith
shown_few (l ∷ ls) = by (is_shown l) (shown_few ls)
  where
    by : (b : Bool) → length (shown ls) ≤ length ls → length (cond b (l ∷ shown ls) (shown ls)) ≤ length (l ∷ ls)
    by true later = omega (arith, later)
    by false later = omega (arith, later)

-- no more legs than this, and each fits
pub record AreFitLegs (most : ℕ) (legs : List Leg) : Type 0 where
  pub fit : AllByRecursion IsFitLeg legs
  pub few : length legs ≤ most

-- A block drives from trip to trip and from and to its depot, so each of its legs lies between ends of trips and the depot; each begins and
-- ends no more than a deadhead before or after a trip, and trips lie within two days. A block of n trips has at most 4 n + 3 legs. Its cost
-- is bounded likewise, by one bound for each connection and pull: a rate of at most 10,000 for at most six days.
module _ (day : DayFacts) (trips : AllByRecursion IsFitTrip day.trips) (short : (from to : Point) → IfSome (dead day from to) IsTime) where
  pub move_short : (from to : Point) (n : ℕ) → dead day from to ≡ Some n → IsTime n
  move_short from to n e = let P : Option ℕ → Type 0 = λ o. IfSome o IsTime in subst P e (short from to)

  module _ (pool : Pool) where
    direct_short : (t u : TheTrip) (l : Link) → IsFitTrip t → IsFitTrip u → direct_link day t u ≡ Some l → IsShort l
    direct_short t u l ft fu e =
        let moved = and_then_some (λ (m : ℕ). direct_for day.params.settings m (seconds (u.begin.0 -ℤ t.end.0 -ℤ pos m)))
        (dead day t.to u.from) l e in
        let stood = and_then_some
        (λ (s : ℕ). given (nat_le day.params.settings.turn s && nat_le s day.params.settings.max_wait) (Some (Direct moved.0 s)))
        (seconds (u.begin.0 -ℤ t.end.0 -ℤ pos moved.0)) l moved.2 in
        let is : Direct moved.0 stood.0 ≡ l = some_same (Direct moved.0 stood.0) l (given_some _ _ l stood.2) in
        let z = seconds_some (u.begin.0 -ℤ t.end.0 -ℤ pos moved.0) stood.0 stood.1 in
        let tb = ft.daily.begins in let to = ft.daily.order in
        let ub = fu.daily.order in let ue = fu.daily.ends in
        let times : IsShort (Direct moved.0 stood.0) = (move_short t.to u.from moved.0 moved.1, omega (arith, ints, z, tb, to, ub, ue)) in
        subst IsShort is times

    depot_short : (t u : TheTrip) (l : Link) → IsFitTrip t → IsFitTrip u → depot_link day pool t u ≡ Some l → IsShort l
    depot_short t u l ft fu e =
        let inward = and_then_some
        (λ (i : ℕ). option_and_then
        (λ (o : ℕ). option_and_then (λ (s : ℕ). Some (Depot i o s)) (seconds (u.begin.0 -ℤ t.end.0 -ℤ pos i -ℤ pos o)))
        (dead day pool.depot u.from)) (dead day t.to pool.depot) l e in
        let outward = and_then_some
        (λ (o : ℕ). option_and_then (λ (s : ℕ). Some (Depot inward.0 o s)) (seconds (u.begin.0 -ℤ t.end.0 -ℤ pos inward.0 -ℤ pos o)))
        (dead day pool.depot u.from) l inward.2 in
        let stood = and_then_some (λ (s : ℕ). Some (Depot inward.0 outward.0 s))
        (seconds (u.begin.0 -ℤ t.end.0 -ℤ pos inward.0 -ℤ pos outward.0)) l outward.2 in
        let is : Depot inward.0 outward.0 stood.0 ≡ l = some_same (Depot inward.0 outward.0 stood.0) l stood.2 in
        let z = seconds_some (u.begin.0 -ℤ t.end.0 -ℤ pos inward.0 -ℤ pos outward.0) stood.0 stood.1 in
        let tb = ft.daily.begins in let to = ft.daily.order in
        let ub = fu.daily.order in let ue = fu.daily.ends in
        let times : IsShort (Depot inward.0 outward.0 stood.0) = (
          move_short t.to pool.depot inward.0 inward.1,
          move_short pool.depot u.from outward.0 outward.1,
          omega (arith, ints, z, tb, to, ub, ue),
        ) in
        subst IsShort is times

    pub link_short : (t u : TheTrip) (l : Link) → IsFitTrip t → IsFitTrip u → link day pool t u ≡ Some l → IsShort l
    link_short t u l ft fu e = elim (first_cases (direct_link day t u) (depot_link day pool t u) l e) [
      | inl direct ↦ direct_short t u l ft fu direct
      | inr depot ↦ depot_short t u l ft fu depot
    ]

    module _ (depot : IsPlace pool.depot) where
      link_fit : (t u : TheTrip) (l : Link) → IsFitTrip t → IsFitTrip u → IsShort l →
          AllByRecursion IsFitLeg (link_legs pool t u l) × (length (link_legs pool t u l) ≤ 3)
      link_fit t u (Direct move stand) ft fu s =
          let tb = ft.daily.begins in let to = ft.daily.order in let te = ft.daily.ends in
          let ub = fu.daily.begins in let uo = fu.daily.order in let ue = fu.daily.ends in
          let m = s.0 in
          let end : IsClose t.end.0 = (omega (arith, ints, tb, to), omega (arith, ints, te)) in
          let arrive : IsClose (t.end.0 +ℤ pos move) = (omega (arith, ints, tb, to), omega (arith, ints, te, m)) in
          let begin : IsClose u.begin.0 = (omega (arith, ints, ub), omega (arith, ints, uo, ue)) in
          (((ft.places.1, fu.places.0, end, arrive), ((fu.places.0, fu.places.0, arrive, begin), tt)), omega arith)
      link_fit t u (Depot inward outward stand) ft fu s =
          let tb = ft.daily.begins in let to = ft.daily.order in let te = ft.daily.ends in
          let ub = fu.daily.begins in let uo = fu.daily.order in let ue = fu.daily.ends in
          let i = s.0 in let o = s.1 in
          let end : IsClose t.end.0 = (omega (arith, ints, tb, to), omega (arith, ints, te)) in
          let arrive : IsClose (t.end.0 +ℤ pos inward) = (omega (arith, ints, tb, to), omega (arith, ints, te, i)) in
          let leave : IsClose (u.begin.0 -ℤ pos outward) = (omega (arith, ints, ub, o), omega (arith, ints, uo, ue)) in
          let begin : IsClose u.begin.0 = (omega (arith, ints, ub), omega (arith, ints, uo, ue)) in
          (((ft.places.1, depot, end, arrive), ((depot, depot, arrive, leave), ((depot, fu.places.0, leave, begin), tt))), omega arith)

      trip_fit : (k : ℕ) (t : TheTrip) → IsFitTrip t → IsFitLeg (trip_leg k t)
      trip_fit k t ft =
          let tb = ft.daily.begins in let to = ft.daily.order in let te = ft.daily.ends in (
            ft.places.0,
            ft.places.1,
            (omega (arith, ints, tb), omega (arith, ints, to, te)),
            (
              omega (arith, ints, tb, to),
              omega (arith, ints, te),
            ),
          )

      -- The induction over the trips of a block carries the trip at hand, which is known to fit; each further trip adds its own leg
      -- and at most three of its connection, all between ends of trips and the depot and at moments that lie a deadhead beside a trip
      -- (`link_fit`).
      from_fit : (k : ℕ) (t : TheTrip) (ks : List ℕ) (legs : List Leg) → IsFitTrip t → legs_from day pool k t ks ≡ Some legs →
          AreFitLegs (4 * length ks + 2) legs
      from_fit k t [] legs ft e =
          let inward = and_then_some (λ (i : ℕ). Some (trip_leg k t ∷ leg PullIn None t.to t.end.0 pool.depot (t.end.0 +ℤ pos i) ∷ []))
          (pull_in day pool t) legs e in
          let i : IsTime inward.0 = move_short t.to pool.depot inward.0 inward.1 in
          let tb = ft.daily.begins in let to = ft.daily.order in let te = ft.daily.ends in
          let home : IsFitLeg (leg PullIn None t.to t.end.0 pool.depot (t.end.0 +ℤ pos inward.0)) = (
            ft.places.1,
            depot,
            (omega (arith, ints, tb, to), omega (arith, ints, te)),
            (omega (arith, ints, tb, to), omega (arith, ints, te, i)),
          ) in
          let made : List Leg = trip_leg k t ∷ leg PullIn None t.to t.end.0 pool.depot (t.end.0 +ℤ pos inward.0) ∷ [] in
          let fits : AreFitLegs 2 made = record { fit = (trip_fit k t ft, (home, tt)); few = omega arith } in
          subst (AreFitLegs 2) (some_same made legs inward.2) fits
      from_fit k t (j ∷ js) legs ft e =
          let next = and_then_some
          (λ (u : TheTrip). option_and_then
          (λ (l : Link). option_and_then (λ (rest : List Leg). Some ((trip_leg k t ∷ link_legs pool t u l) ++ rest))
          (legs_from day pool j u js))
          (link day pool t u)) (slice_get day.trips j) legs e in
          let u : TheTrip = next.0 in
          let fu : IsFitTrip u = at_each IsFitTrip day.trips j u trips next.1 in
          let linked = and_then_some
          (λ (l : Link). option_and_then (λ (rest : List Leg). Some ((trip_leg k t ∷ link_legs pool t u l) ++ rest))
          (legs_from day pool j u js))
          (link day pool t u) legs next.2 in
          let l : Link = linked.0 in
          let later = and_then_some (λ (rest : List Leg). Some ((trip_leg k t ∷ link_legs pool t u l) ++ rest))
          (legs_from day pool j u js) legs
          linked.2 in
          let rest : List Leg = later.0 in
          let after = from_fit j u js rest fu later.1 in
          let between = link_fit t u l ft fu (link_short t u l ft fu linked.1) in
          let made : List Leg = (trip_leg k t ∷ link_legs pool t u l) ++ rest in
          let count = length-append (trip_leg k t ∷ link_legs pool t u l) rest in
          let links = between.1 in
          let few = after.few in
          let fits : AreFitLegs (4 * length (j ∷ js) + 2) made = record {
            fit = both_each IsFitLeg (trip_leg k t ∷ link_legs pool t u l) rest (trip_fit k t ft, between.0) after.fit;
            few = omega (arith, count, links, few);
          } in
          subst (AreFitLegs (4 * length (j ∷ js) + 2)) (some_same made legs later.2) fits

      legs_fit : (list : List ℕ) (legs : List Leg) → legs_of day pool list ≡ Some legs → AreFitLegs (4 * length list + 3) legs
      legs_fit [] legs e = absurd cc
      legs_fit (k ∷ ks) legs e =
          let out_leg : TheTrip → ℕ → Leg = λ t out. leg PullOut None pool.depot (t.begin.0 -ℤ pos out) t.from t.begin.0 in
          let first = and_then_some
          (λ (t : TheTrip). option_and_then
          (λ (out : ℕ). option_and_then (λ (rest : List Leg). Some (shown (out_leg t out ∷ rest))) (legs_from day pool k t ks))
          (pull_out day pool t)) (slice_get day.trips k) legs e in
          let t : TheTrip = first.0 in
          let ft : IsFitTrip t = at_each IsFitTrip day.trips k t trips first.1 in
          let leaves = and_then_some
          (λ (out : ℕ). option_and_then (λ (rest : List Leg). Some (shown (out_leg t out ∷ rest))) (legs_from day pool k t ks))
          (pull_out day pool t) legs first.2 in
          let later = and_then_some (λ (rest : List Leg). Some (shown (out_leg t leaves.0 ∷ rest)))
          (legs_from day pool k t ks) legs leaves.2 in
          let away = and_then_some (λ (out : ℕ). option_and_then (λ (at : ℕ). Some out) (seconds (t.begin.0 -ℤ pos out)))
          (dead day pool.depot t.from) leaves.0 leaves.1 in
          let same = and_then_some (λ (at : ℕ). Some away.0) (seconds (t.begin.0 -ℤ pos away.0)) leaves.0 away.2 in
          let is : away.0 ≡ leaves.0 = some_same away.0 leaves.0 same.2 in
          let o : IsTime away.0 = move_short pool.depot t.from away.0 away.1 in
          let tb = ft.daily.begins in let to = ft.daily.order in let te = ft.daily.ends in
          let out : IsFitLeg (out_leg t leaves.0) = (
            depot,
            ft.places.0,
            (omega (arith, ints, tb, is, o), omega (arith, ints, to, te)),
            (omega (arith, ints, tb), omega (arith, ints, to, te)),
          ) in
          let after = from_fit k t ks later.0 ft later.1 in
          let few = after.few in
          let all : List Leg = out_leg t leaves.0 ∷ later.0 in
          let fits : AreFitLegs (4 * length (k ∷ ks) + 3) (shown all) =
          record { fit = shown_fit all (out, after.fit); few = omega (arith, shown_few all, few) } in
          subst (AreFitLegs (4 * length (k ∷ ks) + 3)) (some_same (shown all) legs later.2) fits

  -- The pieces of legs lie between places.
  onto_each : (l : Leg) (ps : List (List Leg)) → IsFitLeg l → AllByRecursion (AllByRecursion IsFitLeg) ps →
      AllByRecursion (AllByRecursion IsFitLeg) (onto_first l ps)
  onto_each l [] h all = ((h, tt), tt)
  onto_each l (part ∷ ps) h all = ((h, all.0), all.1)

  parts_each : (pool : Pool) (legs : List Leg) → AllByRecursion IsFitLeg legs →
      AllByRecursion (AllByRecursion IsFitLeg) (parts day pool legs)
  parts_each pool [] fit = (tt, tt)
  parts_each pool (l ∷ ls) fit = by (is_cut day pool l) (parts_each pool ls fit.1)
    where
      by : (b : Bool) → AllByRecursion (AllByRecursion IsFitLeg) (parts day pool ls) →
          AllByRecursion (AllByRecursion IsFitLeg) (cond b ([] ∷ parts day pool ls) (onto_first l (parts day pool ls)))
      by true later = (tt, later)
      by false later = onto_each l (parts day pool ls) fit.0 later

  last_fit : (l : Leg) (ls : List Leg) → IsFitLeg l → AllByRecursion IsFitLeg ls → IsFitLeg (last_leg l ls)
  last_fit l [] h all = h
  last_fit l (k ∷ ks) h all = last_fit k ks all.0 all.1

  -- A piece begins where its first leg does and ends where its last leg does. Cutting deals legs out to parts and makes none
  -- (`parts_each`), so whatever holds of each leg holds of the ends of each piece.
  pieces_ends : (block index : ℕ) (ps : List (List Leg)) → AllByRecursion (AllByRecursion IsFitLeg) ps →
      AllByRecursion HasEnds (pieces_from block index ps)
  pieces_ends block index [] all = tt
  pieces_ends block index ([] ∷ rest) all = pieces_ends block index rest all.1
  pieces_ends block index ((l ∷ ls) ∷ rest) all =
      ((all.0.0.0, (last_fit l ls all.0.0 all.0.1).1), pieces_ends block (index + 1) rest all.1)

  module _ (depots : AllByRecursion (λ (pool : Pool). IsPlace pool.depot) day.params.pools) where
    pub block_fit : (column : Column) → AreFitLegs (4 * length column.items + 3) (block_legs day column)
    block_fit column = of_pool (slice_get day.params.pools column.class) refl
      where
        of_legs : (pool : Pool) → IsPlace pool.depot → (o : Option (List Leg)) → legs_of day pool column.items ≡ o →
            AreFitLegs (4 * length column.items + 3) (legs_or o)
        of_legs pool depot None e = record { fit = tt; few = omega arith }
        of_legs pool depot (Some legs) e = legs_fit pool depot column.items legs e

        of_pool : (o : Option Pool) → slice_get day.params.pools column.class ≡ o →
            AreFitLegs (4 * length column.items + 3) (legs_or (option_and_then (λ (pool : Pool). legs_of day pool column.items) o))
        of_pool None e = record { fit = tt; few = omega arith }
        of_pool (Some pool) e =
            of_legs pool (at_each (λ (p : Pool). IsPlace p.depot) day.params.pools column.class pool depots e)
            (legs_of day pool column.items) refl

    block_ends : (number : ℕ) (column : Column) → AllByRecursion HasEnds (block_pieces day number column)
    block_ends number column = of_pool (slice_get day.params.pools column.class) refl
      where
        of_legs : (pool : Pool) → IsPlace pool.depot → (o : Option (List Leg)) → legs_of day pool column.items ≡ o →
            AllByRecursion HasEnds (unwrap_or
            (option_and_then (λ (legs : List Leg). Some (pieces_from number 1 (parts day pool legs))) o) [])
        of_legs pool depot None e = tt
        of_legs pool depot (Some legs) e =
            pieces_ends number 1 (parts day pool legs) (parts_each pool legs (legs_fit pool depot column.items legs e).fit)

        of_pool : (o : Option Pool) → slice_get day.params.pools column.class ≡ o →
            AllByRecursion HasEnds (unwrap_or (option_and_then (λ (pool : Pool). pieces_of day pool number column.items) o) [])
        of_pool None e = tt
        of_pool (Some pool) e =
            of_legs pool (at_each (λ (p : Pool). IsPlace p.depot) day.params.pools column.class pool depots e)
            (legs_of day pool column.items) refl

    blocks_ends : (number : ℕ) (columns : List Column) → AllByRecursion HasEnds (pieces_by_block day number columns)
    blocks_ends number [] = tt
    blocks_ends number (column ∷ columns) =
        both_each HasEnds (block_pieces day number column) (pieces_by_block day (number + 1) columns) (block_ends number column)
        (blocks_ends (number + 1) columns)

    pub plan_ends : (columns : List Column) → All HasEnds (pieces_of_plan day columns)
    plan_ends columns =
        order_all moment HasEnds (pieces_by_block day 1 columns)
        (All-from_recursion HasEnds (pieces_by_block day 1 columns) (blocks_ends 1 columns))

  -- Costs. A connection or a pull costs at most 10,000 for each of its seconds.
  rated : (rate seconds most : ℕ) → rate ≤ 10000 → seconds ≤ most → rate * seconds ≤ 10000 * most
  rated rate seconds most h k = mul-le-mul h k

  stand_short : (pool : Pool) (u : TheTrip) (l : Link) → IsShort l → stand_seconds pool u l ≤ 172800
  stand_short pool u (Direct move stand) s = by (point_eq u.from pool.depot)
    where
      by : (b : Bool) → cond b 0 stand ≤ 172800
      by true = omega arith
      by false = let k = s.1 in omega (arith, k)
  stand_short pool u (Depot inward outward stand) s = omega arith

  dead_short : (l : Link) → IsShort l → dead_seconds l ≤ 345600
  dead_short (Direct move stand) s = let m = s.0 in omega (arith, m)
  dead_short (Depot inward outward stand) s = let i = s.0 in let o = s.1 in omega (arith, i, o)

  module _ (pool : Pool) (is : IsPool pool) where
    pub link_cheap : (u : TheTrip) (l : Link) → IsShort l → link_cost pool u l ≤ 10000000000
    link_cheap u l s =
        let a = rated pool.dead_rate (dead_seconds l) 345600 is.dead_rate (dead_short l s) in
        let b = rated pool.stand_rate (stand_seconds pool u l) 172800 is.stand_rate (stand_short pool u l s) in
        omega (arith, a, b)

    pub pull_cheap : (n : ℕ) → IsTime n → pool.dead_rate * n ≤ 10000000000
    pull_cheap n h = let a = rated pool.dead_rate n 172800 is.dead_rate h in omega (arith, a)

    from_cheap : (t : TheTrip) (us : List TheTrip) (c : ℕ) → IsFitTrip t → AllByRecursion IsFitTrip us → cost_from day pool t us ≡ Some c →
        c ≤ 10000000000 * (length us + 1)
    from_cheap t [] c ft fus e =
        let inward = and_then_some (λ (i : ℕ). Some (pool.dead_rate * i)) (pull_in day pool t) c e in
        let cost : pool.dead_rate * inward.0 ≤ 10000000000 = pull_cheap inward.0 (move_short t.to pool.depot inward.0 inward.1) in
        let same : pool.dead_rate * inward.0 ≡ c = some_same (pool.dead_rate * inward.0) c inward.2 in
        omega (arith, cost, same)
    from_cheap t (u ∷ us) c ft fus e =
        let linked = and_then_some
        (λ (l : Link). option_and_then (λ (rest : ℕ). Some (link_cost pool u l + rest)) (cost_from day pool u us))
        (link day pool t u) c e in
        let l : Link = linked.0 in
        let later = and_then_some (λ (rest : ℕ). Some (link_cost pool u l + rest)) (cost_from day pool u us) c linked.2 in
        let cost : link_cost pool u l ≤ 10000000000 = link_cheap u l (link_short pool t u l ft fus.0 linked.1) in
        let rest : later.0 ≤ 10000000000 * (length us + 1) = from_cheap u us later.0 fus.0 fus.1 later.1 in
        let same : link_cost pool u l + later.0 ≡ c = some_same (link_cost pool u l + later.0) c later.2 in
        omega (arith, cost, rest, same)

    block_cheap : (ts : List TheTrip) (c : ℕ) → AllByRecursion IsFitTrip ts → block_cost day pool ts ≡ Some c →
        c ≤ 10000000000 * (length ts + 2)
    block_cheap [] c fts e = absurd cc
    block_cheap (t ∷ ts) c fts e =
        let made = given_some (all_admitted day pool (t ∷ ts))
        (option_and_then (λ (out : ℕ). option_and_then (λ (rest : ℕ). Some (pool.fixed + pool.dead_rate * out + rest))
        (cost_from day pool t ts)) (pull_out day pool t)) c e in
        let leaves = and_then_some
        (λ (out : ℕ). option_and_then (λ (rest : ℕ). Some (pool.fixed + pool.dead_rate * out + rest)) (cost_from day pool t ts))
        (pull_out day pool t) c made in
        let later = and_then_some (λ (rest : ℕ). Some (pool.fixed + pool.dead_rate * leaves.0 + rest))
        (cost_from day pool t ts) c leaves.2 in
        let away = and_then_some (λ (out : ℕ). option_and_then (λ (at : ℕ). Some out) (seconds (t.begin.0 -ℤ pos out)))
        (dead day pool.depot t.from) leaves.0 leaves.1 in
        let same = and_then_some (λ (at : ℕ). Some away.0) (seconds (t.begin.0 -ℤ pos away.0)) leaves.0 away.2 in
        let same_out : away.0 ≡ leaves.0 = some_same away.0 leaves.0 same.2 in
        let out : pool.dead_rate * leaves.0 ≤ 10000000000 =
        pull_cheap leaves.0 (subst IsTime same_out (move_short pool.depot t.from away.0 away.1)) in
        let rest = from_cheap t ts later.0 fts.0 fts.1 later.1 in
        let fixed = is.fixed in
        let whole : pool.fixed + pool.dead_rate * leaves.0 + later.0 ≡ c =
        some_same (pool.fixed + pool.dead_rate * leaves.0 + later.0) c later.2 in
        omega (arith, fixed, out, rest, whole)

  trips_fit : (list : List ℕ) (ts : List TheTrip) → trips_at day.trips list ≡ Some ts →
      AllByRecursion IsFitTrip ts × (length ts ≡ length list)
  trips_fit [] ts e = let none : [] ≡ ts = some_same [] ts e in
      subst (λ (xs : List TheTrip). AllByRecursion IsFitTrip xs × (length xs ≡ 0)) none (tt, refl)
  trips_fit (k ∷ ks) ts e =
      let first = and_then_some (λ (t : TheTrip). option_and_then (λ (xs : List TheTrip). Some (t ∷ xs)) (trips_at day.trips ks))
      (slice_get day.trips k) ts e in
      let later = and_then_some (λ (xs : List TheTrip). Some (first.0 ∷ xs)) (trips_at day.trips ks) ts first.2 in
      let rest = trips_fit ks later.0 later.1 in
      subst (λ (xs : List TheTrip). AllByRecursion IsFitTrip xs × (length xs ≡ length (k ∷ ks))) (some_same (first.0 ∷ later.0) ts later.2)
      ((at_each IsFitTrip day.trips k first.0 trips first.1, rest.0), ap suc rest.1)

  -- A list has a worth as a block only where its pool is there, its trips are there and each of its connections has a link; taking the
  -- definition apart along these steps gives the links, and each costs at most 10^10 (`link_cheap`). So one estimate of a move bounds
  -- every block.
  pub worth_cheap : AllByRecursion IsPool day.params.pools → (class : ℕ) (list : List ℕ) (worth : ℕ) →
      block_worth day false class list ≡ Some worth →
      worth ≤ 10000000000 * (length list + 2)
  worth_cheap pools class list worth e =
      let value : List TheTrip → Pool → Option ℕ = λ ts pool. option_and_then (λ (c : ℕ). Some (cond false 1 c)) (block_cost day pool ts) in
      let made = given_some (rises list)
      (option_and_then (λ (pool : Pool). given (can_be_driven day pool list)
      (option_and_then (λ (ts : List TheTrip). value ts pool) (trips_at day.trips list)))
      (slice_get day.params.pools class)) worth e in
      let of_pool = and_then_some
      (λ (pool : Pool). given (can_be_driven day pool list)
      (option_and_then (λ (ts : List TheTrip). value ts pool) (trips_at day.trips list)))
      (slice_get day.params.pools class) worth made in
      let pool : Pool = of_pool.0 in
      let driven = given_some (can_be_driven day pool list)
      (option_and_then (λ (ts : List TheTrip). value ts pool) (trips_at day.trips list)) worth of_pool.2 in
      let of_trips = and_then_some (λ (ts : List TheTrip). value ts pool) (trips_at day.trips list) worth driven in
      let costs = and_then_some (λ (c : ℕ). Some (cond false 1 c)) (block_cost day pool of_trips.0) worth of_trips.2 in
      let fit = trips_fit list of_trips.0 of_trips.1 in
      let cheap = block_cheap pool (at_each IsPool day.params.pools class pool pools of_pool.1) of_trips.0 costs.0 fit.0 costs.1 in
      let same : costs.0 ≡ worth = some_same costs.0 worth costs.2 in
      let count = fit.1 in
      omega (arith, cheap, same, count)
