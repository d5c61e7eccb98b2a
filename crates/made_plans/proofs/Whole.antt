-- The legs of a block of a roomy day: each begins when the one before it ends, each stand is a cut, and each leg is near the group's home.
use Rattle.std.proofs.Common.{◌≡◌, ℕ, ℤ, pos, ◌≤ℤ◌, ◌+ℤ◌, ◌-ℤ◌, ◌&&◌, ◌||◌, Bool, true, false, cond, not, List, [], ◌∷◌, ◌++◌, Option, Some, None, refl, sym, ap, subst, ◌∙◌, arith, slice_get, nat_le}
use Rattle.std.specs.Prelude.{option_and_then, if◌then◌else◌}
use Rattle.std.specs.Int.RustNames.{unsigned_abs}
use Rattle.std.proofs.lemmas.Int.{ints}
use Rattle.std.proofs.lemmas.Bool.{and_parts, not-false}
use Rattle.std.proofs.lemmas.Option.{same_Some}
use Rattle.plan_core.specs.declared.types.Leg.{Leg}
use Rattle.plan_core.specs.declared.types.LegKind.{LegKind}
use Rattle.plan_core.specs.declared.types.LegKind.TheVariants.{PullOut, Deadhead, Stand, PullIn}
use Rattle.plan_core.specs.declared.types.Point.{Point}
use Rattle.plan_core.proofs.Options.{and_then_some, given_some}
use Rattle.vdv452_tables.specs.Keys.{point_eq}
use Rattle.trip_times.specs.declared.trip.Trip.{Trip as TheTrip}
use Rattle.deadheads.specs.Entries.{time_at}
use Rattle.plan_params.specs.declared.rows.group.Group.{Group}
use Rattle.plan_params.specs.declared.rows.pool.Pool.{Pool}
use Rattle.day_model.specs.declared.link.Link.{Link}
use Rattle.day_model.specs.declared.link.Link.TheVariants.{Direct, Depot}
use Rattle.day_model.specs.Facts.{DayFacts, dead, is_relief}
use Rattle.day_model.specs.Links.{depot_link, direct_for, direct_link, first_of, given, link, pull_in, pull_out, pull_out_over, seconds}
use Rattle.day_model.specs.Pieces.{duration, is_cut, is_shown, is_stand, is_trip, leg, legs_from, legs_of, link_legs, shown, trip_leg}
use Rattle.depot_network.specs.Driving.{is_cut_on, seconds_after, seconds_before, stand_of, stand_point}
use Rattle.depot_network.proofs.Bounds.{seconds_some}
use Rattle.made_plans.specs.Roomy.{IsNear, IsRoomyWith}

-- a leg that ends no earlier than it begins, near the home at both ends; a stand is a cut, and a leg that is left out takes no time
pub record IsSound (day : DayFacts) (pool : Pool) (group : Group) (way : ℕ) (l : Leg) : Type 0 where
  pub order : l.begin.0 ≤ℤ l.end.0
  pub cut : is_stand l.kind ≡ true → is_cut day pool l ≡ true
  pub hidden : is_shown l ≡ false → l.begin.0 ≡ l.end.0
  pub from : IsNear day.params group way l.from
  pub to : IsNear day.params group way l.to

-- sound legs from a moment to another with no time between them
abbrev pub AreWhole : DayFacts → Pool → Group → ℕ → ℤ → ℤ → List Leg → Type 0
AreWhole day pool group way from to [] = from ≡ to
AreWhole day pool group way from to (l ∷ ls) = (from ≡ l.begin.0) × IsSound day pool group way l × AreWhole day pool group way l.end.0 to ls

-- the parts of a connection: its stand fills the time between its trips, and moves between equal points take none
record IsFilled (pool : Pool) (t u : TheTrip) (l : Link) : Type 0 where
  pub stand : (u.begin.0 -ℤ t.end.0 -ℤ pos (seconds_before l) -ℤ pos (seconds_after l)) ≡ pos (stand_of l)
  pub before : point_eq t.to (stand_point pool u l) ≡ true → seconds_before l ≡ 0
  pub after : point_eq (stand_point pool u l) u.from ≡ true → seconds_after l ≡ 0

no_dead : (day : DayFacts) (from to : Point) (m : ℕ) → dead day from to ≡ Some m → point_eq from to ≡ true → m ≡ 0
no_dead day from to m is same =
    let none : dead day from to ≡ Some 0 = ap (λ b. if b then Some 0 else time_at day.deads (record { from = from; to = to })) same in
    same_Some m 0 (sym is ∙ none)

-- A direct connection: the stand is what the time between the trips leaves after the deadhead, and a deadhead between equal points
-- takes no time. Both are read off the computation that gives the connection. That via the depot, below, has two deadheads with the
-- stand between them.
direct_filled : (day : DayFacts) (pool : Pool) (t u : TheTrip) (l : Link) → direct_link day t u ≡ Some l → IsFilled pool t u l
direct_filled day pool t u l e =
    let (move, is_dead, stands) =
    and_then_some (λ (m : ℕ). direct_for day.params.settings m (seconds (u.begin.0 -ℤ t.end.0 -ℤ pos m))) (dead day t.to u.from) l e in
    let (stand, is_stand, made) =
    and_then_some (λ (s : ℕ). given (nat_le day.params.settings.turn s && nat_le s day.params.settings.max_wait) (Some (Direct move s)))
    (seconds (u.begin.0 -ℤ t.end.0 -ℤ pos move)) l stands in
    let is : Direct move stand ≡ l =
    same_Some (Direct move stand) l
    (given_some (nat_le day.params.settings.turn stand && nat_le stand day.params.settings.max_wait) (Some (Direct move stand)) l made).1 in
    let z = seconds_some (u.begin.0 -ℤ t.end.0 -ℤ pos move) stand is_stand in
    let P : Link → Type 0 = λ l. IsFilled pool t u l in
    let filled : IsFilled pool t u (Direct move stand) =
    record { stand = omega (arith, ints, z); before = λ same. no_dead day t.to u.from move is_dead same; after = λ same. refl } in
    subst P {x = Direct move stand} is filled

depot_filled : (day : DayFacts) (pool : Pool) (t u : TheTrip) (l : Link) → depot_link day pool t u ≡ Some l → IsFilled pool t u l
depot_filled day pool t u l e =
    let (inward, is_in, e1) =
    and_then_some (λ (i : ℕ). option_and_then
    (λ (o : ℕ). option_and_then (λ (s : ℕ). Some (Depot i o s)) (seconds (u.begin.0 -ℤ t.end.0 -ℤ pos i -ℤ pos o)))
    (dead day pool.depot u.from)) (dead day t.to pool.depot) l e in
    let (outward, is_out, e2) =
    and_then_some (λ (o : ℕ). option_and_then (λ (s : ℕ). Some (Depot inward o s)) (seconds (u.begin.0 -ℤ t.end.0 -ℤ pos inward -ℤ pos o)))
    (dead day pool.depot u.from) l e1 in
    let (stand, is_stand, made) =
    and_then_some (λ (s : ℕ). Some (Depot inward outward s)) (seconds (u.begin.0 -ℤ t.end.0 -ℤ pos inward -ℤ pos outward)) l e2 in
    let is : Depot inward outward stand ≡ l = same_Some (Depot inward outward stand) l made in
    let z = seconds_some (u.begin.0 -ℤ t.end.0 -ℤ pos inward -ℤ pos outward) stand is_stand in
    let P : Link → Type 0 = λ l. IsFilled pool t u l in
    let filled : IsFilled pool t u (Depot inward outward stand) =
    record {
      stand = omega (arith, ints, z);
      before = λ same. no_dead day t.to pool.depot inward is_in same;
      after =
          λ same. no_dead day pool.depot u.from outward is_out same;
    } in
    subst P {x = Depot inward outward stand} is filled

either : (P : Link → Type 0) (a b : Option Link) (l : Link) → ((l : Link) → a ≡ Some l → P l) → ((l : Link) → b ≡ Some l → P l) →
    first_of a b ≡ Some l → P l
either P None b l first second e = second l e
either P (Some m) b l first second e = first l e

link_filled : (day : DayFacts) (pool : Pool) (t u : TheTrip) (l : Link) → link day pool t u ≡ Some l → IsFilled pool t u l
link_filled day pool t u l e =
    either (λ l. IsFilled pool t u l) (direct_link day t u) (depot_link day pool t u) l (direct_filled day pool t u)
    (depot_filled day pool t u) e

module _ (day : DayFacts) (pool : Pool) (group : Group) (way : ℕ) where
  abbrev Near : Point → Type 0
  Near at = IsNear day.params group way at

  whole_append : (a b c : ℤ) (xs ys : List Leg) → AreWhole day pool group way a b xs → AreWhole day pool group way b c ys →
      AreWhole day pool group way a c (xs ++ ys)
  whole_append a b c [] ys first second = let P : ℤ → Type 0 = λ from. AreWhole day pool group way from c ys in subst P (sym first) second
  whole_append a b c (l ∷ ls) ys first second = (first.0, first.1, whole_append l.end.0 b c ls ys first.2 second)

  -- Legs that are left out leave no time between the others. A leg that is left out, a move between equal points or a stand of no
  -- time, begins and ends at one moment; so the leg behind it begins when the leg before it ended.
  whole_shown : (a c : ℤ) (ls : List Leg) → AreWhole day pool group way a c ls → AreWhole day pool group way a c (shown ls)
  whole_shown a c [] whole = whole
  whole_shown a c (l ∷ ls) whole = by (is_shown l) refl (whole_shown l.end.0 c ls whole.2)
    where
      by : (b : Bool) → is_shown l ≡ b → AreWhole day pool group way l.end.0 c (shown ls) →
          AreWhole day pool group way a c (cond b (l ∷ shown ls) (shown ls))
      by true e rest = (whole.0, whole.1, rest)
      by false e rest =
          let P : ℤ → Type 0 = λ from. AreWhole day pool group way from c (shown ls) in subst P (sym (whole.0 ∙ whole.1.hidden e)) rest

  -- A move. Moves are pull-outs, pull-ins and deadheads. Such a leg is no stand, so it is driven for all its time, and it is left out
  -- only where both its points are equal; then it takes no time.
  moved : (kind : LegKind) (from to : Point) (begin end : ℤ) (m : ℕ) → is_stand kind ≡ false →
      is_trip kind ≡ false → (end -ℤ begin) ≡ pos m →
      (point_eq from to ≡ true → m ≡ 0) → Near from → Near to → IsSound day pool group way (leg kind None from begin to end)
  moved kind from to begin end m no_stand no_trip long none near_from near_to =
      let l : Leg = leg kind None from begin to end in
      let shows : is_shown l ≡ not (point_eq from to) =
      ap (λ b. b || cond (is_stand kind) (nat_le 1 (duration l)) (not (point_eq from to))) no_trip
      ∙ ap (λ b. cond b (nat_le 1 (duration l)) (not (point_eq from to))) no_stand in
      record {
        order = omega (arith, ints, long);
        cut = λ stands. absurd (cc);
        hidden = λ out. let zero_long = none (not-false (point_eq from to) (sym shows ∙ out)) in omega (arith, ints, long, zero_long);
        from = near_from;
        to = near_to;
      }

  -- a stand that is a cut
  stood : (at : Point) (begin end : ℤ) (s : ℕ) → (end -ℤ begin) ≡ pos s → nat_le 1 s ≡ true →
      (nat_le day.params.settings.handover s && (is_relief day at || point_eq at pool.depot)) ≡ true → Near at →
      IsSound day pool group way (leg Stand None at begin at end)
  stood at begin end s long some test near =
      let l : Leg = leg Stand None at begin at end in
      let seconds_are : duration l ≡ s = ap unsigned_abs long in
      let here : Bool = is_relief day at || point_eq at pool.depot in
      record {
        order = omega (arith, ints, long);
        cut = λ stands. ap (λ n. nat_le day.params.settings.handover n && here) seconds_are ∙ test;
        hidden = λ out. let shows : is_shown l ≡ true = ap (λ n. nat_le 1 n) seconds_are ∙ some in absurd (cc);
        from = near;
        to = near;
      }

  -- The legs of a connection that has a cut. The legs between two trips fill the time between them: the deadhead, and then the stand
  -- until the next trip; or the way to the depot, the stand there, and the way out. The stand is a cut, as each connection of a roomy
  -- day has one, and all points are near the group's home.
  link_whole : (t u : TheTrip) (l : Link) → IsFilled pool t u l → is_cut_on day pool u l ≡ true → Near t.to → Near u.from →
      Near pool.depot → AreWhole day pool group way t.end.0 u.begin.0 (link_legs pool t u l)
  link_whole t u (Direct move stand) filled cut near_to near_from near_depot =
      let whole = filled.stand in
      let (some, test) = and_parts (nat_le 1 stand)
      (nat_le day.params.settings.handover stand && (is_relief day u.from || point_eq u.from pool.depot)) cut in
      let long : (u.begin.0 -ℤ (t.end.0 +ℤ pos move)) ≡ pos stand = omega (arith, ints, whole) in (
        refl,
        moved Deadhead t.to u.from t.end.0 (t.end.0 +ℤ pos move) move refl refl (omega (arith, ints)) filled.before near_to near_from,
        (refl, stood u.from (t.end.0 +ℤ pos move) u.begin.0 stand long some test near_from, refl),
      )
  link_whole t u (Depot inward outward stand) filled cut near_to near_from near_depot =
      let whole = filled.stand in
      let (some, test) = and_parts (nat_le 1 stand)
      (nat_le day.params.settings.handover stand && (is_relief day pool.depot || point_eq pool.depot pool.depot)) cut in
      let long : (u.begin.0 -ℤ pos outward -ℤ (t.end.0 +ℤ pos inward)) ≡ pos stand = omega (arith, ints, whole) in (
        refl,
        moved Deadhead t.to pool.depot t.end.0 (t.end.0 +ℤ pos inward) inward refl refl (omega (arith, ints))
            filled.before near_to near_depot,
        (
          refl,
          stood pool.depot (t.end.0 +ℤ pos inward) (u.begin.0 -ℤ pos outward) stand long some test near_depot,
          (
            refl,
            moved Deadhead pool.depot u.from (u.begin.0 -ℤ pos outward) u.begin.0 outward refl refl (omega (arith, ints)) filled.after
                near_depot near_from,
            refl,
          ),
        ),
      )

  trip_sound : (k : ℕ) (t : TheTrip) → t.begin.0 ≤ℤ t.end.0 → Near t.from → Near t.to → IsSound day pool group way (trip_leg k t)
  trip_sound k t order near_from near_to =
      record { order = order; cut = λ stands. absurd (cc); hidden = λ out. absurd (cc); from = near_from; to = near_to }

  module _ (first : Pool) (class : ℕ) (roomy : IsRoomyWith day first group way) (pool_is : slice_get day.params.pools class ≡ Some pool)
    where
      -- The legs from a trip on, until some moment. By induction over the trips that follow, for any first trip: its leg, the legs of
      -- the connection to the next trip, and the legs from this one on are put one behind the other; at the last trip the pull-in ends
      -- the block. The end is found along with it.
      from_whole : (k : ℕ) (t : TheTrip) (js : List ℕ) (ls : List Leg) → slice_get day.trips k ≡ Some t →
          legs_from day pool k t js ≡ Some ls →
          (end : ℤ) × AreWhole day pool group way t.begin.0 end ls
      from_whole k t [] ls at e =
          let (inward, is_in, made) =
          and_then_some (λ (m : ℕ). Some (trip_leg k t ∷ leg PullIn None t.to t.end.0 pool.depot (t.end.0 +ℤ pos m) ∷ []))
          (pull_in day pool t) ls e in
          let is : (trip_leg k t ∷ leg PullIn None t.to t.end.0 pool.depot (t.end.0 +ℤ pos inward) ∷ []) ≡ ls = same_Some _ ls made in
          let P : List Leg → Type 0 = λ ls. AreWhole day pool group way t.begin.0 (t.end.0 +ℤ pos inward) ls in
          let order = (roomy.alone k t at).order in (
            t.end.0 +ℤ pos inward,
            subst P is (
              refl,
              trip_sound k t order (roomy.begins k t at) (roomy.ends k t at),
              (
                refl,
                moved PullIn t.to pool.depot t.end.0 (t.end.0 +ℤ pos inward) inward refl refl (omega (arith, ints))
                    (λ same. no_dead day t.to pool.depot inward is_in same) (roomy.ends k t at) (roomy.depots class pool pool_is),
                refl,
              ),
            ),
          )
      from_whole k t (j ∷ js) ls at e =
          let (u, is_u, e1) = and_then_some
          (λ (u : TheTrip). option_and_then
          (λ (l : Link). option_and_then (λ (rest : List Leg). Some ((trip_leg k t ∷ link_legs pool t u l) ++ rest))
          (legs_from day pool j u js)) (link day pool t u)) (slice_get day.trips j) ls e in
          let (l, is_l, e2) = and_then_some
          (λ (l : Link). option_and_then (λ (rest : List Leg). Some ((trip_leg k t ∷ link_legs pool t u l) ++ rest))
          (legs_from day pool j u js)) (link day pool t u) ls e1 in
          let (rest, is_rest, made) =
          and_then_some (λ (rest : List Leg). Some ((trip_leg k t ∷ link_legs pool t u l) ++ rest)) (legs_from day pool j u js) ls e2 in
          let is : ((trip_leg k t ∷ link_legs pool t u l) ++ rest) ≡ ls = same_Some _ ls made in
          let (end, later) = from_whole j u js rest is_u is_rest in
          let P : List Leg → Type 0 = λ ls. AreWhole day pool group way t.begin.0 end ls in
          let order = (roomy.alone k t at).order in
          let linked = link_whole t u l (link_filled day pool t u l is_l) (roomy.cuts class k j pool t u l pool_is at is_u is_l)
          (roomy.ends k t at) (roomy.begins j u is_u) (roomy.depots class pool pool_is) in (
            end,
            subst P is (
              refl,
              trip_sound k t order (roomy.begins k t at) (roomy.ends k t at),
              whole_append t.end.0 u.begin.0 end (link_legs pool t u l) rest linked later,
            ),
          )

      out_dead : (t : TheTrip) (o : Option ℕ) (out : ℕ) → pull_out_over t o ≡ Some out → o ≡ Some out
      out_dead t o out e =
          let (move, is, left) = and_then_some (λ (m : ℕ). option_and_then (λ (n : ℕ). Some m) (seconds (t.begin.0 -ℤ pos m))) o out e in
          let (leaves, is_left, same) = and_then_some (λ (n : ℕ). Some move) (seconds (t.begin.0 -ℤ pos move)) out left in
          is ∙ same

      -- The legs of a block of a roomy day leave no time between them, and each stand is a cut. So between two cuts the vehicle is
      -- driven all the time: a piece lasts as long as its driving, at most four and a half hours, and begins and ends near the group's
      -- home. With the ways, sign-on and sign-off its spread is within thirteen hours, and it is a lawful duty alone, on which
      -- `roomy_days_are_planned` rests.
      pub legs_whole : (list : List ℕ) (legs : List Leg) → legs_of day pool list ≡ Some legs →
          (begin : ℤ) × (end : ℤ) × AreWhole day pool group way begin end legs
      legs_whole [] legs e = absurd (cc)
      legs_whole (k ∷ ks) legs e =
          let (t, at, e1) = and_then_some
          (λ (t : TheTrip). option_and_then
          (λ (out : ℕ). option_and_then
          (λ (rest : List Leg). Some (shown (leg PullOut None pool.depot (t.begin.0 -ℤ pos out) t.from t.begin.0 ∷ rest)))
          (legs_from day pool k t ks)) (pull_out day pool t)) (slice_get day.trips k) legs e in
          let (out, is_out, e2) =
          and_then_some (λ (out : ℕ). option_and_then
          (λ (rest : List Leg). Some (shown (leg PullOut None pool.depot (t.begin.0 -ℤ pos out) t.from t.begin.0 ∷ rest)))
          (legs_from day pool k t ks)) (pull_out day pool t) legs e1 in
          let (rest, is_rest, made) =
          and_then_some (λ (rest : List Leg). Some (shown (leg PullOut None pool.depot (t.begin.0 -ℤ pos out) t.from t.begin.0 ∷ rest)))
          (legs_from day pool k t ks) legs e2 in
          let begun : Leg = leg PullOut None pool.depot (t.begin.0 -ℤ pos out) t.from t.begin.0 in
          let is : shown (begun ∷ rest) ≡ legs = same_Some _ legs made in
          let (end, later) = from_whole k t ks rest at is_rest in
          let P : List Leg → Type 0 = λ ls. AreWhole day pool group way (t.begin.0 -ℤ pos out) end ls in
          let is_dead = out_dead t (dead day pool.depot t.from) out is_out in
          let all : AreWhole day pool group way (t.begin.0 -ℤ pos out) end (begun ∷ rest) = (
            refl,
            moved PullOut pool.depot t.from (t.begin.0 -ℤ pos out) t.begin.0 out refl refl (omega (arith, ints))
                (λ same. no_dead day pool.depot t.from out is_dead same) (roomy.depots class pool pool_is) (roomy.begins k t at),
            later,
          ) in
          (t.begin.0 -ℤ pos out, end, subst P is (whole_shown (t.begin.0 -ℤ pos out) end (begun ∷ rest) all))
