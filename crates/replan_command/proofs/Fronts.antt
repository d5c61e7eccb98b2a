-- Blocks of one pool that begin with the same trips begin with the same legs. The legs up to the last of these trips are told by the
-- trips and the pool, and the legs behind it begin when it has ended or later.
use Rattle.std.proofs.Common.{◌≡◌, ℕ, ℤ, pos, negsuc, ◌+ℤ◌, ◌-ℤ◌, ◌≤ℤ◌, false, ◌&&◌, nat_le, List, [], ◌∷◌, ◌++◌, All, Option, Some, None, refl, sym, ap, subst, ◌∙◌, arith, append_assoc, slice_get, int_lt}
use Rattle.std.specs.Prelude.{option_and_then}
use Rattle.std.specs.Option.{option_map_or}
use Rattle.std.proofs.lemmas.Int.{ints}
use Rattle.std.proofs.lemmas.Option.{get_or_from_slice_get, slice_get_within}
use Rattle.plan_core.specs.declared.types.Leg.{Leg}
use Rattle.plan_core.specs.declared.types.LegKind.TheVariants.{PullIn, PullOut}
use Rattle.trip_times.specs.declared.trip.Trip.{Trip}
use Rattle.plan_params.specs.declared.rows.pool.Pool.{Pool}
use Rattle.day_model.specs.declared.link.Link.{Link}
use Rattle.day_model.specs.declared.link.Link.TheVariants.{Direct, Depot}
use Rattle.day_model.specs.Facts.{DayFacts, dead}
use Rattle.day_model.specs.Links.{depot_link, direct_for, direct_link, first_of, given, link, pull_in, pull_out, seconds, with_trip}
use Rattle.day_model.specs.Pieces.{leg, legs_from, legs_of, link_legs, shown, trip_leg}
use Rattle.day_model.specs.Ranges.{IsDaily}
use Rattle.block_cut.proofs.LegLists.{shown_append}
use Rattle.block_cut.proofs.Times.{and_then_some, given_some, some_same}
use Rattle.block_rest.specs.Heads.{ends_before, last_trip, leaves_before}
use Rattle.replan_command.proofs.Cutting.{AreFrom, from-append, from-lower, from-shown}

-- a number of seconds is the number
seconds-some : (z : ℤ) (n : ℕ) → seconds z ≡ Some n → z ≡ pos n
seconds-some (pos m) n e = ap pos (some_same m n e)
seconds-some (negsuc m) n e = absurd (cc)

-- the legs of a connection begin when the trip before it has ended, or later, and so does the trip behind it
record Follows (pool : Pool) (t u : Trip) (l : Link) : Type 0 where
  pub from : AreFrom t.end.0 (link_legs pool t u l)
  pub next : t.end.0 ≤ℤ u.begin.0

-- A direct connection is driven between the two trips: its deadhead begins when the first has ended, its stand when this is over, and
-- the stand lasts until the second begins. All is read off the computation that gives the connection, whose waits are no less than 0.
-- Via the depot, below, there are two deadheads and a stand between them.
direct-follows : (day : DayFacts) (pool : Pool) (t u : Trip) (l : Link) → direct_link day t u ≡ Some l → Follows pool t u l
direct-follows day pool t u l e =
    let moved = and_then_some (λ (m : ℕ). direct_for day.params.settings m (seconds (u.begin.0 -ℤ t.end.0 -ℤ pos m)))
    (dead day t.to u.from) l e in
    let stood = and_then_some
    (λ (s : ℕ). given (nat_le day.params.settings.turn s && nat_le s day.params.settings.max_wait) (Some (Direct moved.0 s)))
    (seconds (u.begin.0 -ℤ t.end.0 -ℤ pos moved.0)) l moved.2 in
    let is : Direct moved.0 stood.0 ≡ l =
    some_same (Direct moved.0 stood.0) l
    (given_some (nat_le day.params.settings.turn stood.0 && nat_le stood.0 day.params.settings.max_wait)
    (Some (Direct moved.0 stood.0)) l stood.2) in
    let z = seconds-some (u.begin.0 -ℤ t.end.0 -ℤ pos moved.0) stood.0 stood.1 in
    let follows : Follows pool t u (Direct moved.0 stood.0) =
    record { from = (omega (arith, ints), (omega (arith, ints), tt)); next = omega (arith, ints, z) } in
    let P : Link → Type 0 = λ l. Follows pool t u l in
    subst P {x = Direct moved.0 stood.0} is follows

depot-follows : (day : DayFacts) (pool : Pool) (t u : Trip) (l : Link) → depot_link day pool t u ≡ Some l → Follows pool t u l
depot-follows day pool t u l e =
    let inward = and_then_some
    (λ (i : ℕ). option_and_then
    (λ (o : ℕ). option_and_then (λ (s : ℕ). Some (Depot i o s)) (seconds (u.begin.0 -ℤ t.end.0 -ℤ pos i -ℤ pos o)))
    (dead day pool.depot u.from)) (dead day t.to pool.depot) l e in
    let outward = and_then_some
    (λ (o : ℕ). option_and_then (λ (s : ℕ). Some (Depot inward.0 o s)) (seconds (u.begin.0 -ℤ t.end.0 -ℤ pos inward.0 -ℤ pos o)))
    (dead day pool.depot u.from) l inward.2 in
    let stood = and_then_some (λ (s : ℕ). Some (Depot inward.0 outward.0 s))
    (seconds (u.begin.0 -ℤ t.end.0 -ℤ pos inward.0 -ℤ pos outward.0)) l outward.2 in
    let is : Depot inward.0 outward.0 stood.0 ≡ l = some_same (Depot inward.0 outward.0 stood.0) l stood.2 in
    let z = seconds-some (u.begin.0 -ℤ t.end.0 -ℤ pos inward.0 -ℤ pos outward.0) stood.0 stood.1 in
    let follows : Follows pool t u (Depot inward.0 outward.0 stood.0) =
    record { from = (omega (arith, ints), (omega (arith, ints), (omega (arith, ints, z), tt))); next = omega (arith, ints, z) } in
    let P : Link → Type 0 = λ l. Follows pool t u l in
    subst P {x = Depot inward.0 outward.0 stood.0} is follows

either-follows : (P : Link → Type 0) (a b : Option Link) (l : Link) → ((l : Link) → a ≡ Some l → P l) → ((l : Link) → b ≡ Some l → P l) →
    first_of a b ≡ Some l → P l
either-follows P None b l first second e = second l e
either-follows P (Some m) b l first second e = first l e

link-follows : (day : DayFacts) (pool : Pool) (t u : Trip) (l : Link) → link day pool t u ≡ Some l → Follows pool t u l
link-follows day pool t u l e =
    either-follows (λ l. Follows pool t u l) (direct_link day t u) (depot_link day pool t u) l (direct-follows day pool t u)
    (depot-follows day pool t u) e

-- a trip of the day begins not after its end
in-order : (day : DayFacts) (k : ℕ) (t : Trip) → All IsDaily day.trips → slice_get day.trips k ≡ Some t → t.begin.0 ≤ℤ t.end.0
in-order day k t daily at =
    let P : Trip → Type 0 = IsDaily in
    let is : IsDaily t = subst P (get_or_from_slice_get day.trips k t t at) (daily k t (slice_get_within day.trips k t at)) in
    is.order

module _ (day : DayFacts) (pool : Pool) where
  -- the legs up to the next trip, with those from it on
  abbrev onward : ℕ → Trip → Trip → Option (List Leg) → Link → Option (List Leg)
  onward k t u others l = option_and_then (λ (rest : List Leg). Some ((trip_leg k t ∷ link_legs pool t u l) ++ rest)) others

  -- the last trip and the pull-in
  abbrev homeward : ℕ → Trip → ℕ → List Leg
  homeward k t inward = trip_leg k t ∷ leg PullIn None t.to t.end.0 pool.depot (t.end.0 +ℤ pos inward) ∷ []

  -- The first of legs from a trip on is the trip, and the others begin when it has ended or later. A trip's leg is told by the trip
  -- alone; of the legs behind it no more than their time is known.
  record Behind (k : ℕ) (t : Trip) (legs : List Leg) : Type 0 where
    pub others : List Leg
    pub is : legs ≡ trip_leg k t ∷ others
    pub later : AreFrom t.end.0 others

  -- the parts of the legs from a trip on, where another follows
  record Goes (k : ℕ) (t : Trip) (j : ℕ) (js : List ℕ) (legs : List Leg) : Type 0 where
    pub next : Trip
    pub at : slice_get day.trips j ≡ Some next
    pub way : Link
    pub linked : link day pool t next ≡ Some way
    pub rest : List Leg
    pub on : legs_from day pool j next js ≡ Some rest
    pub is : legs ≡ (trip_leg k t ∷ link_legs pool t next way) ++ rest

  -- The computation of the legs is opened at one trip that is followed by another: the other trip, the connection to it, and the legs
  -- from it on are all there. Both `behind` and `fronted` go on from trip to trip by it.
  goes : (k : ℕ) (t : Trip) (j : ℕ) (js : List ℕ) (legs : List Leg) → legs_from day pool k t (j ∷ js) ≡ Some legs → Goes k t j js legs
  goes k t j js legs e =
      let second = and_then_some
      (λ (u : Trip). option_and_then (λ (l : Link). onward k t u (legs_from day pool j u js) l) (link day pool t u))
      (slice_get day.trips j) legs e in
      let u : Trip = second.0 in
      let linked = and_then_some (λ (l : Link). onward k t u (legs_from day pool j u js) l) (link day pool t u) legs second.2 in
      let others = and_then_some (λ (rest : List Leg). Some ((trip_leg k t ∷ link_legs pool t u linked.0) ++ rest))
      (legs_from day pool j u js) legs linked.2 in
      record {
        next = u;
        at = second.1;
        way = linked.0;
        linked = linked.1;
        rest = others.0;
        on = others.1;
        is =
            sym (some_same ((trip_leg k t ∷ link_legs pool t u linked.0) ++ others.0) legs others.2);
      }

  -- By induction over the trips that follow: the connection's legs begin when the trip has ended or later, and so do the legs from the
  -- next trip on, which begin with that trip or when it has ended. At the last trip the pull-in begins when it has ended.
  behind : (k : ℕ) (t : Trip) (js : List ℕ) (legs : List Leg) → All IsDaily day.trips →
      legs_from day pool k t js ≡ Some legs → Behind k t legs
  behind k t [] legs daily e =
      let (inward, there, is) = and_then_some (λ (inward : ℕ). Some (homeward k t inward)) (pull_in day pool t) legs e in
      record {
        others = leg PullIn None t.to t.end.0 pool.depot (t.end.0 +ℤ pos inward) ∷ [];
        is =
            sym (some_same (homeward k t inward) legs is);
        later = (omega (arith, ints), tt);
      }
  behind k t (j ∷ js) legs daily e =
      let g = goes k t j js legs e in
      let rest = behind j g.next js g.rest daily g.on in
      let follows = link-follows day pool t g.next g.way g.linked in
      let order = in-order day j g.next daily g.at in
      let next = follows.next in
      let after : AreFrom t.end.0 rest.others = from-lower t.end.0 g.next.end.0 rest.others (omega (arith, ints, next, order)) rest.later in
      let P : List Leg → Type 0 = λ ls. AreFrom t.end.0 ls in
      let all : AreFrom t.end.0 g.rest = subst P (sym rest.is) (next, after) in
      record {
        others = link_legs pool t g.next g.way ++ g.rest;
        is = g.is;
        later =
            from-append t.end.0 (link_legs pool t g.next g.way) g.rest follows.from all;
      }

  -- the legs from a trip on begin when it begins or later
  all-from : (k : ℕ) (t : Trip) (js : List ℕ) (legs : List Leg) → All IsDaily day.trips → slice_get day.trips k ≡ Some t →
      legs_from day pool k t js ≡ Some legs → AreFrom t.begin.0 legs
  all-from k t js legs daily at e =
      let b = behind k t js legs daily e in
      let order = in-order day k t daily at in
      let P : List Leg → Type 0 = λ ls. AreFrom t.begin.0 ls in
      subst P (sym b.is) (omega (arith, ints), from-lower t.begin.0 t.end.0 b.others order b.later)

  -- The legs from a trip up to the last one of some trips. It is the same computation with nothing behind the last trip: no connection
  -- and no pull-in, as these hang on what follows.
  abbrev legs-up : ℕ → Trip → List ℕ → Option (List Leg)
  legs-up k t [] = Some (trip_leg k t ∷ [])
  legs-up k t (j ∷ js) = option_and_then (λ (u : Trip). option_and_then (λ (l : Link). onward k t u (legs-up j u js) l) (link day pool t u))
      (slice_get day.trips j)

  up-more : (k : ℕ) (t : Trip) (j : ℕ) (js : List ℕ) (u : Trip) (l : Link) (front : List Leg) → slice_get day.trips j ≡ Some u →
      link day pool t u ≡ Some l → legs-up j u js ≡ Some front →
      legs-up k t (j ∷ js) ≡ Some ((trip_leg k t ∷ link_legs pool t u l) ++ front)
  up-more k t j js u l front at linked up = rw (at, linked, up) refl

  -- legs are those up to a trip that runs at a moment or later, and others, which begin at the moment or later
  pub record Fronted (moment last : ℕ) (up : Option (List Leg)) (legs : List Leg) : Type 0 where
    pub front : List Leg
    pub back : List Leg
    pub there : up ≡ Some front
    pub is : legs ≡ front ++ back
    pub later : ends_before day moment last ≡ false → AreFrom (pos moment) back

  not-ended : (moment k : ℕ) (t : Trip) → slice_get day.trips k ≡ Some t → ends_before day moment k ≡ false → pos moment ≤ℤ t.end.0
  not-ended moment k t at runs =
      let is : int_lt t.end.0 (pos moment) ≡ false =
      sym (ap (λ (o : Option Trip). option_map_or (λ (trip : Trip). int_lt trip.end.0 (pos moment)) o false) at) ∙ runs in
      grind (arith, ints)

  -- By induction over the first trips: the legs are those up to the last of them, which hang on these trips and the pool alone, and
  -- what is behind. Where the last of them ends at the moment or later, so that it is not over, all behind it begins at the moment or
  -- later, as it begins when that trip has ended (`behind`). The trips that follow, `more`, are any.
  fronted : (moment k : ℕ) (t : Trip) (js more : List ℕ) (legs : List Leg) → All IsDaily day.trips → slice_get day.trips k ≡ Some t →
      legs_from day pool k t (js ++ more) ≡ Some legs →
      Fronted moment (last_trip k js) (legs-up k t js) legs
  fronted moment k t [] more legs daily at e =
      let b = behind k t more legs daily e in
      record {
        front = trip_leg k t ∷ [];
        back = b.others;
        there = refl;
        is = b.is;
        later =
            λ runs. from-lower (pos moment) t.end.0 b.others (not-ended moment k t at runs) b.later;
      }
  fronted moment k t (j ∷ js) more legs daily at e =
      let g = goes k t j (js ++ more) legs e in
      let f = fronted moment j g.next js more g.rest daily g.at g.on in
      let start : List Leg = trip_leg k t ∷ link_legs pool t g.next g.way in
      record {
        front = start ++ f.front;
        back = f.back;
        there = up-more k t j js g.next g.way f.front g.at g.linked f.there;
        is = g.is ∙ ap (λ (ls : List Leg). start ++ ls) f.is ∙ sym (append_assoc start f.front f.back);
        later = f.later;
      }

  -- the leg of a pull-out
  abbrev outward : Trip → ℕ → Leg
  outward t out = leg PullOut None pool.depot (t.begin.0 -ℤ pos out) t.from t.begin.0

  -- the parts of the legs of a block
  pub record Opens (first : ℕ) (others : List ℕ) (legs : List Leg) : Type 0 where
    pub trip : Trip
    pub at : slice_get day.trips first ≡ Some trip
    pub out : ℕ
    pub leaves : pull_out day pool trip ≡ Some out
    pub rest : List Leg
    pub on : legs_from day pool first trip others ≡ Some rest
    pub is : legs ≡ shown (outward trip out ∷ rest)

  pub opens : (first : ℕ) (others : List ℕ) (legs : List Leg) → legs_of day pool (first ∷ others) ≡ Some legs → Opens first others legs
  opens k ks legs e =
      let first = and_then_some
      (λ (t : Trip). option_and_then
      (λ (out : ℕ). option_and_then (λ (rest : List Leg). Some (shown (outward t out ∷ rest))) (legs_from day pool k t ks))
      (pull_out day pool t)) (slice_get day.trips k) legs e in
      let t : Trip = first.0 in
      let out = and_then_some
      (λ (out : ℕ). option_and_then (λ (rest : List Leg). Some (shown (outward t out ∷ rest))) (legs_from day pool k t ks))
      (pull_out day pool t) legs first.2 in
      let rest = and_then_some (λ (rest : List Leg). Some (shown (outward t out.0 ∷ rest))) (legs_from day pool k t ks) legs out.2 in
      record {
        trip = t;
        at = first.1;
        out = out.0;
        leaves = out.1;
        rest = rest.0;
        on = rest.1;
        is =
            sym {a = shown (outward t out.0 ∷ rest.0)} (some_same (shown (outward t out.0 ∷ rest.0)) legs rest.2);
      }

  -- the shown legs of a block up to the last one of its first trips
  abbrev pub block-up : ℕ → List ℕ → Option (List Leg)
  block-up first js =
      with_trip day first (λ (t : Trip). option_and_then
      (λ (out : ℕ). option_and_then (λ (front : List Leg). Some (shown (outward t out ∷ front))) (legs-up first t js))
      (pull_out day pool t))

  up-is : (first : ℕ) (js : List ℕ) (t : Trip) (out : ℕ) (front : List Leg) → slice_get day.trips first ≡ Some t →
      pull_out day pool t ≡ Some out → legs-up first t js ≡ Some front →
      block-up first js ≡ Some (shown (outward t out ∷ front))
  up-is first js t out front at leaves up = rw (at, leaves, up) refl

  -- The same of a whole block: the pull-out hangs on the first trip and the pool, and legs that are not shown are left out of both
  -- parts alike. So two blocks of one pool with the same first trips have the same front, which is computed from these trips
  -- (`block-up`), and differ in legs that begin at the moment or later. On this `SameCuts` rests, and with it that begun pieces keep
  -- their duties.
  pub block-fronted : (moment first : ℕ) (js more : List ℕ) (legs : List Leg) → All IsDaily day.trips →
      legs_of day pool (first ∷ (js ++ more)) ≡ Some legs →
      Fronted moment (last_trip first js) (block-up first js) legs
  block-fronted moment first js more legs daily e =
      let o = opens first (js ++ more) legs e in
      let f = fronted moment first o.trip js more o.rest daily o.at o.on in
      let start : Leg = outward o.trip o.out in
      record {
        front = shown (start ∷ f.front);
        back = shown f.back;
        there = up-is first js o.trip o.out f.front o.at o.leaves f.there;
        is = o.is ∙ ap (λ (ls : List Leg). shown (start ∷ ls)) f.is ∙ shown_append (start ∷ f.front) f.back;
        later = λ runs. from-shown (pos moment) f.back (f.later runs);
      }

  -- Where a block leaves its depot at a moment or later all its legs begin then or later. A block that leaves at the moment or later
  -- has nothing that begins before: its pull-out does not, and each leg from the first trip on begins when that trip does or later
  -- (`all-from`). So a piece that begins before the moment is of a block that has a head.
  pub leaves-later : (moment class first : ℕ) (others : List ℕ) (legs : List Leg) → All IsDaily day.trips →
      slice_get day.params.pools class ≡ Some pool → legs_of day pool (first ∷ others) ≡ Some legs →
      leaves_before day moment class first ≡ false → AreFrom (pos moment) legs
  leaves-later moment class first others legs daily there e late =
      let o = opens first others legs e in
      let is : leaves_before day moment class first ≡ int_lt (o.trip.begin.0 -ℤ pos o.out) (pos moment) =
      leaves-is moment class first o.trip o.out there o.at o.leaves in
      let no : int_lt (o.trip.begin.0 -ℤ pos o.out) (pos moment) ≡ false = sym is ∙ late in
      let low : pos moment ≤ℤ (o.trip.begin.0 -ℤ pos o.out) = not-before (o.trip.begin.0 -ℤ pos o.out) moment no in
      let rest = all-from first o.trip others o.rest daily o.at o.on in
      let all : AreFrom (pos moment) (outward o.trip o.out ∷ o.rest) =
      (low, from-lower (pos moment) o.trip.begin.0 o.rest (omega (arith, ints, low)) rest) in
      let P : List Leg → Type 0 = λ ls. AreFrom (pos moment) ls in
      subst P (sym o.is) (from-shown (pos moment) (outward o.trip o.out ∷ o.rest) all)
    where
      leaves-is : (moment class first : ℕ) (t : Trip) (out : ℕ) → slice_get day.params.pools class ≡ Some pool →
          slice_get day.trips first ≡ Some t → pull_out day pool t ≡ Some out →
          leaves_before day moment class first ≡ int_lt (t.begin.0 -ℤ pos out) (pos moment)
      leaves-is moment class first t out there at leaves = rw (at, there, leaves) refl

      not-before : (z : ℤ) (moment : ℕ) → int_lt z (pos moment) ≡ false → pos moment ≤ℤ z
      not-before z moment e = grind (arith, ints)
