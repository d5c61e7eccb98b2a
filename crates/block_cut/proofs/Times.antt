-- The legs of a block stand one after another.
use Rattle.std.proofs.Common.{◌≡◌, ℕ, ℤ, pos, negsuc, ◌+◌, ◌≤◌, ◌≤ℤ◌, ◌+ℤ◌, ◌-ℤ◌, ◌&&◌, Bool, true, false, cond, List, [], ◌∷◌, ◌++◌, Option, Some, None, Result, Ok, Err, IfOk, OnOk, refl, sym, ap, subst, arith, slice_get, nat_le, is_some}
use Rattle.std.specs.Prelude.{option_and_then}
use Rattle.std.proofs.lemmas.Int.{ints}
use Rattle.std.proofs.lemmas.Option.{same_Some}
pub use Rattle.std.proofs.lemmas.Option.{same_Some as some_same}
use Rattle.plan_core.specs.declared.types.Leg.{Leg}
use Rattle.plan_core.specs.declared.types.LegKind.TheVariants.{PullIn}
pub use Rattle.plan_core.proofs.Options.{and_then_some}
use Rattle.trip_times.specs.declared.trip.Trip.{Trip as TheTrip}
use Rattle.plan_params.specs.declared.rows.pool.Pool.{Pool}
use Rattle.day_model.specs.declared.link.Link.{Link}
use Rattle.day_model.specs.declared.link.Link.TheVariants.{Direct, Depot}
use Rattle.day_model.specs.Facts.{DayFacts, dead}
use Rattle.day_model.specs.Links.{depot_link, direct_for, direct_link, first_of, given, link, pull_in, seconds}
use Rattle.day_model.specs.Pieces.{is_shown, leg, link_legs, shown, trip_leg}
use Rattle.day_model.specs.Ranges.{IsDaily}
use Rattle.block_cut.specs.Legs.{AreTimed, begin_of, legs_or, until_end, until_next}

pub given_some : {A : Type 0} (b : Bool) (o : Option A) (y : A) → given b o ≡ Some y → o ≡ Some y
given_some true o y e = e
given_some false o y e = absurd (cc)

-- a number of seconds is the number
seconds_some : (z : ℤ) (n : ℕ) → seconds z ≡ Some n → z ≡ pos n
seconds_some (pos m) n e = ap pos (same_Some m n e)
seconds_some (negsuc m) n e = absurd (cc)

-- what holds of what was made holds after success
pub on_made : {T E : Type 0} {A : Type 0} (r : Result T E) (P : A → Type 0) (new made : A) → OnOk r (new ≡ made) → P made → OnOk r (P new)
on_made (Ok x) P new made is holds = subst P (sym is) holds
on_made (Err e) P new made is holds = tt

pub ok_made : {T E : Type 0} (r : Result T E) (P : T → Type 0) (made : T) → IfOk r (λ x. x ≡ made) → P made → IfOk r P
ok_made (Ok x) P made is holds = subst P (sym is) holds
ok_made (Err e) P made is holds = tt

-- legs may begin later than they must
pub timed_lower : (a b to : ℤ) (ls : List Leg) → a ≤ℤ b → AreTimed b to ls → AreTimed a to ls
timed_lower a b to [] low timed = omega (arith, ints, low, timed)
timed_lower a b to (l ∷ ls) low timed = (omega (arith, ints, low, timed.0), timed.1, timed.2)

-- Legs between two moments, and legs from the second moment on, are together legs between the first and the last: so a block's legs
-- can be put together trip by trip, with the moment at which the next trip begins as the seam. Legs may begin later than they must
-- (`timed_lower`), and those that are left out leave no disorder (`timed_shown`).
pub timed_append : (a b c : ℤ) (xs ys : List Leg) → AreTimed a b xs → AreTimed b c ys → AreTimed a c (xs ++ ys)
timed_append a b c [] ys first second = timed_lower a b c ys first second
timed_append a b c (l ∷ ls) ys first second = (first.0, first.1, timed_append l.end.0 b c ls ys first.2 second)

timed_if : (b : Bool) (a to : ℤ) (l : Leg) (ls : List Leg) → a ≤ℤ l.begin.0 → l.begin.0 ≤ℤ l.end.0 → AreTimed l.end.0 to ls →
    AreTimed a to (cond b (l ∷ ls) ls)
timed_if true a to l ls low order rest = (low, order, rest)
timed_if false a to l ls low order rest = timed_lower a l.end.0 to ls (omega (arith, ints, low, order)) rest

-- legs that are left out leave the others one after another
pub timed_shown : (a to : ℤ) (ls : List Leg) → AreTimed a to ls → AreTimed a to (shown ls)
timed_shown a to [] timed = timed
timed_shown a to (l ∷ ls) timed = timed_if (is_shown l) a to l (shown ls) timed.0 timed.1 (timed_shown l.end.0 to ls timed.2)

-- The legs of a connection fill the time between its trips: the deadhead begins when the first trip ends, each leg begins when the
-- one before it ends, and the last one ends when the second trip begins. The stand has what is left of the time, and a connection is
-- there only where that is not below 0.
abbrev Fills : Pool → TheTrip → TheTrip → Link → Type 0
Fills pool t u l = AreTimed t.end.0 u.begin.0 (link_legs pool t u l)

direct_fills : (day : DayFacts) (pool : Pool) (t u : TheTrip) (l : Link) → direct_link day t u ≡ Some l → Fills pool t u l
direct_fills day pool t u l e =
    let moved = and_then_some (λ (m : ℕ). direct_for day.params.settings m (seconds (u.begin.0 -ℤ t.end.0 -ℤ pos m)))
    (dead day t.to u.from) l e in
    let stood = and_then_some
    (λ (s : ℕ). given (nat_le day.params.settings.turn s && nat_le s day.params.settings.max_wait) (Some (Direct moved.0 s)))
    (seconds (u.begin.0 -ℤ t.end.0 -ℤ pos moved.0)) l moved.2 in
    let is : Direct moved.0 stood.0 ≡ l = same_Some (Direct moved.0 stood.0) l (given_some _ _ l stood.2) in
    let z = seconds_some (u.begin.0 -ℤ t.end.0 -ℤ pos moved.0) stood.0 stood.1 in
    let fits : Fills pool t u (Direct moved.0 stood.0) =
    (omega (arith, ints), omega (arith, ints), (omega (arith, ints), omega (arith, ints, z), omega (arith, ints))) in
    let P : Link → Type 0 = λ l. Fills pool t u l in
    subst P is fits

depot_fills : (day : DayFacts) (pool : Pool) (t u : TheTrip) (l : Link) → depot_link day pool t u ≡ Some l → Fills pool t u l
depot_fills day pool t u l e =
    let inward = and_then_some
    (λ (i : ℕ). option_and_then
    (λ (o : ℕ). option_and_then (λ (s : ℕ). Some (Depot i o s)) (seconds (u.begin.0 -ℤ t.end.0 -ℤ pos i -ℤ pos o)))
    (dead day pool.depot u.from)) (dead day t.to pool.depot) l e in
    let outward = and_then_some
    (λ (o : ℕ). option_and_then (λ (s : ℕ). Some (Depot inward.0 o s)) (seconds (u.begin.0 -ℤ t.end.0 -ℤ pos inward.0 -ℤ pos o)))
    (dead day pool.depot u.from) l inward.2 in
    let stood = and_then_some (λ (s : ℕ). Some (Depot inward.0 outward.0 s))
    (seconds (u.begin.0 -ℤ t.end.0 -ℤ pos inward.0 -ℤ pos outward.0)) l outward.2 in
    let is : Depot inward.0 outward.0 stood.0 ≡ l = same_Some (Depot inward.0 outward.0 stood.0) l stood.2 in
    let z = seconds_some (u.begin.0 -ℤ t.end.0 -ℤ pos inward.0 -ℤ pos outward.0) stood.0 stood.1 in
    let fits : Fills pool t u (Depot inward.0 outward.0 stood.0) = (
      omega (arith, ints),
      omega
          (arith, ints),
      (omega (arith, ints), omega (arith, ints, z), (omega (arith, ints), omega (arith, ints), omega (arith, ints))),
    ) in
    let P : Link → Type 0 = λ l. Fills pool t u l in
    subst P is fits

either_fills : (P : Link → Type 0) (a b : Option Link) (l : Link) → ((l : Link) → a ≡ Some l → P l) → ((l : Link) → b ≡ Some l → P l) →
    first_of a b ≡ Some l → P l
either_fills P None b l first second e = second l e
either_fills P (Some m) b l first second e = first l e

link_fills : (day : DayFacts) (pool : Pool) (t u : TheTrip) (l : Link) → link day pool t u ≡ Some l → Fills pool t u l
link_fills day pool t u l e =
    either_fills (λ l. Fills pool t u l) (direct_link day t u) (depot_link day pool t u) l (direct_fills day pool t u)
    (depot_fills day pool t u) e

next_or : (day : DayFacts) (pool : Pool) (t : ℕ) (trip next : TheTrip) (o : Option Link) →
    ((l : Link) → o ≡ Some l → Fills pool trip next l) → IsDaily trip →
    is_some (option_and_then (λ l. Some (trip_leg t trip ∷ link_legs pool trip next l)) o) ≡ true →
    AreTimed trip.begin.0 next.begin.0 (legs_or (option_and_then (λ l. Some (trip_leg t trip ∷ link_legs pool trip next l)) o))
next_or day pool t trip next None fills daily some = absurd (cc)
next_or day pool t trip next (Some l) fills daily some = (omega (arith, ints), daily.order, fills l refl)

-- One trip more keeps the legs in time order: the trip itself, and the connection behind it, lie between the starts of the trip and
-- of the next one, and stand behind what was there until the first of them. `timed_end` is the same for the last trip and the
-- pull-in. The contract of `legs` gets from them that the legs lie between midnight and the end of the fourth day.
pub timed_next : (day : DayFacts) (pool : Pool) (t u : ℕ) (trip next : TheTrip) (old : List Leg) → slice_get day.trips t ≡ Some trip →
    slice_get day.trips u ≡ Some next → IsDaily trip →
    is_some (until_next day pool t u) ≡ true → AreTimed (pos 0) (begin_of day t) old →
    AreTimed (pos 0) (begin_of day u) (old ++ shown (legs_or (until_next day pool t u)))
timed_next day pool t u trip next old at at' daily some timed =
    let is : until_next day pool t u ≡ option_and_then (λ l. Some (trip_leg t trip ∷ link_legs pool trip next l))
    (link day pool trip next) = rw (at, at') refl in
    let begins : begin_of day t ≡ trip.begin.0 = rw at refl in
    let begins' : begin_of day u ≡ next.begin.0 = rw at' refl in
    let O : Option (List Leg) → Type 0 = λ o. is_some o ≡ true in
    let T : ℤ → Type 0 = λ z. AreTimed (pos 0) z old in
    let made = next_or day pool t trip next (link day pool trip next) (link_fills day pool trip next) daily (subst O is some) in
    rw (begins', is) (timed_append (pos 0) trip.begin.0 next.begin.0 old _ (subst T begins timed)
    (timed_shown trip.begin.0 next.begin.0 _ made))

end_or : (day : DayFacts) (pool : Pool) (t : ℕ) (trip : TheTrip) (o : Option ℕ) (inward : ℕ) → o ≡ Some inward →
    inward ≤ 172800 → IsDaily trip →
    AreTimed trip.begin.0 (pos 345600)
    (legs_or (option_and_then
    (λ inward. Some (trip_leg t trip ∷ leg PullIn None trip.to trip.end.0 pool.depot (trip.end.0 +ℤ pos inward) ∷ [])) o))
end_or day pool t trip None inward e few daily = absurd (cc)
end_or day pool t trip (Some i) inward e few daily =
    let same : i ≡ inward = same_Some i inward e in
    (omega (arith, ints), daily.order, (omega (arith, ints), omega (arith, ints), omega (arith, ints, same, few, daily.ends)))

-- the legs of the last trip and of the pull-in
pub timed_end : (day : DayFacts) (pool : Pool) (t : ℕ) (trip : TheTrip) (inward : ℕ) (old : List Leg) → slice_get day.trips t ≡ Some trip →
    IsDaily trip → pull_in day pool trip ≡ Some inward → inward ≤ 172800 →
    AreTimed (pos 0) (begin_of day t) old → AreTimed (pos 0) (pos 345600) (old ++ shown (legs_or (until_end day pool t)))
timed_end day pool t trip inward old at daily there few timed =
    let begins : begin_of day t ≡ trip.begin.0 = rw at refl in
    let T : ℤ → Type 0 = λ z. AreTimed (pos 0) z old in
    let is : until_end day pool t
    ≡ option_and_then (λ inward. Some (trip_leg t trip ∷ leg PullIn None trip.to trip.end.0 pool.depot (trip.end.0 +ℤ pos inward) ∷ []))
    (pull_in day pool trip) = rw at refl in
    let made = end_or day pool t trip (pull_in day pool trip) inward there few daily in
    rw is (timed_append (pos 0) trip.begin.0 (pos 345600) old _ (subst T begins timed) (timed_shown trip.begin.0 (pos 345600) _ made))
