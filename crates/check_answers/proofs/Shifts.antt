-- The pieces of blocks begin at 0 or later, end not before that and within four days, and are driven no longer than they last.
use Rattle.std.proofs.Common.{◌≡◌, ℕ, ℤ, pos, negsuc, ◌+◌, ◌≤◌, ◌≤ℤ◌, ◌+ℤ◌, ◌-ℤ◌, ◌&&◌, ◌++◌, Bool, true, false, cond, All, List, ◌∷◌, Option, Some, None, IfSome, refl, ap, subst, arith, slice_get, nat_le, []}
use Rattle.std.specs.Prelude.{option_and_then, unwrap_or}
use Rattle.std.proofs.lemmas.Int.{ints}
use Rattle.std.proofs.lemmas.List.Elements.{All-from_recursion}
use Rattle.std.proofs.lemmas.Option.{get_or_from_slice_get, slice_get_within}
use Rattle.std.specs.List.{AllByRecursion}
use Rattle.plan_core.specs.declared.types.Leg.{Leg}
use Rattle.plan_core.specs.declared.types.LegKind.TheVariants.{PullIn, PullOut}
use Rattle.plan_core.specs.declared.types.Piece.{Piece}
use Rattle.cover_core.specs.declared.Column.{Column}
use Rattle.vdv452_tables.specs.Ranges.{IsTime}
use Rattle.trip_times.specs.declared.trip.Trip.{Trip as TheTrip}
use Rattle.plan_params.specs.declared.rows.pool.Pool.{Pool}
use Rattle.day_model.specs.declared.link.Link.{Link}
use Rattle.day_model.specs.declared.link.Link.TheVariants.{Direct, Depot}
use Rattle.day_model.specs.Facts.{DayFacts, dead}
use Rattle.day_model.specs.Links.{depot_link, direct_for, direct_link, first_of, given, link, pull_in, pull_out, seconds}
use Rattle.day_model.specs.Pieces.{duration, is_cut, is_stand, leg, legs_from, legs_of, link_legs, parts, pieces_from, pieces_of, shown, trip_leg}
use Rattle.day_model.specs.Ranges.{IsDaily}
use Rattle.block_cut.specs.Cuts.{AreAfter, IsAfter, IsShift, block_pieces, cut_on, ended, grown, moment, next_index, pieces_by_block, pieces_of_plan}
use Rattle.block_cut.specs.Legs.{AreTimed}
use Rattle.block_cut.proofs.Pieces.{after_leg, after_next, cut_whole}
use Rattle.block_cut.proofs.Times.{and_then_some, given_some, some_same, timed_append, timed_shown}
use Rattle.check_answers.specs.Checkable.{HasShortMoves}
use Rattle.check_answers.proofs.Apart.{each-append, order-each}

seconds-some : (z : ℤ) (n : ℕ) → seconds z ≡ Some n → z ≡ pos n
seconds-some (pos m) n e = ap pos (some_same m n e)
seconds-some (negsuc m) n e = absurd (cc)

-- The legs of a connection fill the time between its trips.
abbrev Fills : Pool → TheTrip → TheTrip → Link → Type 0
Fills pool t u l = AreTimed t.end.0 u.begin.0 (link_legs pool t u l)

direct-fills : (day : DayFacts) (pool : Pool) (t u : TheTrip) (l : Link) → direct_link day t u ≡ Some l → Fills pool t u l
direct-fills day pool t u l e =
    let moved = and_then_some (λ (m : ℕ). direct_for day.params.settings m (seconds (u.begin.0 -ℤ t.end.0 -ℤ pos m)))
    (dead day t.to u.from) l e in
    let stood = and_then_some
    (λ (s : ℕ). given (nat_le day.params.settings.turn s && nat_le s day.params.settings.max_wait) (Some (Direct moved.0 s)))
    (seconds (u.begin.0 -ℤ t.end.0 -ℤ pos moved.0)) l moved.2 in
    let is : Direct moved.0 stood.0 ≡ l = some_same (Direct moved.0 stood.0) l (given_some _ _ l stood.2) in
    let z = seconds-some (u.begin.0 -ℤ t.end.0 -ℤ pos moved.0) stood.0 stood.1 in
    let fits : Fills pool t u (Direct moved.0 stood.0) =
    (omega (arith, ints), omega (arith, ints), (omega (arith, ints), omega (arith, ints, z), omega (arith, ints))) in
    let P : Link → Type 0 = λ l. Fills pool t u l in
    subst P is fits

depot-fills : (day : DayFacts) (pool : Pool) (t u : TheTrip) (l : Link) → depot_link day pool t u ≡ Some l → Fills pool t u l
depot-fills day pool t u l e =
    let inward = and_then_some
    (λ (i : ℕ). option_and_then
    (λ (o : ℕ). option_and_then (λ (s : ℕ). Some (Depot i o s)) (seconds (u.begin.0 -ℤ t.end.0 -ℤ pos i -ℤ pos o)))
    (dead day pool.depot u.from)) (dead day t.to pool.depot) l e in
    let outward = and_then_some
    (λ (o : ℕ). option_and_then (λ (s : ℕ). Some (Depot inward.0 o s)) (seconds (u.begin.0 -ℤ t.end.0 -ℤ pos inward.0 -ℤ pos o)))
    (dead day pool.depot u.from) l inward.2 in
    let stood = and_then_some (λ (s : ℕ). Some (Depot inward.0 outward.0 s))
    (seconds (u.begin.0 -ℤ t.end.0 -ℤ pos inward.0 -ℤ pos outward.0)) l outward.2 in
    let is : Depot inward.0 outward.0 stood.0 ≡ l = some_same (Depot inward.0 outward.0 stood.0) l stood.2 in
    let z = seconds-some (u.begin.0 -ℤ t.end.0 -ℤ pos inward.0 -ℤ pos outward.0) stood.0 stood.1 in
    let fits : Fills pool t u (Depot inward.0 outward.0 stood.0) = (
      omega (arith, ints),
      omega (arith, ints),
      (omega (arith, ints), omega (arith, ints, z), (omega (arith, ints), omega (arith, ints), omega (arith, ints))),
    ) in
    let P : Link → Type 0 = λ l. Fills pool t u l in
    subst P is fits

either-fills : (P : Link → Type 0) (a b : Option Link) (l : Link) → ((l : Link) → a ≡ Some l → P l) → ((l : Link) → b ≡ Some l → P l) →
    first_of a b ≡ Some l → P l
either-fills P None b l first second e = second l e
either-fills P (Some m) b l first second e = first l e

link-fills : (day : DayFacts) (pool : Pool) (t u : TheTrip) (l : Link) → link day pool t u ≡ Some l → Fills pool t u l
link-fills day pool t u l e =
    either-fills (λ l. Fills pool t u l) (direct_link day t u) (depot_link day pool t u) l (direct-fills day pool t u)
    (depot-fills day pool t u) e

trip-daily : (trips : List TheTrip) (k : ℕ) (t : TheTrip) → All IsDaily trips → slice_get trips k ≡ Some t → IsDaily t
trip-daily trips k t daily at = subst IsDaily (get_or_from_slice_get trips k t t at) (daily k t (slice_get_within trips k t at))

short-in : (o : Option ℕ) (n : ℕ) → IfSome o IsTime → o ≡ Some n → n ≤ 172800
short-in None n short e = absurd (cc)
short-in (Some m) n short e = subst IsTime (some_same m n e) short

module _ (day : DayFacts) (daily : All IsDaily day.trips) (short : HasShortMoves day) where
  -- The legs from a trip on stand one after another, from its start on and within four days.
  -- The invariant is that the legs fill the time from the start of the trip at hand to four days, one after another. A connection has
  -- the legs that fill the time between its two trips exactly (`link-fills`); at the end a pull-in of at most two days follows a trip
  -- that ends within two days. With a longer pull-in the end would not lie within four days, and so `HasShortMoves` is asked.
  from-timed : (pool : Pool) (k : ℕ) (t : TheTrip) (js : List ℕ) (ls : List Leg) → IsDaily t → legs_from day pool k t js ≡ Some ls →
      AreTimed t.begin.0 (pos 345600) ls
  from-timed pool k t [] ls own e =
      let (inward, is_in, made) =
      and_then_some (λ (inward : ℕ). Some (trip_leg k t ∷ leg PullIn None t.to t.end.0 pool.depot (t.end.0 +ℤ pos inward) ∷ []))
      (pull_in day pool t) ls e in
      let few : inward ≤ 172800 = short-in (pull_in day pool t) inward (short t.to pool.depot) is_in in
      let order = own.order in
      let ends = own.ends in
      let timed : AreTimed t.begin.0 (pos 345600) (trip_leg k t ∷ leg PullIn None t.to t.end.0 pool.depot (t.end.0 +ℤ pos inward) ∷ []) =
      (omega (arith, ints), order, (omega (arith, ints), omega (arith, ints), omega (arith, ints, few, ends))) in
      subst (λ (xs : List Leg). AreTimed t.begin.0 (pos 345600) xs)
      (some_same (trip_leg k t ∷ leg PullIn None t.to t.end.0 pool.depot (t.end.0 +ℤ pos inward) ∷ []) ls made) timed
  from-timed pool k t (j ∷ js) ls own e =
      let (u, at, second) =
      and_then_some (λ (u : TheTrip). option_and_then
      (λ (l : Link). option_and_then (λ (rest : List Leg). Some ((trip_leg k t ∷ link_legs pool t u l) ++ rest))
      (legs_from day pool j u js)) (link day pool t u)) (slice_get day.trips j) ls e in
      let (l, linked, third) =
      and_then_some (λ (l : Link). option_and_then (λ (rest : List Leg). Some ((trip_leg k t ∷ link_legs pool t u l) ++ rest))
      (legs_from day pool j u js)) (link day pool t u) ls second in
      let (rest, later, made) =
      and_then_some (λ (rest : List Leg). Some ((trip_leg k t ∷ link_legs pool t u l) ++ rest)) (legs_from day pool j u js) ls third in
      let order = own.order in
      let front : AreTimed t.begin.0 u.begin.0 (trip_leg k t ∷ link_legs pool t u l) =
      (omega (arith, ints), order, link-fills day pool t u l linked) in
      let timed = timed_append t.begin.0 u.begin.0 (pos 345600) (trip_leg k t ∷ link_legs pool t u l) rest front
      (from-timed pool j u js rest (trip-daily day.trips j u daily at) later) in
      subst (λ (xs : List Leg). AreTimed t.begin.0 (pos 345600) xs)
      (some_same ((trip_leg k t ∷ link_legs pool t u l) ++ rest) ls made) timed

  -- And so do those of a block, from midnight on.
  legs-timed : (pool : Pool) (list : List ℕ) (legs : List Leg) → legs_of day pool list ≡ Some legs → AreTimed (pos 0) (pos 345600) legs
  legs-timed pool [] legs e = absurd (cc)
  legs-timed pool (k ∷ ks) legs e =
      let out_leg : TheTrip → ℕ → Leg = λ t out. leg PullOut None pool.depot (t.begin.0 -ℤ pos out) t.from t.begin.0 in
      let (t, at, second) =
      and_then_some (λ (t : TheTrip). option_and_then
      (λ (out : ℕ). option_and_then (λ (rest : List Leg). Some (shown (out_leg t out ∷ rest))) (legs_from day pool k t ks))
      (pull_out day pool t)) (slice_get day.trips k) legs e in
      let (out, leaves, third) =
      and_then_some (λ (out : ℕ). option_and_then (λ (rest : List Leg). Some (shown (out_leg t out ∷ rest)))
      (legs_from day pool k t ks)) (pull_out day pool t) legs second in
      let (rest, later, made) =
      and_then_some (λ (rest : List Leg). Some (shown (out_leg t out ∷ rest))) (legs_from day pool k t ks) legs third in
      let (away, is_away, leaving) =
      and_then_some (λ (out : ℕ). option_and_then (λ (leaves : ℕ). Some out) (seconds (t.begin.0 -ℤ pos out)))
      (dead day pool.depot t.from) out leaves in
      let (at_moment, moment_is, same_out) = and_then_some (λ (leaves : ℕ). Some away) (seconds (t.begin.0 -ℤ pos away)) out leaving in
      let same : away ≡ out = some_same away out same_out in
      let z = seconds-some (t.begin.0 -ℤ pos away) at_moment moment_is in
      let timed : AreTimed (pos 0) (pos 345600) (out_leg t out ∷ rest) =
      (omega (arith, ints, z, same), omega (arith, ints), from-timed pool k t ks rest (trip-daily day.trips k t daily at) later) in
      subst (λ (xs : List Leg). AreTimed (pos 0) (pos 345600) xs) (some_same (shown (out_leg t out ∷ rest)) legs made)
      (timed_shown (pos 0) (pos 345600) (out_leg t out ∷ rest) timed)

-- A piece of legs in time order has its ranges, leg by leg.
driven-most : (b : Bool) (n : ℕ) → cond b 0 n ≤ n
driven-most true n = omega arith
driven-most false n = omega arith

grown-shift : (block index : ℕ) (held : Option Piece) (l : Leg) → IsAfter held l →
    IsShift (grown block index held l) × ((grown block index held l).end.0 ≤ℤ l.end.0)
grown-shift block index None l after =
    let starts = after.starts in
    let order = after.order in
    let ends = after.ends in
    let whole : pos (duration l) ≡ l.end.0 -ℤ l.begin.0 = omega (arith, ints, order) in
    let most = driven-most (is_stand l.kind) (duration l) in
    (record { begins = starts; order = order; ends = ends; driving = omega (arith, ints, whole, most) }, omega (arith, ints))
grown-shift block index (Some p) l after =
    let starts = after.starts in
    let order = after.order in
    let ends = after.ends in
    let shift = after.before.0 in
    let before = after.before.1 in
    let p_begins = shift.begins in
    let p_order = shift.order in
    let p_driving = shift.driving in
    let whole : pos (duration l) ≡ l.end.0 -ℤ l.begin.0 = omega (arith, ints, order) in
    let most = driven-most (is_stand l.kind) (duration l) in (
      record {
        begins = p_begins;
        order = omega (arith, ints, p_order, before, order);
        ends = ends;
        driving =
            omega (arith, ints, whole, most, p_driving, before);
      },
      omega (arith, ints),
    )

ended-shift : (held : Option Piece) → IfSome held (λ (p : Piece). IsShift p) → AllByRecursion IsShift (ended held)
ended-shift None shift = tt
ended-shift (Some p) shift = (shift, tt)

held-shift : (held : Option Piece) (from : ℤ) → IfSome held (λ (p : Piece). IsShift p × (p.end.0 ≤ℤ from)) →
    IfSome held (λ (p : Piece). IsShift p)
held-shift None from before = tt
held-shift (Some p) from before = before.0

-- The pieces are made leg by leg, and what is carried is the piece that is open, with what is known of it: it ends not after the next
-- leg begins (`AreAfter`). So a leg that it takes over lengthens it by a later time and by no more driving than the leg lasts, and a
-- cut closes it as it is. Legs in time order thus give pieces with the ranges that duties ask, whatever way they are cut.
cut-shifts : (day : DayFacts) (pool : Pool) (block index : ℕ) (held : Option Piece) (legs : List Leg) → AreAfter held legs →
    AllByRecursion IsShift (cut_on day pool block index held legs)
cut-shifts day pool block index held [] after = ended-shift held (held-shift held after.from after.before)
cut-shifts day pool block index held (l ∷ ls) after =
    elim (is_cut day pool l) as
    (λ b. AllByRecursion IsShift
    (cond b (ended held ++ cut_on day pool block (next_index index held) None ls)
    (cut_on day pool block index (Some (grown block index held l)) ls))) [
      | true ↦ each-append IsShift (ended held) (cut_on day pool block (next_index index held) None ls)
          (ended-shift held (held-shift held after.from after.before))
          (cut-shifts day pool block (next_index index held) None ls (after_next held None l ls after tt))
      | false ↦ cut-shifts day pool block index (Some (grown block index held l)) ls
          (after_next held (Some (grown block index held l)) l ls after (grown-shift block index held l (after_leg held l ls after)))
    ]

module _ (day : DayFacts) (daily : All IsDaily day.trips) (short : HasShortMoves day) where
  block-shifts : (number : ℕ) (column : Column) → AllByRecursion IsShift (block_pieces day number column)
  block-shifts number column = of-pool (slice_get day.params.pools column.class)
    where
      of-legs : (pool : Pool) (o : Option (List Leg)) → legs_of day pool column.items ≡ o →
          AllByRecursion IsShift (unwrap_or (option_and_then (λ (legs : List Leg). Some (pieces_from number 1 (parts day pool legs))) o) [])
      of-legs pool None e = tt
      of-legs pool (Some legs) e =
          let after : AreAfter None legs =
          record {
            from = pos 0;
            starts = omega (arith, ints);
            timed = legs-timed day daily short pool column.items legs e;
            before =
                tt;
          } in
          subst (AllByRecursion IsShift) (cut_whole day pool number legs) (cut-shifts day pool number 1 None legs after)

      of-pool : (o : Option Pool) →
          AllByRecursion IsShift (unwrap_or (option_and_then (λ (pool : Pool). pieces_of day pool number column.items) o) [])
      of-pool None = tt
      of-pool (Some pool) = of-legs pool (legs_of day pool column.items) refl

  blocks-shifts : (number : ℕ) (columns : List Column) → AllByRecursion IsShift (pieces_by_block day number columns)
  blocks-shifts number [] = tt
  blocks-shifts number (column ∷ columns) =
      each-append IsShift (block_pieces day number column) (pieces_by_block day (number + 1) columns) (block-shifts number column)
      (blocks-shifts (number + 1) columns)

  -- Each piece of blocks of a day has its ranges.
  pub plan-shifts : (columns : List Column) → All IsShift (pieces_of_plan day columns)
  plan-shifts columns =
      All-from_recursion IsShift (pieces_of_plan day columns)
      (order-each moment IsShift (pieces_by_block day 1 columns) (blocks-shifts 1 columns))
