-- A list of trips can be driven, trip by trip, where each piece that its legs are cut into keeps the greatest driving.
use Rattle.std.proofs.Common.{◌≡◌, ℕ, ℤ, pos, ◌+◌, ◌+ℤ◌, ◌-ℤ◌, ◌&&◌, ◌||◌, Bool, true, false, cond, not, nat_le, List, [], ◌∷◌, ◌++◌, Option, Some, None, refl, sym, ap, subst, ◌∙◌, arith, slice_get, is_some, unsigned_abs}
use Rattle.std.specs.Prelude.{option_and_then, if◌then◌else◌}
use Rattle.std.specs.List.{list_all}
use Rattle.std.specs.Option.{option_map_or}
use Rattle.std.proofs.lemmas.Bool.Decides.{nat_tests}
use Rattle.std.proofs.lemmas.Int.{ints}
use Rattle.std.proofs.lemmas.Bool.{not-false}
use Rattle.std.proofs.lemmas.Option.{same_Some}
use Rattle.plan_core.specs.declared.types.Leg.{Leg}
use Rattle.plan_core.specs.declared.types.LegKind.{LegKind}
use Rattle.plan_core.specs.declared.types.LegKind.TheVariants.{PullOut, Deadhead, Stand, PullIn}
use Rattle.plan_core.specs.declared.types.Point.{Point}
use Rattle.plan_core.proofs.Options.{given_some, and_then_some}
use Rattle.vdv452_tables.specs.Keys.{point_eq}
use Rattle.trip_times.specs.declared.trip.Trip.{Trip as TheTrip}
use Rattle.deadheads.specs.Entries.{time_at}
use Rattle.plan_params.specs.declared.rows.pool.Pool.{Pool}
use Rattle.day_model.specs.declared.link.Link.{Link}
use Rattle.day_model.specs.declared.link.Link.TheVariants.{Direct, Depot}
use Rattle.day_model.specs.Facts.{DayFacts, dead, is_relief}
use Rattle.day_model.specs.Links.{depot_link, direct_for, direct_link, first_of, given, link, pull_in, pull_out, pull_out_over, seconds}
use Rattle.day_model.specs.Pieces.{can_be_driven, driving_seconds, duration, is_cut, is_shown, is_stand, is_trip, leg, legs_from, link_legs, longest_driving, may_be_driven, onto_first, parts, pieces_from, shown, trip_leg}
use Rattle.depot_network.specs.Driving.{driven_in, driven_on, driven_over, drives, drives_on, is_cut_at, is_cut_on, kept, seconds_after, seconds_before, stand_of, stand_point, trip_seconds}
use Rattle.depot_network.proofs.Bounds.{seconds_some}

-- Tests.
true_last : (b : Bool) → (b && true) ≡ b
true_last true = refl
true_last false = refl

false_last : (b : Bool) → (b && false) ≡ false
false_last true = refl
false_last false = refl

and_and : (a b c : Bool) → ((a && b) && c) ≡ (a && (b && c))
and_and true b c = refl
and_and false b c = refl

map_given : {A : Type 0} (f : A → Bool) (b : Bool) (x : A) → option_map_or f (given b (Some x)) false ≡ (b && f x)
map_given f true x = refl
map_given f false x = refl

map_twice : {A : Type 0} (f : A → Bool) (a b : Bool) (x : A) → option_map_or f (given a (given b (Some x))) false ≡ (a && (b && f x))
map_twice f true b x = map_given f b x
map_twice f false b x = refl

some_given : {A : Type 0} (b : Bool) (x : A) → is_some (given b (Some x)) ≡ b
some_given true x = refl
some_given false x = refl

-- The rules ask for each piece as a whole that its driving keeps the limit; the walk asks again after each part. Both are the same,
-- since driving only grows: what is within the limit with more is so with less, and asking of the less beside the more adds nothing.
low_more : (d m : ℕ) → nat_le (d + m) longest_driving ≡ (nat_le d longest_driving && nat_le (d + m) longest_driving)
low_more d m =
    elim (nat_le d longest_driving) as (λ t. nat_le d longest_driving ≡ t →
    nat_le (d + m) longest_driving ≡ (t && nat_le (d + m) longest_driving)) [
      | true ↦ λ is. refl
      | false ↦ λ is. grind (arith, nat_tests)
    ] refl

-- Pieces and parts.
abbrev is_short : List Leg → Bool
is_short part = nat_le (driving_seconds part) longest_driving

pieces_short : (index : ℕ) (ps : List (List Leg)) → list_all may_be_driven (pieces_from 1 index ps) ≡ list_all is_short ps
pieces_short index [] = refl
pieces_short index ([] ∷ rest) = pieces_short index rest
pieces_short index ((l ∷ ls) ∷ rest) = ap (λ b. is_short (l ∷ ls) && b) (pieces_short (index + 1) rest)

-- The generalised statement of this file speaks of the first of the parts with some driving already before it, and of all others as
-- they are. With none before it this is the rule on a block's pieces (`keep_all`); a leg put before the first part is the same as
-- its seconds added to the driving before (`keep_onto`). So legs can be taken off one by one while their driving is carried on.
abbrev keep : ℕ → List (List Leg) → Bool
keep d [] = nat_le d longest_driving
keep d (p ∷ ps) = nat_le (d + driving_seconds p) longest_driving && list_all is_short ps

keep_all : (ps : List (List Leg)) → list_all is_short ps ≡ keep 0 ps
keep_all [] = refl
keep_all (p ∷ ps) = let sum : driving_seconds p ≡ 0 + driving_seconds p = omega arith in
    ap (λ n. nat_le n longest_driving && list_all is_short ps) sum

abbrev own : Leg → ℕ
own l = cond (is_stand l.kind) 0 (duration l)

keep_onto : (d : ℕ) (l : Leg) (ps : List (List Leg)) → keep d (onto_first l ps) ≡ keep (d + own l) ps
keep_onto d l [] =
    let sum : d + (own l + 0) ≡ d + own l = omega arith in
    true_last (nat_le (d + (own l + 0)) longest_driving) ∙ ap (λ n. nat_le n longest_driving) sum
keep_onto d l (p ∷ ps) =
    let sum : d + (own l + driving_seconds p) ≡ d + own l + driving_seconds p = omega arith in
    ap (λ n. nat_le n longest_driving && list_all is_short ps) sum

keep_low : (d : ℕ) (ps : List (List Leg)) → keep d ps ≡ (nat_le d longest_driving && keep d ps)
keep_low d [] = elim (nat_le d longest_driving) as (λ t. t ≡ (t && t)) [ true ↦ refl | false ↦ refl ]
keep_low d (p ∷ ps) = ap (λ b. b && list_all is_short ps) (low_more d (driving_seconds p))
    ∙ and_and (nat_le d longest_driving) (nat_le (d + driving_seconds p) longest_driving) (list_all is_short ps)

module _ (day : DayFacts) (pool : Pool) where
  -- the legs that are still to come, with some driving before them
  abbrev rest : ℕ → List Leg → Bool
  rest d legs = keep d (parts day pool (shown legs))

  -- A leg that is no stand is driven: it belongs to the first part, and its seconds join the driving so far. A move between equal
  -- points is left out of a block's legs, which makes no difference as it takes no time.
  moved : (d : ℕ) (l : Leg) (legs : List Leg) → is_stand l.kind ≡ false → (is_shown l ≡ false → duration l ≡ 0) →
      rest d (l ∷ legs) ≡ rest (d + duration l) legs
  moved d l legs kind out =
      elim (is_shown l) as (λ t. is_shown l ≡ t → keep d (parts day pool (cond t (l ∷ shown legs) (shown legs)))
      ≡ rest (d + duration l) legs) [
        | true ↦ λ is.
            let cut : is_cut day pool l ≡ false =
            ap (λ b. b && nat_le day.params.settings.handover (duration l) && (is_relief day l.from || point_eq l.from pool.depot)) kind in
            let seconds_is : own l ≡ duration l = ap (λ b. cond b 0 (duration l)) kind in
            ap (λ b. keep d (cond b ([] ∷ parts day pool (shown legs)) (onto_first l (parts day pool (shown legs))))) cut
            ∙ keep_onto d l (parts day pool (shown legs)) ∙ ap (λ n. keep (d + n) (parts day pool (shown legs))) seconds_is
        | false ↦ λ is. let none = out is in let same : d ≡ d + duration l = omega (arith, none) in ap (λ n. rest n legs) same
      ] refl

  -- A stand: where it is a cut, the driving so far must keep the limit and what follows begins afresh; where it is none it adds
  -- nothing, since standing is not driving. A stand of 0 seconds is left out of the legs and is no cut, so both readings agree on
  -- it, too.
  stood : (d : ℕ) (at : Point) (begin end : ℤ) (s : ℕ) (legs : List Leg) → unsigned_abs (end -ℤ begin) ≡ s →
      rest d (leg Stand None at begin at end ∷ legs)
      ≡ cond (is_cut_at day pool at s) (nat_le d longest_driving && rest 0 legs) (rest d legs)
  stood d at begin end s legs long =
      let l : Leg = leg Stand None at begin at end in
      let test : ℕ → Bool = λ n. nat_le day.params.settings.handover n && (is_relief day at || point_eq at pool.depot) in
      let same : d ≡ d + 0 = omega arith in
      let inner : (cut : Bool) → keep d (cond cut ([] ∷ parts day pool (shown legs)) (onto_first l (parts day pool (shown legs))))
      ≡ cond cut (nat_le d longest_driving && rest 0 legs) (rest d legs) =
      λ cut. elim cut as (λ c. keep d (cond c ([] ∷ parts day pool (shown legs)) (onto_first l (parts day pool (shown legs))))
      ≡ cond c (nat_le d longest_driving && rest 0 legs) (rest d legs)) [
        | true ↦ ap (λ n. nat_le n longest_driving && list_all is_short (parts day pool (shown legs))) (sym same)
            ∙ ap (λ b. nat_le d longest_driving && b) (keep_all (parts day pool (shown legs)))
        | false ↦ keep_onto d l (parts day pool (shown legs)) ∙ ap (λ n. rest n legs) (sym same)
      ] in
      let outer : (there : Bool) (n : ℕ) →
      keep d (parts day pool (cond there (l ∷ shown legs) (shown legs)))
      ≡ cond (there && test (unsigned_abs (end -ℤ begin))) (nat_le d longest_driving && rest 0 legs) (rest d legs) =
      λ there n. elim there as
      (λ c. keep d (parts day pool (cond c (l ∷ shown legs) (shown legs)))
      ≡ cond (c && test (unsigned_abs (end -ℤ begin))) (nat_le d longest_driving && rest 0 legs) (rest d legs)) [
        | true ↦ inner (test (unsigned_abs (end -ℤ begin)))
        | false ↦ refl
      ] in
      outer (nat_le 1 (unsigned_abs (end -ℤ begin))) s
      ∙ ap (λ n. cond (nat_le 1 n && test n) (nat_le d longest_driving && rest 0 legs) (rest d legs)) long

  -- What the legs of a connection must fulfil: its stand lasts as long as the times of its trips leave, so that the length seen in
  -- the legs is the one that the connection states, and a move between equal points takes no time. It holds of direct connections
  -- and of those via the depot (`link_timed`), by how they are made.
  record IsTimed (t u : TheTrip) (l : Link) : Type 0 where
    pub stand : (u.begin.0 -ℤ t.end.0 -ℤ pos (seconds_before l) -ℤ pos (seconds_after l)) ≡ pos (stand_of l)
    pub before : point_eq t.to (stand_point pool u l) ≡ true → seconds_before l ≡ 0
    pub after : point_eq (stand_point pool u l) u.from ≡ true → seconds_after l ≡ 0

  -- a move
  driven : (d : ℕ) (kind : LegKind) (from to : Point) (begin end : ℤ) (m : ℕ) (legs : List Leg) →
      is_stand kind ≡ false → is_trip kind ≡ false →
      (end -ℤ begin) ≡ pos m → (point_eq from to ≡ true → m ≡ 0) → rest d (leg kind None from begin to end ∷ legs) ≡ rest (d + m) legs
  driven d kind from to begin end m legs no_stand no_trip long none =
      let l : Leg = leg kind None from begin to end in
      let seconds_are : duration l ≡ m = ap unsigned_abs long in
      let shows : is_shown l ≡ not (point_eq from to) =
      ap (λ b. b || cond (is_stand kind) (nat_le 1 (duration l)) (not (point_eq from to))) no_trip
      ∙ ap (λ b. cond b (nat_le 1 (duration l)) (not (point_eq from to))) no_stand in
      moved d l legs no_stand (λ out. seconds_are ∙ none (not-false (point_eq from to) (sym shows ∙ out)))
      ∙ ap (λ n. rest (d + n) legs) seconds_are

  -- The legs of a connection, a move, a stand and perhaps a second move, have the effect that the walk's formula states at once:
  -- with a cut at the stand the driving up to it must keep the limit and the second move begins a piece; without one all of it is
  -- added. From left to right it is one `driven`, one `stood` and one `driven`.
  linked : (d : ℕ) (t u : TheTrip) (l : Link) (legs : List Leg) → IsTimed t u l →
      rest d (link_legs pool t u l ++ legs)
      ≡ cond (is_cut_on day pool u l) (nat_le (d + seconds_before l) longest_driving && rest (seconds_after l) legs)
      (rest (d + seconds_before l + seconds_after l) legs)
  linked d t u (Direct move stand) legs timed =
      let whole = timed.stand in
      let cut = is_cut_on day pool u (Direct move stand) in
      let sum : d + move ≡ d + move + 0 = omega arith in
      driven d Deadhead t.to u.from t.end.0 (t.end.0 +ℤ pos move) move (leg Stand None u.from (t.end.0 +ℤ pos move) u.from u.begin.0 ∷ legs)
      refl refl (omega (arith, ints)) timed.before
      ∙ stood (d + move) u.from (t.end.0 +ℤ pos move) u.begin.0 stand legs (let long : (u.begin.0 -ℤ (t.end.0 +ℤ pos move)) ≡ pos stand =
      omega (arith, ints, whole) in ap unsigned_abs long)
      ∙ ap (λ n. cond cut (nat_le (d + move) longest_driving && rest 0 legs) (rest n legs)) sum
  linked d t u (Depot inward outward stand) legs timed =
      let whole = timed.stand in
      let cut = is_cut_on day pool u (Depot inward outward stand) in
      let out : Leg = leg Deadhead None pool.depot (u.begin.0 -ℤ pos outward) u.from u.begin.0 in
      let then_out : (n : ℕ) → rest n (out ∷ legs) ≡ rest (n + outward) legs =
      λ n. driven n Deadhead pool.depot u.from (u.begin.0 -ℤ pos outward) u.begin.0 outward legs refl refl
      (omega (arith, ints)) timed.after in
      let none : 0 + outward ≡ outward = omega arith in
      driven d Deadhead t.to pool.depot t.end.0 (t.end.0 +ℤ pos inward) inward
      (leg Stand None pool.depot (t.end.0 +ℤ pos inward) pool.depot (u.begin.0 -ℤ pos outward) ∷ out ∷ legs) refl refl
      (omega (arith, ints)) timed.before
      ∙ stood (d + inward) pool.depot (t.end.0 +ℤ pos inward) (u.begin.0 -ℤ pos outward) stand (out ∷ legs)
      (let long : (u.begin.0 -ℤ pos outward -ℤ (t.end.0 +ℤ pos inward)) ≡ pos stand = omega (arith, ints, whole) in ap unsigned_abs long)
      ∙ ap (λ b. cond cut (nat_le (d + inward) longest_driving && b) (rest (d + inward) (out ∷ legs)))
      (then_out 0 ∙ ap (λ n. rest n legs) none)
      ∙ ap (λ b. cond cut (nat_le (d + inward) longest_driving && rest outward legs) b) (then_out (d + inward))

  -- a trip
  tripped : (d k : ℕ) (t : TheTrip) (legs : List Leg) → rest d (trip_leg k t ∷ legs) ≡ rest (d + trip_seconds t) legs
  tripped d k t legs = moved d (trip_leg k t) legs refl (λ out. absurd (cc))

  no_dead : (from to : Point) (m : ℕ) → dead day from to ≡ Some m → point_eq from to ≡ true → m ≡ 0
  no_dead from to m is same =
      let none : dead day from to ≡ Some 0 = ap (λ b. if b then Some 0 else time_at day.deads (record { from = from; to = to })) same in
      same_Some m 0 (sym is ∙ none)

  direct_timed : (t u : TheTrip) (l : Link) → direct_link day t u ≡ Some l → IsTimed t u l
  direct_timed t u l e =
      let (move, is_dead, stands) =
      and_then_some (λ (m : ℕ). direct_for day.params.settings m (seconds (u.begin.0 -ℤ t.end.0 -ℤ pos m))) (dead day t.to u.from) l e in
      let (stand, is_stand, made) =
      and_then_some (λ (s : ℕ). given (nat_le day.params.settings.turn s && nat_le s day.params.settings.max_wait) (Some (Direct move s)))
      (seconds (u.begin.0 -ℤ t.end.0 -ℤ pos move)) l stands in
      let is : Direct move stand ≡ l = same_Some (Direct move stand) l (given_some _ _ l made).1 in
      let z = seconds_some (u.begin.0 -ℤ t.end.0 -ℤ pos move) stand is_stand in
      let P : Link → Type 0 = λ l. IsTimed t u l in
      let timed : IsTimed t u (Direct move stand) =
      record { stand = omega (arith, ints, z); before = λ same. no_dead t.to u.from move is_dead same; after = λ same. refl } in
      subst P is timed

  depot_timed : (t u : TheTrip) (l : Link) → depot_link day pool t u ≡ Some l → IsTimed t u l
  depot_timed t u l e =
      let (inward, is_in, e1) =
      and_then_some (λ (i : ℕ). option_and_then
      (λ (o : ℕ). option_and_then (λ (s : ℕ). Some (Depot i o s)) (seconds (u.begin.0 -ℤ t.end.0 -ℤ pos i -ℤ pos o)))
      (dead day pool.depot u.from)) (dead day t.to pool.depot) l e in
      let (outward, is_out, e2) =
      and_then_some (λ (o : ℕ). option_and_then (λ (s : ℕ). Some (Depot inward o s))
      (seconds (u.begin.0 -ℤ t.end.0 -ℤ pos inward -ℤ pos o))) (dead day pool.depot u.from) l e1 in
      let (stand, is_stand, made) =
      and_then_some (λ (s : ℕ). Some (Depot inward outward s)) (seconds (u.begin.0 -ℤ t.end.0 -ℤ pos inward -ℤ pos outward)) l e2 in
      let is : Depot inward outward stand ≡ l = same_Some (Depot inward outward stand) l made in
      let z = seconds_some (u.begin.0 -ℤ t.end.0 -ℤ pos inward -ℤ pos outward) stand is_stand in
      let P : Link → Type 0 = λ l. IsTimed t u l in
      let timed : IsTimed t u (Depot inward outward stand) =
      record {
        stand = omega (arith, ints, z);
        before = λ same. no_dead t.to pool.depot inward is_in same;
        after =
            λ same. no_dead pool.depot u.from outward is_out same;
      } in
      subst P is timed

  either : (P : Link → Type 0) (a b : Option Link) (l : Link) → ((l : Link) → a ≡ Some l → P l) → ((l : Link) → b ≡ Some l → P l) →
      first_of a b ≡ Some l → P l
  either P None b l first second e = second l e
  either P (Some m) b l first second e = first l e

  link_timed : (t u : TheTrip) (l : Link) → link day pool t u ≡ Some l → IsTimed t u l
  link_timed t u l e = either (λ l. IsTimed t u l) (direct_link day t u) (depot_link day pool t u) l (direct_timed t u) (depot_timed t u) e

  -- legs that may be there
  abbrev rest_of : ℕ → Option (List Leg) → Bool
  rest_of d legs = option_map_or (λ ls. rest d ls) legs false

  -- one connection more, over plain tests
  over : (d before second : ℕ) (cut : Bool) (on : ℕ → Bool) →
      (nat_le d longest_driving
      && option_map_or on (cond cut (given (nat_le (d + before) longest_driving) (kept second)) (kept (d + before + second))) false) ≡
      cond cut (nat_le (d + before) longest_driving && (nat_le second longest_driving && on second))
      (nat_le (d + before + second) longest_driving && on (d + before + second))
  over d before second true on =
      ap (λ b. nat_le d longest_driving && b) (map_twice on (nat_le (d + before) longest_driving) (nat_le second longest_driving) second)
      ∙ sym (and_and (nat_le d longest_driving) (nat_le (d + before) longest_driving) (nat_le second longest_driving && on second))
      ∙ ap (λ b. b && (nat_le second longest_driving && on second)) (sym (low_more d before))
  over d before second false on =
      let sum : d + (before + second) ≡ d + before + second = omega arith in
      let P : ℕ → Type 0 = λ n. nat_le n longest_driving ≡ (nat_le d longest_driving && nat_le n longest_driving) in
      let low : nat_le (d + before + second) longest_driving ≡ (nat_le d longest_driving && nat_le (d + before + second) longest_driving) =
      subst P sum (low_more d (before + second)) in
      ap (λ b. nat_le d longest_driving && b) (map_given on (nat_le (d + before + second) longest_driving) (d + before + second))
      ∙ sym (and_and (nat_le d longest_driving) (nat_le (d + before + second) longest_driving) (on (d + before + second)))
      ∙ ap (λ b. b && on (d + before + second)) (sym low)

  -- The walk and the legs from a trip on, by induction over the trips behind it with any driving before: the trip's seconds join the
  -- driving, the connection is as in `linked`, and behind it the statement holds with the driving that the cut leaves. Where there
  -- is no connection, or no trip, both sides are false.
  driven_from : (ks : List ℕ) (d k : ℕ) (t : TheTrip) → slice_get day.trips k ≡ Some t →
      rest_of d (legs_from day pool k t ks) ≡ (nat_le (d + trip_seconds t) longest_driving && drives_on day pool (d + trip_seconds t) k ks)
  driven_from [] d k t at =
      let now : ℕ = d + trip_seconds t in
      let Goal : Option ℕ → Type 0 = λ o. pull_in day pool t ≡ o →
      rest_of d (option_and_then
      (λ (inward : ℕ). Some (trip_leg k t ∷ leg PullIn None t.to t.end.0 pool.depot (t.end.0 +ℤ pos inward) ∷ [])) o) ≡
      (nat_le now longest_driving && is_some (option_and_then (λ (inward : ℕ). kept (now + inward)) o)) in
      let split : (o : Option ℕ) → Goal o = λ o. elim o as Goal [
        | None ↦ λ is. sym (false_last (nat_le now longest_driving))
        | Some inward ↦ λ is.
            tripped d k t (leg PullIn None t.to t.end.0 pool.depot (t.end.0 +ℤ pos inward) ∷ [])
            ∙ driven now PullIn t.to pool.depot t.end.0 (t.end.0 +ℤ pos inward) inward [] refl refl (omega (arith, ints))
            (λ same. no_dead t.to pool.depot inward is same)
            ∙ true_last (nat_le (now + inward + 0) longest_driving)
            ∙ (let sum : now + inward + 0 ≡ now + inward = omega arith in ap (λ n. nat_le n longest_driving) sum)
            ∙ low_more now inward
            ∙ ap (λ b. nat_le now longest_driving && b) (sym (some_given (nat_le (now + inward) longest_driving) (now + inward)))
      ] in
      let last : driven_in day pool now k ≡ option_and_then (λ (inward : ℕ). kept (now + inward)) (pull_in day pool t) = rw at refl in
      split (pull_in day pool t) refl ∙ ap (λ o. nat_le now longest_driving && is_some o) (sym last)
  driven_from (j ∷ js) d k t at =
      let now : ℕ = d + trip_seconds t in
      let on : Option TheTrip → Option ℕ =
      λ o. option_and_then (λ (next : TheTrip). option_and_then (λ (l : Link). driven_over day pool next l now) (link day pool t next)) o in
      let Goal : Option TheTrip → Type 0 = λ o. slice_get day.trips j ≡ o →
      rest_of d (option_and_then
      (λ (u : TheTrip). option_and_then
      (λ (l : Link). option_and_then (λ (more : List Leg). Some ((trip_leg k t ∷ link_legs pool t u l) ++ more))
      (legs_from day pool j u js)) (link day pool t u)) o) ≡
      (nat_le now longest_driving && option_map_or (λ e. drives_on day pool e j js) (on o) false) in
      let split : (o : Option TheTrip) → Goal o = λ o. elim o as Goal [
        | None ↦ λ none. sym (false_last (nat_le now longest_driving))
        | Some u ↦ λ there.
            let Linked : Option Link → Type 0 = λ o. link day pool t u ≡ o →
            rest_of d (option_and_then
            (λ (l : Link). option_and_then (λ (more : List Leg). Some ((trip_leg k t ∷ link_legs pool t u l) ++ more))
            (legs_from day pool j u js)) o) ≡
            (nat_le now longest_driving
            && option_map_or (λ e. drives_on day pool e j js) (option_and_then (λ (l : Link). driven_over day pool u l now) o) false) in
            let links : (o : Option Link) → Linked o = λ o. elim o as Linked [
              | None ↦ λ none. sym (false_last (nat_le now longest_driving))
              | Some l ↦ λ is.
                  let timed = link_timed t u l is in
                  let cut : Bool = is_cut_on day pool u l in
                  let second : ℕ = seconds_after l + trip_seconds u in
                  let sum : now + seconds_before l + seconds_after l + trip_seconds u
                  ≡ now + seconds_before l + (seconds_after l + trip_seconds u) = omega arith in
                  let Legs : Option (List Leg) → Type 0 =
                  λ o. rest_of d (option_and_then (λ (more : List Leg). Some ((trip_leg k t ∷ link_legs pool t u l) ++ more)) o) ≡
                  cond cut (nat_le (now + seconds_before l) longest_driving && rest_of (seconds_after l) o)
                  (rest_of (now + seconds_before l + seconds_after l) o) in
                  let legs : (o : Option (List Leg)) → Legs o = λ o. elim o as Legs [
                    | None ↦ elim cut as (λ c. false ≡ cond c (nat_le (now + seconds_before l) longest_driving && false) false) [
                      | true ↦
                          sym (false_last (nat_le (now + seconds_before l) longest_driving))
                      | false ↦ refl
                    ]
                    | Some more ↦ tripped d k t (link_legs pool t u l ++ more) ∙ linked now t u l more timed
                  ] in
                  legs (legs_from day pool j u js)
                  ∙ ap (λ b. cond cut (nat_le (now + seconds_before l) longest_driving && b)
                  (rest_of (now + seconds_before l + seconds_after l) (legs_from day pool j u js)))
                  (driven_from js (seconds_after l) j u there)
                  ∙ ap (λ b. cond cut (nat_le (now + seconds_before l) longest_driving
                  && (nat_le second longest_driving && drives_on day pool second j js)) b)
                  (driven_from js (now + seconds_before l + seconds_after l) j u there
                  ∙ ap (λ n. nat_le n longest_driving && drives_on day pool n j js) sum)
                  ∙ sym (over now (seconds_before l) second cut (λ e. drives_on day pool e j js))
            ] in
            links (link day pool t u) refl
      ] in
      let next : driven_on day pool now k j ≡ on (slice_get day.trips j) = rw at refl in
      split (slice_get day.trips j) refl
      ∙ ap (λ o. nat_le now longest_driving && option_map_or (λ e. drives_on day pool e j js) o false) (sym next)

  pull_out_dead : (t : TheTrip) (o : Option ℕ) (out : ℕ) → pull_out_over t o ≡ Some out → o ≡ Some out
  pull_out_dead t o out e =
      let (moved, is, left) = and_then_some (λ (m : ℕ). option_and_then (λ (n : ℕ). Some m) (seconds (t.begin.0 -ℤ pos m))) o out e in
      let (leaves, is_left, same) = and_then_some (λ (n : ℕ). Some moved) (seconds (t.begin.0 -ℤ pos moved)) out left in
      is ∙ same

  -- the pieces of legs
  tested : (o : Option (List Leg)) (l : Leg) →
      option_map_or (λ pieces. list_all may_be_driven pieces)
      (option_and_then (λ (legs : List Leg). Some (pieces_from 1 1 (parts day pool legs)))
      (option_and_then (λ (more : List Leg). Some (shown (l ∷ more))) o)) false ≡
      option_map_or (λ more. rest 0 (l ∷ more)) o false
  tested None l = refl
  tested (Some more) l = pieces_short 1 (parts day pool (shown (l ∷ more))) ∙ keep_all (parts day pool (shown (l ∷ more)))

  -- The main theorem of the file: a list of trips can be driven, in the sense of the rules, which cut a block's legs into pieces and
  -- ask of each that its driving is at most four and a half hours, exactly where the walk over its trips, which carries one number
  -- along, never exceeds the limit. By it labels need no legs: the driving since the last cut is all that they keep of a list. The
  -- rules' definition is the one that the contracts promise, the walk is the one that the code computes.
  pub driven_is : (list : List ℕ) → can_be_driven day pool list ≡ drives day pool list
  driven_is [] = refl
  driven_is (k ∷ ks) =
      let test : Option (List Leg) → Bool =
      λ legs. option_map_or (λ pieces. list_all may_be_driven pieces)
      (option_and_then (λ (ls : List Leg). Some (pieces_from 1 1 (parts day pool ls))) legs) false in
      let legs : TheTrip → ℕ → Option (List Leg) =
      λ t out. option_and_then
      (λ (more : List Leg). Some (shown (leg PullOut None pool.depot (t.begin.0 -ℤ pos out) t.from t.begin.0 ∷ more)))
      (legs_from day pool k t ks) in
      let Goal : Option TheTrip → Type 0 = λ o. slice_get day.trips k ≡ o →
      test (option_and_then (λ (t : TheTrip). option_and_then (λ (out : ℕ). legs t out) (pull_out day pool t)) o) ≡
      option_map_or (λ e. drives_on day pool e k ks)
      (option_and_then (λ (t : TheTrip). option_and_then (λ (out : ℕ). kept (out + trip_seconds t)) (pull_out day pool t)) o) false in
      let split : (o : Option TheTrip) → Goal o = λ o. elim o as Goal [
        | None ↦ λ none. refl
        | Some t ↦ λ there.
            let Out : Option ℕ → Type 0 = λ o. pull_out day pool t ≡ o →
            test (option_and_then (λ (out : ℕ). legs t out) o)
            ≡ option_map_or (λ e. drives_on day pool e k ks) (option_and_then (λ (out : ℕ). kept (out + trip_seconds t)) o) false in
            let outs : (o : Option ℕ) → Out o = λ o. elim o as Out [
              | None ↦ λ none. refl
              | Some out ↦ λ is.
                  let l : Leg = leg PullOut None pool.depot (t.begin.0 -ℤ pos out) t.from t.begin.0 in
                  let is_dead = pull_out_dead t (dead day pool.depot t.from) out is in
                  let Legs : Option (List Leg) → Type 0 = λ o. option_map_or (λ more. rest 0 (l ∷ more)) o false ≡ rest_of out o in
                  let sum : 0 + out ≡ out = omega arith in
                  let begin : (o : Option (List Leg)) → Legs o = λ o. elim o as Legs [
                    | None ↦ refl
                    | Some more ↦ driven 0 PullOut pool.depot t.from (t.begin.0 -ℤ pos out) t.begin.0 out more refl refl
                        (omega (arith, ints)) (λ same. no_dead pool.depot t.from out is_dead same) ∙ ap (λ n. rest n more) sum
                  ] in
                  tested (legs_from day pool k t ks) l ∙ begin (legs_from day pool k t ks) ∙ driven_from ks out k t there
                  ∙ sym (map_given (λ e. drives_on day pool e k ks) (nat_le (out + trip_seconds t) longest_driving) (out + trip_seconds t))
            ] in
            outs (pull_out day pool t) refl
      ] in split (slice_get day.trips k) refl
