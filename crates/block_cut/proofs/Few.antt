-- A block has fewer stands than trips, and no more trips than the day.
use Rattle.std.proofs.Common.{◌≡◌, ℕ, ℤ, pos, suc, zero, ◌+◌, ◌*ℤ◌, ◌<◌, ◌≤◌, ◌&&◌, ◌-ℤ◌, ◌+ℤ◌, Bool, true, false, cond, List, [], ◌∷◌, ◌++◌, length, Option, Some, None, refl, sym, ap, subst, ◌∙◌, arith, slice_get, length-append, nat_le, nat_lt, is_some}
use Rattle.std.specs.Prelude.{option_and_then, unwrap_or}
use Rattle.std.proofs.lemmas.Bool.Decides.{nat_tests}
use Rattle.std.proofs.lemmas.Bool.{and_parts}
use Rattle.std.proofs.lemmas.Option.{slice_get-get_or, slice_get_within, same_Some}
use Rattle.plan_core.specs.declared.types.Leg.{Leg}
use Rattle.plan_core.specs.declared.types.LegKind.TheVariants.{PullIn, PullOut}
use Rattle.plan_core.specs.declared.types.Piece.{Piece}
use Rattle.plan_core.proofs.Options.{and_then_some, given_some}
use Rattle.cover_core.specs.Cover.{AllBelow, Problem}
use Rattle.cover_core.specs.Plans.{HasListedColumns, IsPlan, all_items, times}
use Rattle.cover_core.proofs.Duality.{all_items-below}
use Rattle.cover_core.proofs.Sums.{sum_each, sum_each-times, sum_first, sum_first-same}
use Rattle.std.proofs.lemmas.Int.{ints}
use Rattle.cover_core.specs.declared.Column.{Column}
use Rattle.trip_times.specs.declared.trip.Trip.{Trip as TheTrip}
use Rattle.plan_params.specs.declared.rows.pool.Pool.{Pool}
use Rattle.day_model.specs.declared.link.Link.{Link}
use Rattle.day_model.specs.declared.link.Link.TheVariants.{Direct, Depot}
use Rattle.day_model.specs.Blocks.{block_cost, block_worth, rises, trips_at}
use Rattle.day_model.specs.Facts.{DayFacts}
use Rattle.day_model.specs.Links.{given, link, pull_in, pull_out, with_pool}
use Rattle.day_model.specs.Pieces.{can_be_driven, duration, is_cut, is_shown, is_stand, leg, legs_from, legs_of, link_legs, parts, pieces_from, pieces_of, shown, trip_leg}
use Rattle.block_cut.specs.Cuts.{block_pieces, cut_on, ended, grown, next_index, pieces_by_block, stands}
use Rattle.block_cut.proofs.LegLists.{pool_at, some_from, trips_below}
use Rattle.block_cut.proofs.Pieces.{cut_whole}

stands_if : (b : Bool) (l : Leg) (xs : List Leg) (n : ℕ) → stands xs ≤ n → stands (cond b (l ∷ xs) xs) ≤ cond (is_stand l.kind) 1 0 + n
stands_if true l xs n few = omega (arith, few)
stands_if false l xs n few = omega (arith, few)

stands_shown : (ls : List Leg) → stands (shown ls) ≤ stands ls
stands_shown [] = omega arith
stands_shown (l ∷ ls) = stands_if (is_shown l) l (shown ls) (stands ls) (stands_shown ls)

stands_append : (xs ys : List Leg) → stands (xs ++ ys) ≡ stands xs + stands ys
stands_append [] ys = omega arith
stands_append (l ∷ xs) ys = omega (arith, stands_append xs ys)

link_stands : (pool : Pool) (t u : TheTrip) (l : Link) → stands (link_legs pool t u l) ≡ 1
link_stands pool t u (Direct move stand) = refl
link_stands pool t u (Depot inward outward stand) = refl

-- A block has at most one stand for each trip behind its first one: each connection has exactly one, direct or via the depot, and
-- trips, pulls and deadheads are none. So there are fewer stands than trips, and as a block's trips rise by number there are no more
-- of them than the day has. It bounds the index of a block's pieces.
from_stands : (day : DayFacts) (pool : Pool) (k : ℕ) (t : TheTrip) (js : List ℕ) (ls : List Leg) → legs_from day pool k t js ≡ Some ls →
    stands ls ≤ length js
from_stands day pool k t [] ls e =
    let found = and_then_some (λ (inward : ℕ). Some (trip_leg k t ∷ leg PullIn None t.to t.end.0 pool.depot (t.end.0 +ℤ pos inward) ∷ []))
    (pull_in day pool t) ls e in
    let n : stands ls ≡ 0 =
    sym (ap stands (same_Some (trip_leg k t ∷ leg PullIn None t.to t.end.0 pool.depot (t.end.0 +ℤ pos found.0) ∷ []) ls found.2)) in
    omega (arith, n)
from_stands day pool k t (j ∷ js) ls e =
    let second = and_then_some
    (λ (u : TheTrip). option_and_then
    (λ (l : Link). option_and_then (λ (rest : List Leg). Some ((trip_leg k t ∷ link_legs pool t u l) ++ rest)) (legs_from day pool j u js))
    (link day pool t u)) (slice_get day.trips j) ls e in
    let u : TheTrip = second.0 in
    let linked = and_then_some
    (λ (l : Link). option_and_then (λ (rest : List Leg). Some ((trip_leg k t ∷ link_legs pool t u l) ++ rest)) (legs_from day pool j u js))
    (link day pool t u) ls second.2 in
    let l : Link = linked.0 in
    let others = and_then_some (λ (rest : List Leg). Some ((trip_leg k t ∷ link_legs pool t u l) ++ rest))
    (legs_from day pool j u js) ls linked.2 in
    let later = from_stands day pool j u js others.0 others.1 in
    let all : stands ((trip_leg k t ∷ link_legs pool t u l) ++ others.0) ≡ stands ls =
    ap stands (same_Some ((trip_leg k t ∷ link_legs pool t u l) ++ others.0) ls others.2) in
    let both : stands (link_legs pool t u l ++ others.0) ≡ stands (link_legs pool t u l) + stands others.0 =
    stands_append (link_legs pool t u l) others.0 in
    omega (arith, all, both, link_stands pool t u l, later)

-- the pull-out and the legs after it
abbrev out_legs : Pool → TheTrip → ℕ → List Leg → List Leg
out_legs pool t out rest = shown (leg PullOut None pool.depot (t.begin.0 -ℤ pos out) t.from t.begin.0 ∷ rest)

out_stands : (pool : Pool) (t : TheTrip) (out : ℕ) (rest : List Leg) → stands (out_legs pool t out rest) ≤ stands rest
out_stands pool t out rest =
    let few : stands (out_legs pool t out rest) ≤ 0 + stands rest =
    stands_shown (leg PullOut None pool.depot (t.begin.0 -ℤ pos out) t.from t.begin.0 ∷ rest) in
    omega (arith, few)

with_out : (day : DayFacts) (pool : Pool) (k : ℕ) (ks : List ℕ) (t : TheTrip) (legs : List Leg) →
    option_and_then (λ (out : ℕ). option_and_then (λ (rest : List Leg). Some (out_legs pool t out rest)) (legs_from day pool k t ks))
    (pull_out day pool t) ≡ Some legs →
    stands legs + 1 ≤ length (k ∷ ks)
with_out day pool k ks t legs e =
    let out = and_then_some
    (λ (out : ℕ). option_and_then (λ (rest : List Leg). Some (out_legs pool t out rest)) (legs_from day pool k t ks))
    (pull_out day pool t) legs e in
    let rest = and_then_some (λ (rest : List Leg). Some (out_legs pool t out.0 rest)) (legs_from day pool k t ks) legs out.2 in
    let all : stands (out_legs pool t out.0 rest.0) ≡ stands legs = ap stands (same_Some (out_legs pool t out.0 rest.0) legs rest.2) in
    omega (arith, all, out_stands pool t out.0 rest.0, from_stands day pool k t ks rest.0 rest.1)

of_stands : (day : DayFacts) (pool : Pool) (list : List ℕ) (legs : List Leg) → legs_of day pool list ≡ Some legs →
    stands legs + 1 ≤ length list
of_stands day pool [] legs e = absurd (cc)
of_stands day pool (k ∷ ks) legs e =
    let first = and_then_some
    (λ (t : TheTrip). option_and_then
    (λ (out : ℕ). option_and_then (λ (rest : List Leg). Some (out_legs pool t out rest)) (legs_from day pool k t ks)) (pull_out day pool t))
    (slice_get day.trips k) legs e in
    with_out day pool k ks first.0 legs first.2

-- a block has fewer stands than trips
pub block_stands : (day : DayFacts) (class : ℕ) (list : List ℕ) (legs : List Leg) →
    with_pool day class (λ pool. legs_of day pool list) ≡ Some legs → stands legs + 1 ≤ length list
block_stands day class list legs e =
    let pooled = and_then_some (λ (pool : Pool). legs_of day pool list) (slice_get day.params.pools class) legs e in
    of_stands day pooled.0 list legs pooled.2

risen : (n x : ℕ) (xs : List ℕ) → rises (x ∷ xs) ≡ true → AllBelow n (x ∷ xs) → x + length (x ∷ xs) ≤ n
risen n x [] up below = omega (arith, below.0)
risen n x (y ∷ xs) up below =
    let both = and_parts (nat_lt x y) (rises (y ∷ xs)) up in
    let less : nat_lt x y ≡ true = both.0 in
    let step : x < y = grind (arith, nat_tests) in
    omega (arith, step, risen n y xs both.1 below.1)

few_risen : (n : ℕ) (xs : List ℕ) → rises xs ≡ true → AllBelow n xs → length xs ≤ n
few_risen n [] up below = omega arith
few_risen n (x ∷ xs) up below = omega (arith, risen n x xs up below)

-- a block has no more trips than the day
pub block_trips : (day : DayFacts) (class : ℕ) (list : List ℕ) → is_some (block_worth day false class list) ≡ true →
    length list ≤ length day.trips
block_trips day class list some =
    let worth = some_from (block_worth day false class list) some in
    let tested = given_some (rises list)
    (option_and_then (λ (pool : Pool). given (can_be_driven day pool list)
    (option_and_then (λ (ts : List TheTrip). option_and_then (λ (c : ℕ). Some c) (block_cost day pool ts)) (trips_at day.trips list)))
    (slice_get day.params.pools class)) worth.0 worth.1 in
    let pooled = and_then_some
    (λ (pool : Pool). given (can_be_driven day pool list)
    (option_and_then (λ (ts : List TheTrip). option_and_then (λ (c : ℕ). Some c) (block_cost day pool ts)) (trips_at day.trips list)))
    (slice_get day.params.pools class) worth.0 tested.1 in
    let driven = given_some (can_be_driven day pooled.0 list)
    (option_and_then (λ (ts : List TheTrip). option_and_then (λ (c : ℕ). Some c) (block_cost day pooled.0 ts)) (trips_at day.trips list))
    worth.0 pooled.2 in
    let found = and_then_some (λ (ts : List TheTrip). option_and_then (λ (c : ℕ). Some c) (block_cost day pooled.0 ts))
    (trips_at day.trips list) worth.0 driven.1 in
    few_risen (length day.trips) list tested.0 (trips_below day.trips list found.0 found.1)

pub few_stands : (day : DayFacts) (class : ℕ) (list : List ℕ) (legs : List Leg) → is_some (block_worth day false class list) ≡ true →
    with_pool day class (λ pool. legs_of day pool list) ≡ Some legs → length day.trips ≤ 3000 → stands legs ≤ 3000
few_stands day class list legs some e few = omega (arith, block_stands day class list legs e, block_trips day class list some, few)

pub pool_of_legs : (day : DayFacts) (class : ℕ) (list : List ℕ) (legs : List Leg) (pools : List Pool) →
    with_pool day class (λ pool. legs_of day pool list) ≡ Some legs → pools ≡ day.params.pools →
    slice_get day.params.pools class ≡ Some (pool_at pools class)
pool_of_legs day class list legs pools e same =
    let pooled = and_then_some (λ (pool : Pool). legs_of day pool list) (slice_get day.params.pools class) legs e in
    let P : List Pool → Type 0 = λ pools. slice_get day.params.pools class ≡ Some (pool_at pools class) in
    subst P (sym same) (slice_get-get_or day.params.pools class _ (slice_get_within day.params.pools class pooled.0 pooled.1))

-- the pieces of a block's legs are its pieces
pub pieces_are : (day : DayFacts) (number : ℕ) (column : Column) (pool : Pool) (legs : List Leg) →
    slice_get day.params.pools column.class ≡ Some pool → with_pool day column.class (λ pool. legs_of day pool column.items) ≡ Some legs →
    pieces_from number 1 (parts day pool legs) ≡ block_pieces day number column
pieces_are day number column pool legs there e =
    let here : with_pool day column.class (λ pool. legs_of day pool column.items) ≡ legs_of day pool column.items =
    ap (λ (o : Option Pool). option_and_then (λ (pool : Pool). legs_of day pool column.items) o) there in
    let made : legs_of day pool column.items ≡ Some legs = sym here ∙ e in
    sym (ap (λ (o : Option Pool). unwrap_or (option_and_then (λ (pool : Pool). pieces_of day pool number column.items) o) []) there
    ∙ ap (λ (o : Option (List Leg)). unwrap_or (option_and_then (λ (legs : List Leg). Some (pieces_from number 1 (parts day pool legs))) o)
    []) made)

-- Never more pieces than trips.
ended_few : (held : Option Piece) → length (ended held) ≤ 1
ended_few None = omega arith
ended_few (Some p) = omega arith

-- Cutting gives at most one piece more than there are stands, as only a stand can be a cut and each cut ends at most one piece. With
-- fewer stands than trips a block has no more pieces than trips (`block_few`), and so has a plan.
cut_few : (day : DayFacts) (pool : Pool) (block index : ℕ) (held : Option Piece) (legs : List Leg) →
    length (cut_on day pool block index held legs) ≤ stands legs + 1
cut_few day pool block index held [] = omega (arith, ended_few held)
cut_few day pool block index held (l ∷ ls) =
    by (is_cut day pool l) refl (cut_few day pool block (next_index index held) None ls)
    (cut_few day pool block index (Some (grown block index held l)) ls)
  where
    by : (b : Bool) → is_cut day pool l ≡ b → length (cut_on day pool block (next_index index held) None ls) ≤ stands ls + 1 →
        length (cut_on day pool block index (Some (grown block index held l)) ls) ≤ stands ls + 1 →
        length (cond b (ended held ++ cut_on day pool block (next_index index held) None ls)
        (cut_on day pool block index (Some (grown block index held l)) ls)) ≤ cond (is_stand l.kind) 1 0 + stands ls + 1
    by true e after on =
        let one : Bool → ℕ = λ b. cond b 1 0 in
        let stood : one (is_stand l.kind) ≡ one true =
        ap one (and_parts (is_stand l.kind) _ (and_parts (is_stand l.kind && nat_le day.params.settings.handover (duration l)) _ e).0).0 in
        let both : length (ended held ++ cut_on day pool block (next_index index held) None ls)
        ≡ length (ended held) + length (cut_on day pool block (next_index index held) None ls) =
        length-append (ended held) (cut_on day pool block (next_index index held) None ls) in
        omega (arith, stood, both, ended_few held, after)
    by false e after on = omega (arith, on)

block_few : (day : DayFacts) (number : ℕ) (column : Column) → length (block_pieces day number column) ≤ length column.items
block_few day number column = of_pool (slice_get day.params.pools column.class)
  where
    of_legs : (pool : Pool) (o : Option (List Leg)) → legs_of day pool column.items ≡ o →
        length (unwrap_or (option_and_then (λ (legs : List Leg). Some (pieces_from number 1 (parts day pool legs))) o) [])
        ≤ length column.items
    of_legs pool None e = omega arith
    of_legs pool (Some legs) e =
        let same : length (cut_on day pool number 1 None legs) ≡ length (pieces_from number 1 (parts day pool legs)) =
        ap length (cut_whole day pool number legs) in
        omega (arith, same, cut_few day pool number 1 None legs, of_stands day pool column.items legs e)

    of_pool : (o : Option Pool) →
        length (unwrap_or (option_and_then (λ (pool : Pool). pieces_of day pool number column.items) o) []) ≤ length column.items
    of_pool None = omega arith
    of_pool (Some pool) = of_legs pool (legs_of day pool column.items) refl

pub all_few : (day : DayFacts) (number : ℕ) (columns : List Column) →
    length (pieces_by_block day number columns) ≤ length (all_items columns)
all_few day number [] = omega arith
all_few day number (column ∷ columns) =
    let pieces : length (block_pieces day number column ++ pieces_by_block day (number + 1) columns)
    ≡ length (block_pieces day number column) + length (pieces_by_block day (number + 1) columns) =
    length-append (block_pieces day number column) (pieces_by_block day (number + 1) columns) in
    let items : length (column.items ++ all_items columns) ≡ length column.items + length (all_items columns) =
    length-append column.items (all_items columns) in
    omega (arith, pieces, items, block_few day number column, all_few day (number + 1) columns)

-- one for each
abbrev one_each : ℕ → ℤ
one_each i = pos 1

one_each_length : (xs : List ℕ) → sum_each one_each xs ≡ pos (length xs)
one_each_length [] = refl
one_each_length (x ∷ xs) = omega (arith, ints, one_each_length xs)

one_each_first : (n : ℕ) → sum_first one_each n ≡ pos n
one_each_first zero = refl
one_each_first (suc n) = omega (arith, ints, one_each_first n)

-- The columns of a plan have as many items, counted with repetition, as the problem has: each item stands once. The sum of ones over
-- all items that stand in columns is counted in two ways, along the columns and along the numbers. With `all_few` it gives the bound
-- of `cut` that a plan never has more pieces than trips.
pub plan_items : (p : Problem) (columns : List Column) → HasListedColumns p → IsPlan p columns → length (all_items columns) ≤ p.items
plan_items p columns listed plan =
    let below : AllBelow p.items (all_items columns) = all_items-below p columns listed plan.worths in
    let spread : sum_each one_each (all_items columns) ≡ sum_first (λ i. pos (times i (all_items columns)) *ℤ one_each i) p.items =
    sum_each-times one_each p.items (all_items columns) below in
    let once : sum_first (λ i. pos (times i (all_items columns)) *ℤ one_each i) p.items ≡ sum_first one_each p.items =
    sum_first-same _ _ _ (λ i h. let one : times i (all_items columns) ≡ 1 = plan.once i h in rw one (omega (arith, ints))) in
    omega (arith, ints, spread, once, one_each_length (all_items columns), one_each_first p.items)
