-- The class prices of a day that is planned by fixed rounds have 64 bits.
use Rattle.std.proofs.Common.{◌≡◌, ⊎_elim, ℕ, ℤ, pos, negsuc, neg_ℤ, zero, suc, ◌+◌, ◌-◌, ◌*◌, ◌<◌, ◌≤◌, ◌≤ℤ◌, ◌+ℤ◌, ◌-ℤ◌, ◌*ℤ◌, ◌++◌, ◌⊎◌, inl, inr, Bool, true, false, cond, nat_lt, List, [], ◌∷◌, length, map, Option, Some, None, IfSome, slice_get, sym, subst, arith}
use Rattle.std.specs.Prelude.{option_and_then}
use Rattle.std.proofs.lemmas.Int.{ints}
use Rattle.std.specs.List.{AllByRecursion, range_with_len}
use Rattle.std.specs.Option.{option_map}
use Rattle.plan_core.specs.declared.Price.{Price}
use Rattle.plan_core.specs.declared.types.Point.{Point}
use Rattle.vdv451_text.proofs.RightLines.{some_mapped}
use Rattle.vdv452_tables.specs.Ranges.{IsTime}
use Rattle.cover_core.specs.declared.Column.{Column}
use Rattle.cover_core.specs.Best.{best_of}
use Rattle.cover_core.specs.Cover.{Problem, Rises, AllBelow}
use Rattle.cover_core.specs.FirstLeast.{AllWithin, class_price_of, class_prices_of, value}
use Rattle.cover_core.specs.Plans.{HasListedColumns, price_at, price_of}
use Rattle.cover_core.proofs.Best.{best_is_first_least}
use Rattle.dual_bound.specs.declared.kept.Kept.{Kept}
use Rattle.worker_price.specs.Priced.{groups_of, least_of}
use Rattle.worker_price.proofs.Limits.{least_over}
use Rattle.price_rounds.specs.Rounds.{IsFirstGreatest, after_lowering, after_rounds, all_offers, lowering_offers, offer_at, round_offers}
use Rattle.cover_plan.specs.declared.known.KnownPlan.{KnownPlan}
use Rattle.cover_plan.specs.Endings.{EndsBy, IsFirstKept, IsKeptBy, IsMadeBy, Numbers, planned}
use Rattle.trip_times.specs.declared.trip.Trip.{Trip}
use Rattle.plan_params.specs.declared.rows.pool.Pool.{Pool}
use Rattle.plan_params.specs.Limits.{IsPool}
use Rattle.day_model.specs.declared.link.Link.{Link}
use Rattle.day_model.specs.Facts.{DayFacts, admits, dead}
use Rattle.day_model.specs.Blocks.{link_cost}
use Rattle.day_model.specs.Links.{given, link, pull_in, pull_out, seconds}
use Rattle.depot_network.specs.Walk.{added, begun, ended}
use Rattle.block_cut.proofs.Times.{and_then_some, given_some, some_same}
use Rattle.path_cover.specs.Greatest.{AreGreatest, depth}
use Rattle.path_cover.specs.Nets.{IsCover, IsDear}
use Rattle.path_cover.specs.Potentials.{ArePricesOf, Potentials}
use Rattle.path_cover.proofs.Firsts.{greatest_are_high}
use Rattle.one_pool_flow.specs.DayLaws.{day_rising}
use Rattle.one_pool_flow.specs.DayNets.{net_of}
use Rattle.one_pool_flow.specs.Paths.{IsFlowPlan}
use Rattle.one_pool_flow.proofs.Bridge.{plans_are_covers}
use Rattle.plan_command.specs.Flow.{AreKnownBlocks}
use Rattle.accepted_texts.proofs.LegNumbers.{IsFitTrip, at_each, both_each, link_cheap, link_short, move_short, pull_cheap}
use Rattle.accepted_texts.proofs.PlanNumbers.{IsMiddle}

-- A list that rises costs at most 3 * 10^15 for each item that it may have, so no least value is below -9 * 10^18, which has 64 bits.
zero_low : (n : ℕ) → pos 0 ≤ℤ pos n
zero_low n = omega (arith, ints)

price_at_high : (n : ℕ) (prices : List Price) (i : ℕ) → AllWithin n prices → price_at prices i ≤ℤ pos n
price_at_high n [] i h = zero_low n
price_at_high n (x ∷ xs) zero h = h.1
price_at_high n (x ∷ xs) (suc i) h = price_at_high n xs i h.2

-- the first item, if there is one, is at least a
abbrev From : ℕ → List ℕ → Type 0
From a [] = Unit {0}
From a (x ∷ xs) = a ≤ x

rises_from : (x : ℕ) (xs : List ℕ) → Rises (x ∷ xs) → Rises xs × From (x + 1) xs
rises_from x [] h = (tt, tt)
rises_from x (y ∷ ys) h = (h.1, (let l = h.0 in omega (arith, l)))

add_high : (a b : ℤ) (n x k : ℕ) → a ≤ℤ pos 3000000000000000 → b ≤ℤ pos (3000000000000000 * (n - (x + 1))) → k ≤ x → x < n →
    (a +ℤ b) ≤ℤ pos (3000000000000000 * (n - k))
add_high a b n x k h l low high = omega (arith, ints, h, l, low, high)

-- Induction over a rising list with its least possible first item k left free: behind an item x the others are at least x + 1, so what
-- is paid is no more than the price of the items from k to n, each once. With k = 0 the list costs at most n prices, whatever list it
-- is.
price_high : (prices : List Price) (n k : ℕ) (xs : List ℕ) → AllWithin 3000000000000000 prices → Rises xs → AllBelow n xs → From k xs →
    price_of prices xs ≤ℤ pos (3000000000000000 * (n - k))
price_high prices n k [] within rises below from = zero_low (3000000000000000 * (n - k))
price_high prices n k (x ∷ xs) within rises below from =
    let r = rises_from x xs rises in
    add_high (price_at prices x) (price_of prices xs) n x k (price_at_high 3000000000000000 prices x within)
    (price_high prices n (x + 1) xs within r.0 below.1 r.1) from below.0

from_none : (xs : List ℕ) → From 0 xs
from_none [] = tt
from_none (x ∷ xs) = omega arith

low_where : (worth n : ℕ) (z : ℤ) → n ≤ 3000 → z ≤ℤ pos (3000000000000000 * (n - 0)) →
    neg_ℤ (pos 9000000000000000000) ≤ℤ (pos (1000 * worth) -ℤ z)
low_where worth n z few high = omega (arith, ints, few, high)

below_zero : neg_ℤ (pos 9000000000000000000) ≤ℤ pos 0
below_zero = omega (arith, ints)

price_middle : (z : ℤ) → neg_ℤ (pos 9000000000000000000) ≤ℤ z → IsMiddle (class_price_of z)
price_middle (pos n) low = (omega (arith, ints), omega (arith, ints))
price_middle (negsuc n) low = (omega (arith, ints), omega (arith, ints, low))

-- Fixed rounds keep an offer: prices, with class prices that are minus the least values under them. The prices that a plan keeps are at
-- most 3 * 10^15 in size, so whatever prices were offered, the class prices are at most 9 * 10^18. This does not follow from the offer
-- being paid: a class without places might have any price then.
abbrev IsOffered : Problem → Kept → Type 0
IsOffered p kept = (prices : List Price) × (kept ≡ offer_at p prices)

map_each : {A B : Type 0} (P : B → Type 0) (f : A → B) → ((x : A) → P (f x)) → (xs : List A) → AllByRecursion P (map f xs)
map_each P f each [] = tt
map_each P f each (x ∷ xs) = (each x, map_each P f each xs)

middle_each : {A : Type 0} (P : A → Type 0) (before after : List A) (x : A) → AllByRecursion P (before ++ x ∷ after) → P x
middle_each P [] after x all = all.0
middle_each P (y ∷ before) after x all = middle_each P before after x all.1

module _ (p : Problem) (listed : HasListedColumns p) (few : p.items ≤ 3000) where
  -- A least value is 0 or is reached by a column, the first least of its group, whose value is a worth less the prices of a rising
  -- list; the worth is not negative and the prices are few (`price_high`). So the argument is about one column and needs no search
  -- through all.
  least_low : (prices : List Price) (class : ℕ) → AllWithin 3000000000000000 prices → class < length p.caps →
      neg_ℤ (pos 9000000000000000000) ≤ℤ least_of p prices class
  least_low prices class within below =
      ⊎_elim (λ (z : least_of p prices class ≡ pos 0). subst (λ (l : ℤ). neg_ℤ (pos 9000000000000000000) ≤ℤ l) (sym z) below_zero)
      (λ (r : (g : ℕ) × (c : Column) × (g < groups_of p.items) × (best_of p prices class g ≡ Some c)
      × (value prices c ≡ least_of p prices class)).
      let first = (best_is_first_least p listed prices class r.0 below).is_first_least r.1 r.3 in
      let law = listed r.1.class r.1.items r.1.worth first.listed.1 in
      subst (λ (l : ℤ). neg_ℤ (pos 9000000000000000000) ≤ℤ l) r.4
      (low_where r.1.worth p.items (price_of prices r.1.items) few
      (price_high prices p.items 0 r.1.items within law.1 law.2 (from_none r.1.items))))
      (least_over prices (best_of p prices class) (groups_of p.items)).reached

  classes_middle : (prices : List Price) (a n : ℕ) → AllWithin 3000000000000000 prices → a + n ≤ length p.caps →
      AllByRecursion IsMiddle (class_prices_of (map (least_of p prices) (range_with_len a n)))
  classes_middle prices a zero within low = tt
  classes_middle prices a (suc n) within low = (
    price_middle (least_of p prices a) (least_low prices a within (omega (arith, low))),
    classes_middle prices (a + 1) n within (omega (arith, low)),
  )

  offered_middle : (kept : Kept) → IsOffered p kept → AllWithin 3000000000000000 kept.prices.items →
      AllByRecursion IsMiddle kept.class_prices
  offered_middle kept offered within =
      let P : Kept → Type 0 = λ k. AllWithin 3000000000000000 k.prices.items → AllByRecursion IsMiddle k.class_prices in
      let made : P (offer_at p offered.0) = λ w. classes_middle offered.0 0 (length p.caps) w (omega arith) in
      subst P (sym offered.1) made within

  -- The offer that is kept is one of those of all rounds, the first of the greatest bound, and each of these is made by `offer_at`
  -- from some prices. So which round it was does not matter.
  is_offered : (rounds lower : ℕ) (kept : Kept) → IsFirstGreatest (all_offers p rounds lower) kept → IsOffered p kept
  is_offered rounds lower kept greatest =
      let all : AllByRecursion (IsOffered p) (all_offers p rounds lower) =
      both_each (IsOffered p) (round_offers p rounds) (lowering_offers p rounds (lower + 1))
      (map_each (IsOffered p) (λ n. offer_at p (after_rounds p n).prices)
      (λ n. ((after_rounds p n).prices, λ i. offer_at p (after_rounds p n).prices)) (range_with_len 0 rounds))
      (map_each (IsOffered p) (λ n. offer_at p (after_lowering p rounds n))
      (λ n. (after_lowering p rounds n, λ i. offer_at p (after_lowering p rounds n))) (range_with_len 0 (lower + 1))) in
      middle_each (IsOffered p) greatest.before greatest.after kept (subst (AllByRecursion (IsOffered p)) greatest.all all)

  pub first_middle : (numbers : Numbers) (kept : Kept) → IsFirstKept p numbers kept → AllWithin 3000000000000000 kept.prices.items →
      AllByRecursion IsMiddle kept.class_prices
  first_middle numbers kept first within = offered_middle kept (is_offered numbers.rounds numbers.lower kept first) within

-- what fixed rounds keep in the two passes of a side: the first offers of the greatest bounds, or the offer of a plan that is known
module _ (counted costed : Problem) (numbers : Numbers) (fixed : numbers.climb ≡ false) (count cost : Kept) (columns : List Column) where
  pub count_first : (known : Option KnownPlan) → EndsBy counted costed numbers known (planned count cost columns) →
      IsFirstKept counted numbers count
  count_first None ends = let P : Bool → Type 0 = λ b. IsKeptBy b counted numbers count in subst P fixed ends.counts.kept
  count_first (Some known) ends = let P : Bool → Type 0 = λ b. IsKeptBy b counted numbers count in subst P fixed ends.0.kept

  pub cost_first : (known : Option KnownPlan) → EndsBy counted costed numbers known (planned count cost columns) →
      IsFirstKept costed numbers cost ⊎ ((plan : KnownPlan) × (known ≡ Some plan) × (cost ≡ plan.cost))
  cost_first None ends =
      let P : Bool → Type 0 = λ b. IsMadeBy b costed numbers cost columns in
      let made : IsMadeBy false costed numbers cost columns = subst P fixed ends.made in
      inl made.kept
  cost_first (Some known) ends = inr (known, (λ i. Some known), ends.1)

-- The class price of a flow is a thousand times how far two potentials are apart, and the greatest ones are few costs of arcs below 0.
depth_low : (z : ℤ) (n : ℕ) → depth z ≤ n → neg_ℤ (pos n) ≤ℤ z
depth_low (pos m) n h = omega (arith, ints)
depth_low (negsuc m) n h = omega (arith, ints, h)

apart_middle : (a b class_price : ℤ) (n : ℕ) → n ≤ 300000000000000 → neg_ℤ (pos n) ≤ℤ a → a ≤ℤ pos 0 → neg_ℤ (pos n) ≤ℤ b → b ≤ℤ pos 0 →
    class_price ≡ pos 1000 *ℤ (a -ℤ b) → IsMiddle class_price
apart_middle a b class_price n few al ah bl bh is =
    (omega (arith, ints, few, al, ah, bl, bh, is), omega (arith, ints, few, al, ah, bl, bh, is))

-- The plan of the flow is known without rounds. Its class price comes from the greatest potentials of the day's network, and these are
-- above minus the cost of one arc for each potential; no arc costs more than 20,000,000,000.
module _ (day : DayFacts) (trips : AllByRecursion IsFitTrip day.trips) (short : (from to : Point) → IfSome (dead day from to) IsTime)
    (pool : Pool) (is : IsPool pool) where
  added_cheap : (t u c : ℕ) → added day pool t u ≡ Some c → c ≤ 20000000000
  added_cheap t u c e =
      let cost : Trip → Trip → Option ℕ =
      λ trip next. given (nat_lt t u)
      (given (admits day next.line pool.typ) (option_map (λ l. link_cost pool next l) (link day pool trip next))) in
      let first = and_then_some (λ (trip : Trip). option_and_then (λ (next : Trip). cost trip next) (slice_get day.trips u))
      (slice_get day.trips t) c e in
      let second = and_then_some (λ (next : Trip). cost first.0 next) (slice_get day.trips u) c first.2 in
      let later = given_some (nat_lt t u)
      (given (admits day second.0.line pool.typ) (option_map (λ l. link_cost pool second.0 l) (link day pool first.0 second.0)))
      c second.2 in
      let made = given_some (admits day second.0.line pool.typ)
      (option_map (λ l. link_cost pool second.0 l) (link day pool first.0 second.0)) c later in
      let linked = some_mapped (λ (l : Link). link_cost pool second.0 l) (link day pool first.0 second.0) c made in
      let times = link_short day trips short pool first.0 second.0 linked.0 (at_each IsFitTrip day.trips t first.0 trips first.1)
      (at_each IsFitTrip day.trips u second.0 trips second.1) linked.1 in
      let cheap = link_cheap day trips short pool is second.0 linked.0 times in
      let same : link_cost pool second.0 linked.0 ≡ c = linked.2 in
      omega (arith, cheap, same)

  ended_cheap : (t c : ℕ) → ended day pool t ≡ Some c → c ≤ 20000000000
  ended_cheap t c e =
      let first = and_then_some (λ (trip : Trip). option_map (λ inward. pool.dead_rate * inward) (pull_in day pool trip))
      (slice_get day.trips t) c e in
      let made = some_mapped (λ (inward : ℕ). pool.dead_rate * inward) (pull_in day pool first.0) c first.2 in
      let cheap = pull_cheap day trips short pool is made.0 (move_short day trips short first.0.to pool.depot made.0 made.1) in
      let same : pool.dead_rate * made.0 ≡ c = made.2 in
      omega (arith, cheap, same)

  begun_cheap : (t c : ℕ) → begun day pool t ≡ Some c → c ≤ 20000000000
  begun_cheap t c e =
      let cost : Trip → Option ℕ = λ trip. option_map (λ out. pool.fixed + pool.dead_rate * out) (pull_out day pool trip) in
      let first = and_then_some (λ (trip : Trip). given (admits day trip.line pool.typ) (cost trip)) (slice_get day.trips t) c e in
      let given = given_some (admits day first.0.line pool.typ) (cost first.0) c first.2 in
      let made = some_mapped (λ (out : ℕ). pool.fixed + pool.dead_rate * out) (pull_out day pool first.0) c given in
      let away = and_then_some (λ (out : ℕ). option_and_then (λ (at : ℕ). Some out) (seconds (first.0.begin.0 -ℤ pos out)))
      (dead day pool.depot first.0.from) made.0 made.1 in
      let left = and_then_some (λ (at : ℕ). Some away.0) (seconds (first.0.begin.0 -ℤ pos away.0)) made.0 away.2 in
      let out : away.0 ≡ made.0 = some_same away.0 made.0 left.2 in
      let cheap = pull_cheap day trips short pool is made.0
      (subst IsTime out (move_short day trips short pool.depot first.0.from away.0 away.1)) in
      let fixed = is.fixed in
      let same : pool.fixed + pool.dead_rate * made.0 ≡ c = made.2 in
      omega (arith, cheap, fixed, same)

  arcs_cheap : IsDear (net_of day pool) 20000000000
  arcs_cheap x v c x_in v_in e = by (nat_lt x (length day.trips)) (nat_lt v (length day.trips)) e
    where
      by : (a b : Bool) → cond a (cond b (added day pool x v) (ended day pool x)) (cond b (begun day pool v) (Some 0)) ≡ Some c →
          c ≤ 20000000000
      by true true e = added_cheap x v c e
      by true false e = ended_cheap x c e
      by false true e = begun_cheap v c e
      by false false e = let same : 0 ≡ c = some_same 0 c e in omega (arith, same)

  -- Greatest potentials are at most 0 and lie below it by no more than 2 n + 3 times the dearest arc (`greatest_are_high`), which
  -- costs at most 2 * 10^10 (`arcs_cheap`). The class price is a thousand times the difference of two of them, so it has 64 bits.
  flow_middle : length day.trips ≤ 3000 → day.params.pools ≡ pool ∷ [] → (lists : List (List ℕ)) → IsFlowPlan day lists → (p : Potentials) →
      AreGreatest (net_of day pool) lists p → (prices : List Price) (class_price : ℤ) → ArePricesOf (net_of day pool) p prices class_price →
      IsMiddle class_price
  flow_middle few one lists plan p greatest prices class_price are =
      let n = length day.trips in
      let cover : IsCover (net_of day pool) lists = (plans_are_covers day pool one lists).0 plan.plan in
      let above = greatest_are_high (net_of day pool) (day_rising day pool) 20000000000 arcs_cheap lists cover p greatest n (omega arith) in
      let level : ℕ = (2 * n + 3) * 20000000000 in
      apart_middle (p.tail n) (p.head n) class_price level (omega (arith, few)) (depth_low (p.tail n) level above.0)
      (greatest.numbers.tails n (omega arith))
      (depth_low (p.head n) level above.1) (greatest.numbers.heads n (omega arith)) are.of_class

pub known_middle : (day : DayFacts) → AllByRecursion IsFitTrip day.trips → ((from to : Point) → IfSome (dead day from to) IsTime) →
    AllByRecursion IsPool day.params.pools → length day.trips ≤ 3000 → (flow : Bool) (known : KnownPlan) →
    AreKnownBlocks day flow (Some known) →
    AllByRecursion IsMiddle known.cost.class_prices
known_middle day trips short pools few false known is = absurd (let bad : Some known ≡ None = is in cc)
known_middle day trips short pools few true known (paths, is) =
    let (pool, one, p, greatest, are) = is.prices in
    let pool_is : IsPool pool = (subst (AllByRecursion IsPool) one pools).0 in
    let price : IsMiddle is.class_price =
    flow_middle day trips short pool pool_is few one paths is.plan p greatest known.cost.prices.items is.class_price are in
    subst (AllByRecursion IsMiddle) (sym is.class_prices) (price, tt)
