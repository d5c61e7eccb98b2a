-- From the day's network to the day.
use Rattle.std.proofs.Common.{◌≡◌, ℕ, ℤ, pos, neg_ℤ, ◌+ℤ◌, ◌-ℤ◌, ◌*ℤ◌, ◌≤ℤ◌, ◌*◌, ◌<◌, ◌≤◌, List, [], ◌∷◌, length, map, get_or, Some, zero, suc, sym, ap, ◌∙◌, arith}
use Rattle.std.proofs.lemmas.Int.{ints}
use Rattle.plan_core.specs.declared.Price.{Price}
use Rattle.plan_params.specs.declared.rows.pool.Pool.{Pool}
use Rattle.cover_core.specs.FirstLeast.{AllWithin}
use Rattle.cover_core.specs.Plans.{IsPaid, bound_of, number_at, price_at, price_of}
use Rattle.day_model.specs.Facts.{DayFacts}
use Rattle.path_cover.specs.declared.growth.Falls.{Falls}
use Rattle.path_cover.specs.Augmenting.{potentials_of}
use Rattle.path_cover.specs.Greatest.{AreGreatest}
use Rattle.path_cover.specs.Nets.{IsCover, IsFirstLeastCover}
use Rattle.path_cover.specs.Nets as nets
use Rattle.path_cover.specs.Potentials.{Potentials, ArePricesOf}
use Rattle.path_cover.specs.Searching.{AreLow}
use Rattle.path_cover.proofs.Slack.{feasible_is_paid, slack_is_bound}
use Rattle.one_pool_flow.specs.DayLaws.{day_rising}
use Rattle.one_pool_flow.specs.DayNets.{net_of}
use Rattle.one_pool_flow.specs.Flows.{AreFlowBound, AreModerate}
use Rattle.one_pool_flow.specs.Paths.{IsFlowPlan, IsPathPlan, path_cost, paths_of}
use Rattle.one_pool_flow.proofs.Bridge.{path_net, plans_are_covers}

-- The first cover of least cost in the day's network is the day's flow plan: plans and covers are the same lists at the same cost
-- (`plans_are_covers`), so "least" and "first among those of least cost" mean the same on both sides.
pub flow_plan : (day : DayFacts) (pool : Pool) → day.params.pools ≡ pool ∷ [] → (lists : List (List ℕ)) →
    IsFirstLeastCover (net_of day pool) lists → IsFlowPlan day lists
flow_plan day pool one lists is =
    let here = plans_are_covers day pool one lists in
    let cost_here = here.2 in
    record {
      plan = here.1 is.cover;
      least = λ others plan.
          let there = plans_are_covers day pool one others in
          let cost_there = there.2 in
          let low = is.least others (there.0 plan) in
          omega arith;
      first = λ others plan same.
          let there = plans_are_covers day pool one others in
          is.first others (there.0 plan) (sym there.2 ∙ (same ∙ here.2));
      ordered = is.ordered;
    }

pub no_plan : (day : DayFacts) (pool : Pool) → day.params.pools ≡ pool ∷ [] →
    ((lists : List (List ℕ)) → IsCover (net_of day pool) lists → ⊥) → (lists : List (List ℕ)) → IsPathPlan day lists → ⊥
no_plan day pool one none lists plan = none lists ((plans_are_covers day pool one lists).0 plan)

caps_one : (day : DayFacts) (pool : Pool) → day.params.pools ≡ pool ∷ [] → (paths_of day).caps ≡ pool.cap ∷ []
caps_one day pool one = ap (λ (pools : List Pool). map (λ (q : Pool). q.cap) pools) one

-- The prices of potentials prove that the plan costs least. The arcs of a path cost at least what the potentials rise along them,
-- and these rises together are the prices of its trips less the class price; so the prices are paid (`feasible_is_paid`). Where the
-- rises are just the costs, along the plan's paths and for the vehicles left in the store, the bound is the plan's cost
-- (`slack_is_bound`). A list costs on the day what it costs in the network, so both hold for the day.
pub flow_bound : (day : DayFacts) (pool : Pool) → day.params.pools ≡ pool ∷ [] →
    (lists : List (List ℕ)) (p : Potentials) (prices : List Price) (class_price : ℤ) → IsCover (net_of day pool) lists →
    AreGreatest (net_of day pool) lists p →
    ArePricesOf (net_of day pool) p prices class_price → AreFlowBound day lists prices class_price
flow_bound day pool one lists p prices class_price cover greatest prices_are =
    let net = net_of day pool in
    let rising = day_rising day pool in
    let caps = caps_one day pool one in
    let numbers = greatest.numbers in
    let paid : IsPaid (nets.paths net) prices (class_price ∷ []) =
    feasible_is_paid net rising p numbers.feasible prices class_price prices_are in
    let bound = slack_is_bound net rising p numbers.feasible prices class_price prices_are lists cover numbers.slack in
    record {
      paid = record {
        charged = λ class below. paid.charged class (let e = ap length caps in omega arith);
        covered = λ class list worth below has. covered paid class list worth (let e = ap length caps in omega arith) has;
      };
      bound = ap (bound_of prices (class_price ∷ [])) caps ∙ (bound ∙ sym (plans_are_covers day pool one lists).2);
    }
  where
    covered : IsPaid (nets.paths (net_of day pool)) prices (class_price ∷ []) → (class : ℕ) (list : List ℕ) (worth : ℕ) → class < 1 →
        path_cost day class list ≡ Some worth →
        price_of prices list ≤ℤ (pos (1000 * worth) +ℤ number_at (class_price ∷ []) class)
    covered paid zero list worth below has = paid.covered 0 list worth (omega arith) (sym (path_net day pool one list) ∙ has)
    covered paid (suc class) list worth below has = absurd (omega arith)

all_within : (most : ℕ) (prices : List Price) →
    ((t : ℕ) → t < length prices → (neg_ℤ (pos most) ≤ℤ price_at prices t) × (price_at prices t ≤ℤ pos most)) → AllWithin most prices
all_within most [] each = tt
all_within most (x ∷ xs) each =
    let first = each 0 (omega arith) in
    (first.0, first.1, all_within most xs (λ t below. each (suc t) (omega (arith, below))))

-- a thousand times how far potentials are apart
thousand_low : (a b : ℕ) (z : ℤ) → a ≤ 1500000000000 → z ≡ pos 1000 *ℤ ((pos 0 -ℤ pos a) -ℤ (pos 0 -ℤ pos b)) →
    neg_ℤ (pos 3000000000000000) ≤ℤ z
thousand_low a b z a_low is = omega (arith, ints)

thousand_high : (a b : ℕ) (z : ℤ) → b ≤ 1500000000000 → z ≡ pos 1000 *ℤ ((pos 0 -ℤ pos a) -ℤ (pos 0 -ℤ pos b)) → z ≤ℤ pos 3000000000000000
thousand_high a b z b_low is = omega (arith, ints)

-- prices of potentials that are not far below 0 are not large
pub flow_moderate : (day : DayFacts) (pool : Pool) (lists : List (List ℕ)) (falls : Falls) (prices : List Price) (class_price : ℤ) →
    AreGreatest (net_of day pool) lists (potentials_of falls) → AreLow falls 1500000000000 →
    ArePricesOf (net_of day pool) (potentials_of falls) prices class_price → AreModerate day prices class_price
flow_moderate day pool lists falls prices class_price greatest low are =
    let n = length day.trips in
    record {
      count = are.count;
      within = all_within 3000000000000000 prices (λ t below.
          let inside : t < n = omega (arith, below, are.count) in
          let price = are.each t inside in (
            thousand_low (get_or falls.heads.items t 0) (get_or falls.tails.items t 0) (price_at prices t) (low t).1 price,
            thousand_high (get_or falls.heads.items t 0) (get_or falls.tails.items t 0) (price_at prices t) (low t).0 price,
          ));
      charged =
          let stays = greatest.numbers.feasible n n 0 (omega arith) (omega arith) (day_rising day pool).stays in
          let price = are.of_class in
          omega (arith, ints);
      most = thousand_high (get_or falls.tails.items n 0) (get_or falls.heads.items n 0) class_price (low n).1 are.of_class;
    }
