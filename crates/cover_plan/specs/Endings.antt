-- Promise: how planning ends, as it is defined: from a problem with each worth 1 and one with costs, and from numbers of rounds and
-- steps. There are two methods: that of fixed rounds is defined step by step, and ends in one way alone; climbing is told by what it
-- promises.
use Rattle.std.specs.Prelude.{◌≡◌, ℕ, ◌<◌, ◌≤◌, Bool, true, false, List, Option, Some, None, sum}
use Rattle.cover_core.specs.declared.Column.{Column}
use Rattle.cover_core.specs.Cover.{Problem}
use Rattle.cover_core.specs.Plans.{IsPlan}
use Rattle.dual_bound.specs.declared.kept.Kept.{Kept}
use Rattle.plan_round.specs.Rounding.{whole, left}
use Rattle.plan_round.specs.Faults.{RoundsTo}
use Rattle.plan_round.specs.Laws.{HasRoomForEach, IsStuck}
use Rattle.tail_exchange.specs.Exchange.{Leads, NoneLowers}
use Rattle.price_rounds.specs.declared.effort.Effort.{Effort}
use Rattle.cover_plan.specs.declared.known.KnownPlan.{KnownPlan}
use Rattle.price_rounds.specs.Rounds.{after_rounds, all_offers, IsFirstGreatest}
use Rattle.price_rounds.specs.Steps.{IsOffer}

-- how many price rounds, lowering rounds and exchange steps, and whether the method is climbing
pub record Numbers : Type 0 where
  pub rounds : ℕ
  pub lower : ℕ
  pub exchange : ℕ
  pub climb : Bool

-- what decides on a plan: all but the number of workers
abbrev pub numbers_of : Effort → Numbers
numbers_of effort = record { rounds = effort.rounds; lower = effort.lower; exchange = effort.exchange; climb = effort.climb }

-- the kept offer of a pass of fixed rounds: the first one of the greatest bound
abbrev pub IsFirstKept : Problem → Numbers → Kept → Type 0
IsFirstKept p numbers kept = IsFirstGreatest (all_offers p numbers.rounds numbers.lower) kept

-- the kept offer of a pass by either method: climbing keeps an offer of some prices in range
abbrev pub IsKeptBy : Bool → Problem → Numbers → Kept → Type 0
IsKeptBy false p numbers kept = IsFirstKept p numbers kept
IsKeptBy true p numbers kept = IsOffer p kept

abbrev pub IsKept : Problem → Numbers → Kept → Type 0
IsKept p numbers kept = IsKeptBy numbers.climb p numbers kept

-- as many exchange steps as are allowed, or fewer where then none lowers the cost
pub record IsImproved (p : Problem) (steps : ℕ) (old new : List Column) : Type 0 where
  pub made : ℕ
  pub few : made ≤ steps
  pub leads : Leads p made old new
  pub end : made < steps → NoneLowers p new

-- the kept offer of the pass with each worth 1, where its bound is not above the sum of all caps
pub record HasPlaces (counted : Problem) (numbers : Numbers) (count : Kept) : Type 0 where
  pub kept : IsKept counted numbers count
  pub places : count.bound ≤ sum counted.caps

-- a plan of fixed rounds: the pool of the pass with costs is rounded at its kept prices, and exchange steps are made
pub record IsRounded (costed : Problem) (numbers : Numbers) (cost : Kept) (columns : List Column) : Type 0 where
  pub kept : IsFirstKept costed numbers cost
  pub first : List Column
  pub rounds : RoundsTo costed cost.prices.items (after_rounds costed numbers.rounds).pool (whole first)
  pub improved : IsImproved costed numbers.exchange first columns

-- a plan by climbing: a plan, beside an offer
pub record IsClimbed (costed : Problem) (cost : Kept) (columns : List Column) : Type 0 where
  pub kept : IsOffer costed cost
  pub plan : IsPlan costed columns

-- a plan by either method
abbrev pub IsMadeBy : Bool → Problem → Numbers → Kept → List Column → Type 0
IsMadeBy false costed numbers cost columns = IsRounded costed numbers cost columns
IsMadeBy true costed numbers cost columns = IsClimbed costed cost columns

abbrev pub IsMade : Problem → Numbers → Kept → List Column → Type 0
IsMade costed numbers cost columns = IsMadeBy numbers.climb costed numbers cost columns

-- a plan, with the offers that were kept in both passes
pub record IsPlanned (counted costed : Problem) (numbers : Numbers) (count cost : Kept) (columns : List Column) : Type 0 where
  pub counts : HasPlaces counted numbers count
  pub made : IsMade costed numbers cost columns

-- no plan: the bound with each worth 1 is above the sum of all caps
pub record HasNoPlan (counted : Problem) (numbers : Numbers) (bound places : ℕ) : Type 0 where
  pub count : Kept
  pub kept : IsKept counted numbers count
  pub bound_is : bound ≡ count.bound
  pub places_are : places ≡ sum counted.caps
  pub above : places < bound

-- rounding of the pass with costs leaves an item beside these columns
pub record RoundingLeaves (costed : Problem) (numbers : Numbers) (item : ℕ) (partial : List Column) : Type 0 where
  pub cost : Kept
  pub kept : IsFirstKept costed numbers cost
  pub rounds : RoundsTo costed cost.prices.items (after_rounds costed numbers.rounds).pool (left item partial)

-- an item is left by either method: with climbing it has no place beside the columns, and not each item has room of its own
abbrev pub LeavesBy : Bool → Problem → Numbers → ℕ → List Column → Type 0
LeavesBy false costed numbers item partial = RoundingLeaves costed numbers item partial
LeavesBy true costed numbers item partial = IsStuck costed item partial × (¬ HasRoomForEach costed)

-- an item is left beside these columns
pub record LeavesItem (counted costed : Problem) (numbers : Numbers) (item : ℕ) (partial : List Column) : Type 0 where
  pub count : Kept
  pub counts : HasPlaces counted numbers count
  pub leaves : LeavesBy numbers.climb costed numbers item partial

-- a plan with the offers kept in both passes; or a bound and the places; or an item with the columns so far
pub data Ending : Type 0 where
  planned : Kept → Kept → List Column → Ending
  no_plan : ℕ → ℕ → Ending
  not_placed : ℕ → List Column → Ending

-- planning ends so
abbrev pub EndsAs : Problem → Problem → Numbers → Ending → Type 0
EndsAs counted costed numbers (planned count cost columns) = IsPlanned counted costed numbers count cost columns
EndsAs counted costed numbers (no_plan bound places) = HasNoPlan counted numbers bound places
EndsAs counted costed numbers (not_placed item partial) = LeavesItem counted costed numbers item partial

-- planning ends so where a plan is known: the first pass is made, and the known plan with its offer stands for the second one
abbrev pub EndsKnown : Problem → Numbers → KnownPlan → Ending → Type 0
EndsKnown counted numbers known (planned count cost columns) =
    HasPlaces counted numbers count × (cost ≡ known.cost) × (columns ≡ known.plan.columns)
EndsKnown counted numbers known (no_plan bound places) = HasNoPlan counted numbers bound places
EndsKnown counted numbers known (not_placed item partial) = ⊥

-- planning ends so, where a plan is known or none is
abbrev pub EndsBy : Problem → Problem → Numbers → Option KnownPlan → Ending → Type 0
EndsBy counted costed numbers None ending = EndsAs counted costed numbers ending
EndsBy counted costed numbers (Some known) ending = EndsKnown counted numbers known ending

-- planning by the method of fixed rounds ends in one way alone
abbrev pub EndsOnce : Problem → Problem → Type 0
EndsOnce counted costed =
    (numbers : Numbers) → numbers.climb ≡ false → (known : Option KnownPlan) (one other : Ending) →
    EndsBy counted costed numbers known one →
    EndsBy counted costed numbers known other → one ≡ other
