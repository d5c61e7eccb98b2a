-- Promise: the blocks of a day as columns: trips are items, pools are classes.
use Rattle.std.specs.Prelude.{ℕ, Bool, true, false, List, length, map}
use Rattle.cover_core.specs.declared.Worth.{Worth as WorthKind}
use Rattle.cover_core.specs.declared.Worth.TheVariants.{Count, Cost}
use Rattle.cover_core.specs.Cover.{Problem}
use Rattle.plan_params.specs.declared.rows.pool.Pool.{Pool}
use Rattle.day_model.specs.Facts.{DayFacts}
use Rattle.day_model.specs.Blocks.{block_worth}

-- a day, and whether its blocks are counted
pub record NetFacts : Type 0 where
  pub day : DayFacts
  pub counts : Bool

-- each block is worth 1, or its cost
abbrev pub is_count : WorthKind → Bool
is_count Count = true
is_count Cost = false

-- a pool may have as many blocks as vehicles (ANZAHL)
abbrev pub caps_of : List Pool → List ℕ
caps_of pools = map (λ (pool : Pool). pool.cap) pools

-- the blocks of a day as a set partitioning problem
abbrev pub blocks_of : DayFacts → Bool → Problem
blocks_of day counts = record { items = length day.trips; caps = caps_of day.params.pools; worth = block_worth day counts }

abbrev pub blocks : NetFacts → Problem
blocks net = blocks_of net.day net.counts
