-- Promise: the rest of the blocks of a day.
use Rattle.std.specs.Prelude.{◌≡◌, ℕ, Bool, false, not, List, [], ◌∷◌, length}
use Rattle.cover_core.specs.Cover.{Problem}
use Rattle.day_model.specs.Facts.{DayFacts}
use Rattle.depot_network.specs.Network.{blocks_of}
use Rattle.cover_rest.specs.declared.begun.Begun.{Begun}
use Rattle.cover_rest.specs.Laws.{StandForAll}
use Rattle.cover_rest.specs.Rest.{bodies, rest_of}
use Rattle.block_rest.specs.declared.head.Head.{Head}
use Rattle.block_rest.specs.Heads.{leaves_before}

-- heads as what columns begin with
abbrev pub begun_of : List Head → List Begun
begun_of [] = []
begun_of (h ∷ hs) = record { class = h.class; items = h.trips; finished = h.finished } ∷ begun_of hs

-- a block without a head leaves its depot at the moment or later
abbrev pub may_begin : DayFacts → ℕ → ℕ → List ℕ → Bool
may_begin day moment class [] = false
may_begin day moment class (t ∷ ts) = not (leaves_before day moment class t)

-- the rest of the blocks of a day: first the heads and then the trips in no head are items, pools are classes
abbrev pub rest_blocks : DayFacts → Bool → List Head → ℕ → Problem
rest_blocks day counts heads moment = rest_of (blocks_of day counts) (begun_of heads) (may_begin day moment)

-- a day, whether its blocks are counted, the heads, and the moment
pub record RestFacts : Type 0 where
  pub day : DayFacts
  pub counts : Bool
  pub heads : List Head
  pub moment : ℕ

abbrev pub rests : RestFacts → Problem
rests rest = rest_blocks rest.day rest.counts rest.heads rest.moment

-- heads as what columns begin with, and what the items of their rest stand for: each trip of the day, once
pub record IsMade (day : DayFacts) (heads : List Head) (begun : List Begun) (bs : List (List ℕ)) : Type 0 where
  pub same : begun ≡ begun_of heads
  pub stand : bs ≡ bodies (begun_of heads) (length day.trips)
  pub all : StandForAll (length day.trips) bs
