-- Promise: what holds of the heads of plans of blocks.
use Rattle.std.specs.Prelude.{◌≡◌, ◌↔◌, ℕ, ◌<◌, Bool, List, length}
use Rattle.cover_core.specs.declared.Column.{Column}
use Rattle.cover_core.specs.Plans.{IsPlan, all_items, times}
use Rattle.day_model.specs.Facts.{DayFacts}
use Rattle.depot_network.specs.Network.{blocks_of}
use Rattle.cover_rest.specs.Keeping.{AreHeads, KeepsBegun}
use Rattle.block_rest.specs.Heads.{AreOfDay, heads_of}
use Rattle.block_rest.specs.Rest.{begun_of, may_begin}

-- each trip of a day stands in exactly one list, once
abbrev pub IsEachOnce : DayFacts → List Column → Type 0
IsEachOnce day blocks = (trip : ℕ) → trip < length day.trips → times trip (all_items blocks) ≡ 1

-- the heads of an earlier plan are heads of the day's blocks: none is empty, their trips are there, and no trip stands twice
abbrev pub HeadsAreHeads : Type 0
HeadsAreHeads =
    (day : DayFacts) (counts : Bool) (moment : ℕ) (blocks : List Column) → AreOfDay day blocks → IsEachOnce day blocks →
    AreHeads (blocks_of day counts) (begun_of (heads_of day moment blocks))

-- a plan of a day's blocks keeps what has begun of an earlier plan exactly where the same has begun of both
abbrev pub KeptIsSameHeads : Type 0
KeptIsSameHeads =
    (day : DayFacts) (counts : Bool) (moment : ℕ) (earlier blocks : List Column) → AreOfDay day earlier → IsEachOnce day earlier →
    IsPlan (blocks_of day counts) blocks →
    KeepsBegun (begun_of (heads_of day moment earlier)) (may_begin day moment) blocks ↔
    (heads_of day moment blocks ≡ heads_of day moment earlier)
