-- Inner: what a draft of a plan keeps beside its columns.
use Rattle.std.specs.Prelude.{◌≡◌, ℕ, ◌<◌, ◌≤◌, Bool, true, false, List, length, Option, Some, None, slice_index, slice_index_or}
use Rattle.plan_core.specs.Limits.{most_worth, most_places}
use Rattle.cover_core.specs.declared.Column.{Column}
use Rattle.cover_core.specs.Cover.{Problem}
use Rattle.cover_core.specs.Plans.{times, all_classes}
use Rattle.cover_core.specs.Parts.{is_free}
use Rattle.plan_round.specs.declared.choice.Choice.{Choice}
use Rattle.plan_round.specs.declared.choice.Spot.{Spot}
use Rattle.plan_round.specs.declared.choice.Spot.TheVariants.{Into, New}
use Rattle.plan_round.specs.Rounding.{whole, left, with_choice, first_cheapest, choices}

-- how many columns of each class there are
abbrev pub IsCounted : List Column → List ℕ → Type 0
IsCounted columns counts = (class : ℕ) → class < length counts → slice_index counts class ≡ times class (all_classes columns)

-- the item can be put there
abbrev pub IsSpotOf : List Column → List ℕ → Spot → Type 0
IsSpotOf columns counts (Into place) = place < length columns
IsSpotOf columns counts (New class) = (class < length counts) × (slice_index counts class < most_places)

-- the worth of a choice is at most 4,000,000,000
abbrev pub IsCheapChoice : Option Choice → Type 0
IsCheapChoice None = Unit {0}
IsCheapChoice (Some c) = c.worth ≤ most_worth

-- which items stand in no column
abbrev pub ShowsFree : List Column → List Bool → Type 0
ShowsFree columns free = (item : ℕ) → item < length free → slice_index_or free item false ≡ is_free columns item

-- the item is put in, or it has no place and nothing changed
abbrev pub IsPlaced : Problem → ℕ → List Column → List Column → Bool → Type 0
IsPlaced p item old new true = with_choice item old (first_cheapest None (choices p item old)) ≡ whole new
IsPlaced p item old new false = (with_choice item old (first_cheapest None (choices p item old)) ≡ left item old) × (new ≡ old)
