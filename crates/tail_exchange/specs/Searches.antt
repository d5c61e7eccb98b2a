-- Inner: what a search for a step needs of a plan.
use Rattle.std.specs.Prelude.{◌≡◌, ℕ, ◌<◌, ◌≤◌, Bool, true, false, List, length, slice_index_or}
use Rattle.cover_core.specs.declared.Column.{Column}
use Rattle.cover_core.specs.Cover.{Problem}
use Rattle.cover_core.specs.Plans.{IsPlan}
use Rattle.cover_core.specs.FirstLeast.{AreCheap}
use Rattle.cover_core.specs.Parts.{has_place, column_at}
use Rattle.tail_exchange.specs.declared.candidate.Kind.{Kind}
use Rattle.tail_exchange.specs.declared.candidate.Kind.TheVariants.{Swap, Cut}
use Rattle.tail_exchange.specs.declared.candidate.Candidate.{Candidate}
use Rattle.tail_exchange.specs.Exchange.{IsStep, NoneLowers}

-- a plan of moderate worths
pub record IsSearchable (p : Problem) (columns : List Column) : Type 0 where
  pub plan : IsPlan p columns
  pub cheap : AreCheap columns

-- which classes have a place left
pub record ShowsRooms (p : Problem) (columns : List Column) (rooms : List Bool) : Type 0 where
  pub len : length rooms ≡ length p.caps
  pub shown : (class : ℕ) → class < length p.caps → slice_index_or rooms class false ≡ has_place p columns class

-- the columns, places and class of a step are there
abbrev pub AreThere : Problem → List Column → Kind → ℕ → ℕ → ℕ → ℕ → Type 0
AreThere p columns Swap a b i j =
    (a < b) × (b < length columns) × (i ≤ length (column_at columns a).items) × (j ≤ length (column_at columns b).items)
AreThere p columns Cut a b i j = (a < length columns) × (i < length (column_at columns a).items) × (j < length p.caps)

abbrev pub IsThere : Problem → List Column → Candidate → Type 0
IsThere p columns c = AreThere p columns c.kind c.a c.b c.i c.j

-- the least step is made, or none lowers the cost and nothing changed
abbrev pub IsStepOrNone : Problem → List Column → List Column → Bool → Type 0
IsStepOrNone p old new true = IsStep p old new
IsStepOrNone p old new false = (new ≡ old) × NoneLowers p old
