-- Promise: blocks in the order in which they are printed.
use Rattle.std.specs.Prelude.{ℕ, List, [], ◌∷◌}
use Rattle.cover_core.specs.declared.Column.{Column}
use Rattle.plan_params.specs.Settings.{in_order}

-- the first item of a list
abbrev pub first_item : List ℕ → ℕ
first_item [] = 0
first_item (item ∷ items) = item

abbrev pub first_of_column : Column → ℕ
first_of_column column = first_item column.items

-- columns by their first items
abbrev pub printed : List Column → List Column
printed columns = in_order first_of_column columns
