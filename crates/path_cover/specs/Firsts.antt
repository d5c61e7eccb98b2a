-- Inner: the first of several covers of least cost.
use Rattle.std.specs.Prelude.{◌≡◌, ℕ, ◌<◌, ◌≤◌, List, slice_index}
use Rattle.path_cover.specs.declared.growth.Falls.{Falls}
use Rattle.path_cover.specs.declared.placing.Placing.{Placing}
use Rattle.path_cover.specs.Augmenting.{potentials_of}
use Rattle.path_cover.specs.Nets.{Net, IsCover, successor}
use Rattle.path_cover.specs.Potentials.{IsSlack}

-- each row has a column
abbrev pub AllPlaced : ℕ → Placing → Type 0
AllPlaced n placing = (t : ℕ) → t < n → slice_index placing.to.items t ≤ n

-- no least cover that agrees before a row has an earlier successor there
abbrev pub IsEarliest : Net → Falls → Placing → ℕ → Type 0
IsEarliest net falls placing t =
    (lists : List (List ℕ)) → IsCover net lists → IsSlack net (potentials_of falls) lists →
    ((s : ℕ) → s < t → successor net.nodes lists s ≡ slice_index placing.to.items s) →
    slice_index placing.to.items t ≤ successor net.nodes lists t
