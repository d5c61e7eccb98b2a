-- Inner: what a step of a search comes to.
use Rattle.std.specs.Prelude.{◌≡◌, ◌+◌}
use Rattle.path_cover.specs.declared.growth.Falls.{Falls}
use Rattle.path_cover.specs.declared.growth.Growth.{Growth}
use Rattle.path_cover.specs.declared.growth.Target.{Target}
use Rattle.path_cover.specs.declared.placing.Placing.{Placing}
use Rattle.path_cover.specs.declared.search.Outcome.{Outcome}
use Rattle.path_cover.specs.declared.search.Outcome.TheVariants.{Stuck, Placed, Grown}
use Rattle.path_cover.specs.Nets.{Net}
use Rattle.path_cover.specs.Searching.{IsRooted, IsSeated, IsStuck, IsTreedAs, seen_count}

-- the tree cannot grow; or the root has its column; or one column more is seen
abbrev pub IsOutcome : Net → Target → Placing → Growth → Falls → Placing → Growth → Outcome → Type 0
IsOutcome net target placed grown falls placing growth Stuck = IsStuck net falls placing target × (placing ≡ placed)
IsOutcome net target placed grown falls placing growth Placed = IsSeated net falls placing × IsRooted net.nodes target placed placing
IsOutcome net target placed grown falls placing growth Grown =
    IsTreedAs net falls placing growth target × (placing ≡ placed) × (seen_count growth.columns.items ≡ seen_count grown.columns.items + 1)
