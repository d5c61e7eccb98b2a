-- Promise: times by the ends of moves.
use Rattle.std.specs.Prelude.{ℕ, Bool, ◌&&◌, List, Option}
use Rattle.std.specs.Map.{lookup}
use Rattle.vdv452_tables.specs.Keys.{point_eq}
use Rattle.deadheads.specs.declared.moves.Ends.{Ends}

abbrev pub ends_eq : Ends → Ends → Bool
ends_eq a b = point_eq a.from b.from && point_eq a.to b.to

-- the time that is noted for these ends
abbrev pub time_at : List (Ends × ℕ) → Ends → Option ℕ
time_at entries ends = lookup (ends_eq ends) entries
