use Rattle.std.proofs.Common.{◌≡◌, ◌+◌, drop}
use Rattle.std.specs.Option.{option_map}
use Rattle.vdv452_rows.specs.Rows.{place_of as first_place}
use Rattle.vdv452_rows.proofs.table.column_place.Given as goal

-- the place is as many columns on as the search still has to go
abbrev pub invariant-loop-place : goal.invariant-loop-place
invariant-loop-place l = first_place l.name l.heads ≡ option_map (λ k. k + l.place) (first_place l.name (drop l.place l.heads))
