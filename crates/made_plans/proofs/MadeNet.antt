-- The network of a made day: all rows but those of its trips are computed.
use Rattle.std.proofs.Common.{◌≡◌, ℕ, true, List, [], ◌∷◌, Option, Some, refl, ap, nat_le, if◌then◌else◌}
use Rattle.std.specs.Prelude.{pos, unwrap_or, None}
use Rattle.vdv452_rows.specs.declared.cell.Cell.{Cell}
use Rattle.vdv452_rows.specs.declared.cell.Cell.TheVariants.{Nothing, Number}
use Rattle.vdv452_rows.specs.Cells.{number_up_to}
use Rattle.vdv452_rows.specs.Values.{number_of}
use Rattle.day_maker.specs.Made.{lines, places, terminals}
use Rattle.vdv452_rows.specs.TypedRows.{line_row, stop_row, run_row, group_dwell_row, dead_row}
use Rattle.made_plans.specs.MadeRows.{made_net, rows_each, line_rows, stop_rows, run_rows, dwell_rows, dead_rows, way_rows, relief_rows, depot_rows, driver_rows}

pub lines_are : (seed trips : ℕ) → (made_net seed trips).lines ≡ rows_each line_rows lines
unfolding line_row
lines_are seed trips = refl

pub stops_are : (seed trips : ℕ) → (made_net seed trips).stops ≡ rows_each stop_rows lines
unfolding stop_row
stops_are seed trips = refl

pub runs_are : (seed trips : ℕ) → (made_net seed trips).runs ≡ rows_each run_rows lines
unfolding run_row
runs_are seed trips = refl

pub dwells_are : (seed trips : ℕ) → (made_net seed trips).group_dwells ≡ rows_each dwell_rows lines
unfolding group_dwell_row
dwells_are seed trips = refl

pub no_dwells : (seed trips : ℕ) → (made_net seed trips).trip_dwells ≡ []
no_dwells seed trips = refl

pub deads_are : (seed trips : ℕ) → (made_net seed trips).deads ≡ rows_each (λ from. dead_rows from places) places
unfolding dead_row
deads_are seed trips = refl

pub ways_are : (seed trips : ℕ) → (made_net seed trips).ways ≡ rows_each (λ from. way_rows from places) places
ways_are seed trips = refl

pub reliefs_are : (seed trips : ℕ) → (made_net seed trips).reliefs ≡ rows_each relief_rows terminals
reliefs_are seed trips = refl

pub no_line_types : (seed trips : ℕ) → (made_net seed trips).line_types ≡ []
no_line_types seed trips = refl

pub plan_is : (seed trips : ℕ) → (made_net seed trips).plan ≡ (1 ∷ 1 ∷ 300 ∷ 7200 ∷ 300 ∷ []) ∷ []
plan_is seed trips = refl

-- a number that is not above the greatest one is read
pub read_number : (most n : ℕ) → nat_le n most ≡ true → number_up_to most (pos n) ≡ Some (Number n)
read_number most n test = ap (λ b. if b then Some (Number n) else None) test

pub depots_are : (seed trips : ℕ) → nat_le trips 10000 ≡ true → (made_net seed trips).depots ≡ depot_rows trips
depots_are seed trips few = let F : Option Cell → List (List ℕ) = λ c. depot_rows (number_of (unwrap_or c Nothing)) in
    ap F (read_number 10000 trips few)

pub drivers_are : (seed trips : ℕ) → nat_le trips 10000 ≡ true → (made_net seed trips).drivers ≡ driver_rows trips
drivers_are seed trips few = let F : Option Cell → List (List ℕ) = λ c. driver_rows (number_of (unwrap_or c Nothing)) in
    ap F (read_number 10000 trips few)
