-- Promise: how far a trip goes.
use Rattle.std.specs.Prelude.{ℕ, List, [], ◌∷◌, Option, Some, None, is_some, sum_by, unwrap_or, if◌then◌else◌}
use Rattle.std.specs.List.{list_all}
use Rattle.plan_core.specs.declared.types.Point.{Point}
use Rattle.vdv452_tables.specs.declared.net.Net.{Net}
use Rattle.vdv452_rows.specs.declared.rows.TripRow.{TripRow}
use Rattle.vdv452_tables.specs.LookUps.{area_on, course_on, length_on, links_from}

-- the sections of a stop sequence
abbrev pub links_of : List Point → List (Point × Point)
links_of [] = []
links_of (first ∷ course) = links_from first course

-- the length of a section in an area
abbrev pub section_length : Net → ℕ → ℕ → Point × Point → Option ℕ
section_length net version area link = length_on net version area link.0 link.1

-- the sum of the lengths of sections, if each has one
abbrev pub length_over : (Point × Point → Option ℕ) → List (Point × Point) → Option ℕ
length_over length_of links =
    if list_all (λ link. is_some (length_of link)) links then Some (sum_by (λ link. unwrap_or (length_of link) 0) links) else None

-- in the area of the line's variant
abbrev pub metres_in : Net → ℕ → TripRow → Option ℕ → Option ℕ
metres_in net version row None = None
metres_in net version row (Some area) =
    length_over (section_length net version area) (links_of (course_on net version row.line row.variant))

-- the length of a trip's stop sequence in metres
abbrev pub route_metres : Net → ℕ → TripRow → Option ℕ
route_metres net version row = metres_in net version row (area_on net version row.line row.variant)
