use Rattle.std.proofs.Common.{◌≡◌, drop}
use Rattle.std.specs.List.{find}
use Rattle.vdv452_rows.specs.Rows.{has_name}
use Rattle.week_check.specs.Roster.{roster_name}
use Rattle.week_check.proofs.roster.find_roster.Given as goal

-- no table so far has the name
abbrev pub invariant-loop-table : goal.invariant-loop-table
invariant-loop-table l = find (has_name roster_name) (drop l.table-index l.tables) ≡ find (has_name roster_name) l.tables
