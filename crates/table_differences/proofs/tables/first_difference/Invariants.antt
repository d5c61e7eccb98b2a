use Rattle.std.proofs.Common.{◌≡◌, drop}
use Rattle.table_differences.specs.Differences as spec
use Rattle.table_differences.proofs.tables.first_difference.Given as goal

-- what is found of all tables is what is found of those that are left
abbrev pub invariant-loop-table : goal.invariant-loop-table
invariant-loop-table l =
    spec.first_difference l.aside.table.now l.aside.column.now l.given l.made ≡
    spec.difference_on l.aside.table.now l.aside.column.now l.given l.table (drop l.table l.made)
