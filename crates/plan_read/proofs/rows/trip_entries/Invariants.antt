use Rattle.std.proofs.Common.{◌≡◌, drop, map}
use Rattle.plan_read.specs.declared.fault.PlanTable.TheVariants.{Trips}
use Rattle.plan_read.specs.Entries.{trip_entry}
use Rattle.plan_read.specs.Numbers.{pair_at}
use Rattle.plan_read.specs.Places.{said, said_on}
use Rattle.plan_read.proofs.rows.trip_entries.Given as goal

-- what is given so far, and by the rows that are left, is what all rows give
abbrev pub invariant-loop-place : goal.invariant-loop-place
invariant-loop-place l = said (λ row. trip_entry l.told l.counts) Trips (map (pair_at l.table.columns) l.rows)
    ≡ said_on (λ row. trip_entry l.told l.counts) Trips l.entries l.place (map (pair_at l.table.columns) (drop l.place l.rows))
