use Rattle.std.proofs.Common.{◌≡◌, drop, map}
use Rattle.plan_read.specs.declared.fault.PlanTable.TheVariants.{Parts}
use Rattle.plan_read.specs.Entries.{part_entry}
use Rattle.plan_read.specs.Numbers.{triple_at}
use Rattle.plan_read.specs.Places.{said, said_on}
use Rattle.plan_read.proofs.parts.part_entries.Given as goal

-- what is given so far, and by the rows that are left, is what all rows give
abbrev pub invariant-loop-place : goal.invariant-loop-place
invariant-loop-place l = said (λ row. part_entry l.counts) Parts (map (triple_at l.table.columns) l.rows)
    ≡ said_on (λ row. part_entry l.counts) Parts l.entries l.place (map (triple_at l.table.columns) (drop l.place l.rows))
