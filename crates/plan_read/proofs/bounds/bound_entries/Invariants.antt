use Rattle.std.proofs.Common.{◌≡◌, ◌<◌, ◌^◌, ℕ, All, drop, map}
use Rattle.plan_read.specs.declared.fault.PlanTable.TheVariants.{Bounds}
use Rattle.plan_read.specs.Entries.{bound_entry}
use Rattle.plan_read.specs.Numbers.{pair_at}
use Rattle.plan_read.specs.Places.{said, said_on}
use Rattle.plan_read.proofs.bounds.bound_entries.Given as goal

-- what is given so far, and by the rows that are left, is what all rows give
abbrev pub invariant-loop-place : goal.invariant-loop-place
invariant-loop-place l = record {
  same : said bound_entry Bounds (map (pair_at l.table.columns) l.rows)
      ≡ said_on bound_entry Bounds l.entries l.place (map (pair_at l.table.columns) (drop l.place l.rows));
  small : All (λ (bound : ℕ). bound < 2 ^ 63) l.entries;
}
