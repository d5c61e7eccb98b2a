use Rattle.std.proofs.Common.{◌≡◌, drop, map}
use Rattle.plan_read.specs.Entries.{own_entry, table_for}
use Rattle.plan_read.specs.Numbers.{pair_at}
use Rattle.plan_read.specs.Places.{said, said_on}
use Rattle.plan_read.proofs.own.own_entries.Given as goal

-- what is given so far, and by the rows that are left, is what all rows give
abbrev pub invariant-loop-place : goal.invariant-loop-place
invariant-loop-place l =
    said (own_entry l.own l.day) (table_for l.own) (map (pair_at l.table.columns) l.rows) ≡
    said_on (own_entry l.own l.day) (table_for l.own) l.entries l.place (map (pair_at l.table.columns) (drop l.place l.rows))
