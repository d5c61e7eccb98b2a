use Rattle.std.proofs.Common.{◌≡◌, ◌≤◌, drop, length}
use Rattle.indexmap.specs.IndexMap.{get}
use Rattle.vdv452_tables.specs.Keys.{value_at}
use Rattle.vdv452_tables.proofs.index.index_of.Given as goal

-- the index of the rows that are passed
abbrev pub invariant-loop-left : goal.invariant-loop-left
invariant-loop-left g l = record {
  within : l.left ≤ length l.rows;
  index : (key : g.row.K.Denot) →
      get g.K.PartialEq.eq l.index key ≡ value_at g.K.PartialEq.eq g.R.KeyedRow.key_of g.R.KeyedRow.value_of (drop l.left l.rows) key;
}

abbrev pub decreases-loop-left : goal.decreases-loop-left
decreases-loop-left g l = l.left
