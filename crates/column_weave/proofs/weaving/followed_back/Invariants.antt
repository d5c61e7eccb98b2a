use Rattle.std.proofs.Common.{◌<◌, length}
use Rattle.cover_core.specs.Cover.{AllBelow}
use Rattle.column_weave.proofs.weaving.followed_back.Given as goal

abbrev pub invariant-loop-item : goal.invariant-loop-item
invariant-loop-item l = record {
  inside : l.item < length l.least;
  below : AllBelow (length l.least) l.list.items;
}

abbrev pub decreases-loop-item : goal.decreases-loop-item
decreases-loop-item l = l.item
