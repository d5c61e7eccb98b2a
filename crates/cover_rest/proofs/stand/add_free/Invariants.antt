use Rattle.std.proofs.Common.{◌≡◌, ◌++◌, drop}
use Rattle.cover_rest.specs.Marks.{free_of}
use Rattle.cover_rest.proofs.stand.add_free.Given as goal

-- what is there and what is left are all
abbrev pub invariant-loop-is_begun : goal.invariant-loop-is_begun
invariant-loop-is_begun l = record {
  count : l.item ≡ l.is_begun-index;
  bodies : l.bodies ++ free_of l.item (drop l.is_begun-index l.marks) ≡ l.fn.bodies ++ free_of 0 l.marks;
}
