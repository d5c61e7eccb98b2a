use Rattle.std.proofs.Common.{◌≡◌, drop, replicate, false}
use Rattle.cover_rest.specs.Marks.{all_marked}
use Rattle.cover_rest.proofs.stand.begun_items.Given as goal

-- the heads that are left make the marks of all
abbrev pub invariant-loop-head : goal.invariant-loop-head
invariant-loop-head l = all_marked (drop l.head-index l.heads) l.marks.items ≡ all_marked l.heads (replicate l.fn.items false)
