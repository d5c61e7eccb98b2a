use Rattle.std.proofs.Common.{◌≡◌, drop}
use Rattle.cover_rest.specs.Marks.{marked}
use Rattle.cover_rest.proofs.stand.mark.Given as goal

-- the items that are left make the marks of all
abbrev pub invariant-loop-item : goal.invariant-loop-item
invariant-loop-item l = marked (drop l.item-index l.list) l.marks.items ≡ marked l.list l.fn.marks.items
