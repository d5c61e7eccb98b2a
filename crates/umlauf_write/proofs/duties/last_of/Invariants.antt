use Rattle.std.proofs.Common.{◌≡◌, drop}
use Rattle.umlauf_write.specs.Answers.{last_of}
use Rattle.umlauf_write.proofs.Lasts.{last_or}
use Rattle.umlauf_write.proofs.duties.last_of.Given as goal

-- the last of the items left, or the one before them
abbrev pub invariant-loop-item : goal.invariant-loop-item
invariant-loop-item l = last_or l.last (drop l.item-index l.items) ≡ last_of l.items
