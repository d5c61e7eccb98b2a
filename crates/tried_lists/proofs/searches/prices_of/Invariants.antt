use Rattle.cover_core.specs.FirstLeast.{AllWithin}
use Rattle.tried_lists.proofs.searches.prices_of.Given as goal

abbrev pub invariant-loop-value : goal.invariant-loop-value
invariant-loop-value l = AllWithin 10000000000000 l.items
