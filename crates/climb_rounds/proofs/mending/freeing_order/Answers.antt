use Rattle.std.proofs.Common.{arith}
use Rattle.std.proofs.lemmas.List.Sorted.{length_permutation}
use Rattle.climb_rounds.proofs.mending.freeing_order.Goals as goal

pub returns : goal.returns
returns g c =
    let same = length_permutation c.in_ok-ranks.ranks.items c.sort.new.ranks.items c.in_ok-sort.ensures.permutation in
    let len = c.in_ok-ranks.ensures in
    omega arith
