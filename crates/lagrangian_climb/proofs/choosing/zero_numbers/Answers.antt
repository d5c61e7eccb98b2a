use Rattle.std.proofs.Common.{pos, arith, refl}
use Rattle.lagrangian_climb.proofs.Walks.{zero-asked-more}
use Rattle.lagrangian_climb.proofs.choosing.zero_numbers.Goals as goal

pub loop-place-preserved : goal.loop-place-preserved
loop-place-preserved c = record {
  order = omega arith;
  none = zero-asked-more c.loop-place._place c.loop-place.numbers c.push.new.self (pos 0) c.loop-place.invariant.none
      c.in_ok-push.ensures.ok refl;
}
