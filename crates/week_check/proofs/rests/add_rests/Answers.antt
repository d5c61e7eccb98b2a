use Rattle.std.proofs.Common.{refl}
use Rattle.week_check.proofs.Adding.{at_place}
use Rattle.week_check.proofs.Lists.{rests_more}
use Rattle.week_check.proofs.rests.add_rests.Goals as goal

pub loop-place-preserved : goal.loop-place-preserved
loop-place-preserved c =
    rests_more c.args.driver c.args.out.now.items c.loop-place.out.items c.add_rests_at.new.out.items c.args.rests.now
    c.loop-place.place _ _ c.in_ok-add_rests_at.ensures refl c.loop-place-test.true
    (at_place c.args.rests.now c.loop-place.place _ _ c.loop-place-test.true) c.loop-place.invariant
