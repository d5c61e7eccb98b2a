use Rattle.std.proofs.Common.{refl}
use Rattle.week_check.proofs.Adding.{at_place}
use Rattle.week_check.proofs.Lists.{weeks_more}
use Rattle.week_check.proofs.weeks.add_weeks.Goals as goal

pub loop-place-preserved : goal.loop-place-preserved
loop-place-preserved c =
    weeks_more c.args.out.now.items c.loop-place.out.items c.add_weeks_at.new.out.items c.args.turns.now
    c.loop-place.place _ _ c.in_ok-add_weeks_at.ensures refl c.loop-place-test.true
    (at_place c.args.turns.now c.loop-place.place _ _ c.loop-place-test.true) c.loop-place.invariant
