use Rattle.std.proofs.Common.{get_or, false, pos}
use Rattle.week_check.specs.declared.rest.Rest.{Rest}
use Rattle.week_check.proofs.Adding.{at_place}
use Rattle.week_check.proofs.Reduced.{count_few, count_more}
use Rattle.week_check.proofs.rests.reduced_in.Goals as goal

-- what stands for a rest past the end of a list
past_end : Rest
past_end = record { day = 0; next = 0; gap = pos 0; length = pos 0; three = false }

pub loop-rest-preserved : goal.loop-rest-preserved
unfolding past_end
loop-rest-preserved c =
    let rest : Rest = get_or c.args.rests.now c.loop-rest.rest-index past_end in
    record {
      count = count_more c.args.rests.now c.loop-rest.rest-index c.reduced_after-count.result c.loop-rest.count rest
          c.reduced_after-count.ensures c.loop-rest.invariant.count c.loop-rest-test.true
          (at_place c.args.rests.now c.loop-rest.rest-index past_end rest c.loop-rest-test.true);
      few = count_few c.loop-rest.rest-index c.reduced_after-count.result c.loop-rest.count rest c.reduced_after-count.ensures
          c.loop-rest.invariant.few;
    }
