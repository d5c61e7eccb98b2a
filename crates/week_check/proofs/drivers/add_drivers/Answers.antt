use Rattle.std.proofs.Common.{arith, drop}
use Rattle.std.proofs.lemmas.List.{drop_all}
use Rattle.std.proofs.lemmas.Result.{on_ok_weaker}
use Rattle.week_check.proofs.Adding.{at_place}
use Rattle.week_check.proofs.Lists.{drivers_end, drivers_few, drivers_more, drivers_turns}
use Rattle.week_check.proofs.drivers.add_drivers.Goals as goal

pub loop-turn-preserved : goal.loop-turn-preserved
loop-turn-preserved c = record {
  leads = drivers_more c.args.out.now.items c.loop-turn.out.items c.add_turn.new.out.items c.args.ordered.now c.loop-turn.turn-index
      c.loop-turn.current.items c.add_turn.new.current.items _ c.in_ok-add_turn.ensures.found c.in_ok-add_turn.ensures.current
      c.loop-turn-test.true (at_place c.args.ordered.now c.loop-turn.turn-index _ _ c.loop-turn-test.true) c.loop-turn.invariant.leads;
  each = drivers_turns c.args.ordered.now c.loop-turn.turn-index c.loop-turn.current.items
      c.add_turn.new.current.items _ c.in_ok-add_turn.ensures.current c.loop-turn-test.true c.requires.each c.loop-turn.invariant.each;
  few = drivers_few c.loop-turn.turn-index c.loop-turn.current.items c.add_turn.new.current.items _ c.in_ok-add_turn.ensures.current
      c.loop-turn.invariant.few;
}

pub returns : goal.returns
returns c = on_ok_weaker c.add_driver.result
    (λ last. drivers_end c.args.out.now.items c.loop-turn.out.items c.add_driver.new.out.items c.args.ordered.now c.loop-turn.current.items
    c.as_slice.result.now (drop c.loop-turn.turn-index c.args.ordered.now) c.as_slice.ensures.value
    (drop_all c.loop-turn.turn-index c.args.ordered.now (omega arith)) c.loop-turn.invariant.leads last) c.add_driver.ensures
