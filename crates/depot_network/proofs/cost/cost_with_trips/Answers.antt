use Rattle.std.proofs.Common.{◌∙◌, rules, arith}
use Rattle.std.proofs.lemmas.Int.{ints}
use Rattle.cover_core.proofs.Values.{AllBelow-get}
use Rattle.depot_network.proofs.Walks.{stepped_more}
use Rattle.depot_network.proofs.cost.cost_with_trips.Goals as goal

pub next_step-requires-clause-next : goal.next_step-requires-clause-next
next_step-requires-clause-next c = AllBelow-get _ c.args.rest.now c.loop-next.next-index c.requires.rest (search rules)

pub overflow_add-cost : goal.overflow_add-cost
overflow_add-cost c =
    let after = c.in_ok-step.ensures.cheap c.loop-next.cost c.loop-next.invariant.cheap in
    omega (arith, ints, after.so_far, after.in_time)

pub loop-next-preserved : goal.loop-next-preserved
loop-next-preserved c = record {
  there = AllBelow-get _ c.args.rest.now c.loop-next.next-index c.requires.rest (search rules);
  driving = c.in_ok-step.ensures.driving;
  cheap = c.in_ok-step.ensures.cheap c.loop-next.cost c.loop-next.invariant.cheap;
  walked = c.loop-next.invariant.walked ∙ stepped_more c.args.day.now c.args.pool.now c.loop-next.cost c.loop-next.so_far c.loop-next.last
      c.in_ok-step.step c.args.rest.now c.loop-next.next-index (search rules) c.in_ok-step.ensures.value;
}
