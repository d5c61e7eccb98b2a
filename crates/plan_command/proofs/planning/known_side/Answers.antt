use Rattle.std.proofs.Common.{Some, refl}
use Rattle.plan_command.proofs.Feasible.{dual_feasible}
use Rattle.plan_command.proofs.planning.known_side.Goals as goal

pub returns-in-Ok-in_printed_order-clause-side : goal.returns-in-Ok-in_printed_order-clause-side
returns-in-Ok-in_printed_order-clause-side g c = record {
  known = Some c.args.known;
  known_is = refl;
  columns = c.args.known.plan.columns;
  planned = (c.in-Ok.ensures.counts, refl, refl);
  order = c.in-Ok-in_printed_order.ensures.order;
  plan = c.in-Ok-in_printed_order.ensures.plan _ c.requires.plan;
  count_bound = c.in-Ok.ensures.bound;
  cost_bound = c.requires.bound;
  count_paid = dual_feasible _ _ c.in-Ok.ensures.paid;
  cost_paid = c.requires.feasible;
}
