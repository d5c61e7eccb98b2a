use Rattle.std.proofs.Common.{None, refl}
use Rattle.plan_command.proofs.Feasible.{dual_feasible}
use Rattle.plan_command.proofs.planning.planned_side.Goals as goal

pub returns-in-Ok-in_printed_order-clause-side : goal.returns-in-Ok-in_printed_order-clause-side
returns-in-Ok-in_printed_order-clause-side g c = record {
  known = None;
  known_is = refl;
  columns = c.in-Ok.field-0.plan.columns;
  planned = c.in-Ok.ensures.planned;
  order = c.in-Ok-in_printed_order.ensures.order;
  plan = c.in-Ok-in_printed_order.ensures.plan _ c.in-Ok.ensures.plan;
  count_bound = c.in-Ok.ensures.count_bound;
  cost_bound = c.in-Ok.ensures.cost_bound;
  count_paid = dual_feasible _ _ c.in-Ok.ensures.count_paid;
  cost_paid = dual_feasible _ _ c.in-Ok.ensures.cost_paid;
}
