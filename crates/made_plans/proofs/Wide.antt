-- Problems in which each item has room of its own have plans.
use Rattle.std.proofs.Common.{List, [], refl}
use Rattle.cover_core.specs.declared.Column.{Column}
use Rattle.cover_core.specs.Cover.{Problem}
use Rattle.cover_core.specs.Plans.{HasListedColumns, IsPlan}
use Rattle.plan_round.specs.Laws.{HasRoomForEach, IsRounding}
use Rattle.plan_round.specs.Rounding.{Rounded, whole, left, rounded}
use Rattle.plan_round.proofs.Room.{not_stuck}
use Rattle.plan_round.proofs.Rounds.{rounds_to_plan}
use Rattle.cover_plan.specs.declared.fault.PlanFault.TheVariants as faults
use Rattle.made_plans.specs.Wide.{HasPlan, IsNotRefused}

-- no columns at all are rounded to a plan
plan_of : (p : Problem) (r : Rounded) → HasListedColumns p → HasRoomForEach p → IsRounding p r → (columns : List Column) × IsPlan p columns
plan_of p (whole columns) listed room is = (columns, is)
plan_of p (left item columns) listed room is = absurd (not_stuck p item columns listed room is)

-- Rounding is stuck at an item only where each class in which it alone has a worth is full. A class with as many places as items is
-- not full while an item is left, so rounding is never stuck, and even from no columns at all it ends with a plan. So planning is
-- refused neither for lack of plans nor for an item that is left (`not_refused`).
pub has_plan : (p : Problem) → HasListedColumns p → HasPlan p
has_plan p listed room = plan_of p (rounded p []) listed room (rounds_to_plan p listed [] tt)

pub not_refused : (counted costed : Problem) → HasListedColumns costed → IsNotRefused counted costed
not_refused counted costed listed room numbers (faults.NoPlan bound places) cause =
    let made = has_plan costed listed room in absurd (cause.1 made.0 made.1)
not_refused counted costed listed room numbers (faults.NotPlaced item partial) cause = absurd (cause.2 room)
not_refused counted costed listed room numbers faults.Memory cause = refl
