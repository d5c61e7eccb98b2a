use Rattle.std.proofs.Common.{◌≡◌, true, false, ap, ◌∙◌}
use Rattle.duty_network.specs.Duties.{DutyFacts, duties as duties_of}
use Rattle.plan_command.proofs.Sides.{count_at}
use Rattle.plan_command.proofs.planning.planned_duties.Goals as goal

-- the problem of a net
same_duties : (view net facts : DutyFacts) → view ≡ net → net ≡ facts → duties_of view ≡ duties_of facts
same_duties view net facts same is = ap (λ (d : DutyFacts). duties_of d) (same ∙ is)

pub planned_side-requires-clause-counts : goal.planned_side-requires-clause-counts
planned_side-requires-clause-counts g c κs within =
    let counts : DutyFacts = record { pieces = c.args.pieces.now; params = c.args.params.now; counts = true } in
    let costs : DutyFacts = record { pieces = c.args.pieces.now; params = c.args.params.now; counts = false } in
    count_at (duties_of c.new-counted.result) (duties_of c.new-costed.result) (duties_of counts) (duties_of costs)
    (same_duties c.new-counted.result c.in-Ok.net counts c.new-counted.ensures c.in-Ok.ensures)
    (same_duties c.new-costed.result c.in-Ok-duty_net.net costs c.new-costed.ensures c.in-Ok-duty_net.ensures)
    (c.counted_duties.ensures c.args.params.now c.args.pieces.now)
