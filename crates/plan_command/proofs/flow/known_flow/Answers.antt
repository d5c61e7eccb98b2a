use Rattle.std.proofs.Common.{◌≡◌, false, ◌≤◌, ◌∷◌, [], List, length, rules, subst, w64, FitsSigned}
use Rattle.std.proofs.lemmas.Int.{to_z-of_z}
use Rattle.trip_times.specs.declared.trip.Trip.{Trip}
use Rattle.plan_command.proofs.FlowBlocks.{is_bound, is_feasible, is_known, is_plan}
use Rattle.plan_command.proofs.Printing.{few_blocks}
use Rattle.plan_command.proofs.flow.known_flow.Goals as goal

pub plan_cost-bound-requires-clause-few : goal.plan_cost-bound-requires-clause-few
plan_cost-bound-requires-clause-few c =
    let facts = c.args.model.now in
    let P : List Trip → Type 0 = λ trips. length trips ≤ 3000 in
    few_blocks facts c.args.columns (subst P c.trips.ensures.trips c.trips.ensures.few)
    (is_plan facts c.args.flow.paths c.args.flow.prices.items c.args.flow.class_price c.requires.found (c.flow_plan_of_blocks.ensures facts)
    c.requires.blocks c.args.columns c.requires.columns)

pub returns-in-Ok-clause-known : goal.returns-in-Ok-clause-known
returns-in-Ok-clause-known c =
    let facts = c.args.model.now in
    let flow = c.args.flow in
    let fits : FitsSigned w64 flow.class_price = search rules in
    let same : c.in-Ok.cost ≡ record { prices = flow.prices; class_prices = flow.class_price ∷ []; bound = c.plan_cost-bound.result } =
    rw (← to_z-of_z w64 flow.class_price fits) c.in-Ok.ensures in
    is_known facts flow.paths flow.prices.items flow.class_price c.requires.found (c.flow_plan_of_blocks.ensures facts) c.requires.blocks
    c.args.columns c.plan_cost-bound.result c.requires.columns c.plan_cost-bound.ensures c.in-Ok.cost same

pub returns-in-Ok-clause-plan : goal.returns-in-Ok-clause-plan
returns-in-Ok-clause-plan c =
    let facts = c.args.model.now in
    is_plan facts c.args.flow.paths c.args.flow.prices.items c.args.flow.class_price c.requires.found (c.flow_plan_of_blocks.ensures facts)
    c.requires.blocks c.args.columns c.requires.columns

pub returns-in-Ok-clause-feasible : goal.returns-in-Ok-clause-feasible
returns-in-Ok-clause-feasible c =
    let facts = c.args.model.now in
    let flow = c.args.flow in
    let fits : FitsSigned w64 flow.class_price = search rules in
    let same : c.in-Ok.cost ≡ record { prices = flow.prices; class_prices = flow.class_price ∷ []; bound = c.plan_cost-bound.result } =
    rw (← to_z-of_z w64 flow.class_price fits) c.in-Ok.ensures in
    is_feasible facts flow.paths flow.prices.items flow.class_price c.requires.found (c.flow_plan_of_blocks.ensures facts) c.requires.blocks
    c.args.columns c.plan_cost-bound.result c.requires.columns c.plan_cost-bound.ensures c.in-Ok.cost same

pub returns-in-Ok-clause-bound : goal.returns-in-Ok-clause-bound
returns-in-Ok-clause-bound c =
    let facts = c.args.model.now in
    let flow = c.args.flow in
    let fits : FitsSigned w64 flow.class_price = search rules in
    let same : c.in-Ok.cost ≡ record { prices = flow.prices; class_prices = flow.class_price ∷ []; bound = c.plan_cost-bound.result } =
    rw (← to_z-of_z w64 flow.class_price fits) c.in-Ok.ensures in
    is_bound facts flow.paths flow.prices.items flow.class_price c.requires.found (c.flow_plan_of_blocks.ensures facts) c.requires.blocks
    c.args.columns c.plan_cost-bound.result c.requires.columns c.plan_cost-bound.ensures c.in-Ok.cost same
    (c.weak_duality.ensures (record { day = facts; counts = false }))
