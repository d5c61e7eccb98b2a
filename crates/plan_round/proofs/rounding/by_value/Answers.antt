use Rattle.plan_round.proofs.Places.{columns_fit}
use Rattle.std.proofs.Common.{◌≤◌, length, arith}
use Rattle.plan_round.proofs.rounding.by_value.Goals as goal

pub sorted_by_value-requires-clause-fit : goal.sorted_by_value-requires-clause-fit
sorted_by_value-requires-clause-fit g c =
    let p = g.C.Columns.problem c.args.columns.now in
    let few : length p.caps ≤ 32 = omega (arith, c.classes-classes.ensures.value, c.classes-classes.ensures.few) in
    columns_fit p (length c.args.prices.now.items) c.args.pool.now (g.met.C.Columns.listed c.args.columns.now) c.requires.prices few
    c.requires.pool c.requires.cheap
