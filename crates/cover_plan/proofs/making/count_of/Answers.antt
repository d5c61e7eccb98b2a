use Rattle.std.proofs.Common.{refl}
use Rattle.cover_plan.specs.Endings.{numbers_of, HasNoPlan}
use Rattle.cover_plan.proofs.Causes.{count_is_bound, has_none}
use Rattle.cover_plan.proofs.making.count_of.Goals as goal

pub returns-then-places-kept-clause-cause : goal.returns-then-places-kept-clause-cause
returns-then-places-kept-clause-cause g c =
    let counted = g.P.Columns.problem c.args.counted.now in
    let costed = g.P.Columns.problem c.args.costed.now in
    let kept = c.in-Ok.kept in
    let none : HasNoPlan counted (numbers_of c.args.effort.now) kept.bound c.places-places.result = record {
      count = kept;
      kept = c.in-Ok.ensures.kept;
      bound_is = refl;
      places_are = c.places-places.ensures;
      above = c.if-places-kept.true;
    } in (
      none,
      has_none counted costed c.requires.counts (numbers_of c.args.effort.now) kept.bound c.places-places.result none
          (c.plan_sizes.ensures.none c.args.costed.now) c.in-Ok.ensures.paid,
    )

pub returns-else-places-kept-clause-bound : goal.returns-else-places-kept-clause-bound
returns-else-places-kept-clause-bound g c =
    count_is_bound (g.P.Columns.problem c.args.counted.now) (g.P.Columns.problem c.args.costed.now) c.requires.counts c.in-Ok.kept
    (c.plan_sizes.ensures.count c.args.costed.now) c.in-Ok.ensures.paid
