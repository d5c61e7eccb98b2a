use Rattle.std.proofs.Common.{◌≡◌, ◌∙◌, ◌<◌, ◌-◌, length, ap, sym, subst, arith}
use Rattle.std.specs.List.{range_with_len}
use Rattle.rayon.proofs.ToStd.{nat_range-All}
use Rattle.rayon.specs.Numbers.{nat_range}
use Rattle.tail_exchange.specs.Kept.{ShowsLeasts}
use Rattle.tail_exchange.proofs.Renewals.{shown-leasts}
use Rattle.tail_exchange.proofs.kept.leasts_after.Goals as goal

pub collect-requires-clause-ready : goal.collect-requires-clause-ready
collect-requires-clause-ready g c κs within =
    let ends = c.into_par_iter.ensures in
    let inside = nat_range-All (λ i. i < length c.args.plan.now) 0 (length c.args.plan.now) (λ i low high. high) in
    rw (c.map.ensures.base, c.map.ensures.f, c.with_min_len.ensures.base, ends.0, ends.1)
    (λ k d lt. ((c.requires.ready, (c.requires.useful, inside k d lt)), λ y p. tt))

pub returns : goal.returns
returns g c =
    let p = g.C.Columns.problem c.args.columns.now in
    let plan = c.args.plan.now in
    let done = c.in_ok-new.ensures in
    let ends = c.into_par_iter.ensures in
    let n = length plan in
    let chain = rw (c.map.ensures.base, c.map.ensures.f, c.with_min_len.ensures.base) at done.1 in
    let whole : n - 0 ≡ n = omega arith in
    let places = chain.1 ∙ (λ i. nat_range (ends.0 i) (ends.1 i)) ∙ ap (range_with_len 0) whole in
    subst (ShowsLeasts p plan) (sym done.2) (shown-leasts p plan chain.0 done.0 places chain.2)
