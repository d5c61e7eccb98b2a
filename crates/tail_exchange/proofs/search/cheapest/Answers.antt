use Rattle.std.proofs.Common.{◌≡◌, ◌∙◌, ◌<◌, ◌-◌, length, ap, subst, arith}
use Rattle.std.specs.List.{range_with_len, flat_map}
use Rattle.rayon.proofs.ToStd.{nat_range-All}
use Rattle.rayon.specs.Numbers.{nat_range}
use Rattle.rayon.specs.Lists.{IsLeast}
use Rattle.tail_exchange.specs.Order.{candidate_cmp}
use Rattle.tail_exchange.specs.Exchange.{steps_of}
use Rattle.tail_exchange.proofs.Leasts.{candidate_total, least_of_leasts}
use Rattle.tail_exchange.proofs.search.cheapest.Goals as goal

pub min_by-requires-clause-items : goal.min_by-requires-clause-items
min_by-requires-clause-items g c κs within =
    let ends = c.into_par_iter.ensures in
    let inside = nat_range-All (λ i. i < length c.args.plan.now) 0 (length c.args.plan.now) (λ i low high. high) in
    rw (c.filter_map.ensures.base, c.filter_map.ensures.f, c.with_min_len.ensures.base, ends.0, ends.1)
    (λ k d lt. ((c.requires.ready, (c.requires.rooms, (c.requires.leasts, inside k d lt))), λ y p q e. tt))

pub returns : goal.returns
returns g c =
    let p = g.C.Columns.problem c.args.columns.now in
    let done = c.min_by.ensures in
    let ends = c.into_par_iter.ensures in
    let n = length c.args.plan.now in
    let chain = rw (c.filter_map.ensures.base, c.filter_map.ensures.f, c.with_min_len.ensures.base) at done.1 in
    let whole : n - 0 ≡ n = omega arith in
    let places = chain.2 ∙ (λ i. nat_range (ends.0 i) (ends.1 i)) ∙ ap (range_with_len 0) whole in
    let found = subst (λ l. IsLeast candidate_cmp l c.min_by.result) chain.4 (done.3 candidate_cmp candidate_total (λ p q o pp qq e. e)) in
    subst (λ l. IsLeast candidate_cmp (flat_map (steps_of p c.args.plan.now) l) c.min_by.result) places
    (least_of_leasts candidate_cmp candidate_total (steps_of p c.args.plan.now) chain.0 chain.1 c.min_by.result chain.3 found)
