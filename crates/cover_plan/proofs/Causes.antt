-- Bounds on the number of columns, and why there is no plan.
use Rattle.std.proofs.Common.{◌≡◌, ℕ, ◌<◌, ◌≤◌, List, length, sum, sym, ap, ◌∙◌, subst}
use Rattle.cover_core.specs.Cover.{Problem}
use Rattle.cover_core.specs.Plans.{bound_of}
use Rattle.cover_core.specs.Laws.{IsCountOf, CountDuality, NoPlanAbove}
use Rattle.dual_bound.specs.declared.kept.Kept.{Kept}
use Rattle.cover_plan.specs.declared.fault.PlanFault.{PlanFault}
use Rattle.cover_plan.specs.declared.fault.PlanFault.TheVariants as faults
use Rattle.cover_plan.specs.Endings.{Numbers, HasPlaces, HasNoPlan}
use Rattle.cover_plan.specs.Ends.{HasNone, IsCountBoundOf, IsCountCause, IsPaidOffer, IsCause}
use Rattle.cover_plan.specs.Steps.{IsCostCause}

module _ (counted costed : Problem) (counts : IsCountOf costed counted) where
  prices_there : (kept : Kept) → IsPaidOffer counted kept → length kept.prices.items ≡ costed.items
  prices_there kept paid = paid.prices.0 ∙ counts.items

  class_prices_there : (kept : Kept) → IsPaidOffer counted kept → length kept.class_prices ≡ length costed.caps
  class_prices_there kept paid = paid.class_prices ∙ ap (λ (l : List ℕ). length l) counts.caps

  bound_there : (kept : Kept) → IsPaidOffer counted kept → kept.bound ≡ bound_of kept.prices.items kept.class_prices costed.caps
  bound_there kept paid = paid.bound ∙ ap (λ (l : List ℕ). bound_of kept.prices.items kept.class_prices l) counts.caps

  -- The first pass counts each column as worth 1, and its offer is paid there. The columns of a plan with costs are a plan of that
  -- problem too, so the bound is one on how many there are, by the duality of counts; items and caps are those of the problem with
  -- costs.
  pub count_is_bound : (kept : Kept) → CountDuality costed → IsPaidOffer counted kept → IsCountBoundOf costed kept.bound
  count_is_bound kept duality paid = λ columns plan.
      let P : ℕ → Type 0 = λ n. n ≤ length columns in
      subst P (sym (bound_there kept paid))
      (duality counted kept.prices.items kept.class_prices counts (prices_there kept paid) (class_prices_there kept paid)
      paid.paid columns plan)

  -- Where the bound on columns is above the places of all classes together there is no plan: a plan would have as many columns as
  -- the bound says, and no more than the places. So that cause is a proof of it, and not a search that gave up.
  pub has_none : (numbers : Numbers) (bound places : ℕ) (none : HasNoPlan counted numbers bound places) → NoPlanAbove costed →
      IsPaidOffer counted none.count → HasNone costed
  has_none numbers bound places none above paid =
      let P : ℕ → Type 0 = λ n. places < n in
      let Q : ℕ → Type 0 = λ n. n < bound_of none.count.prices.items none.count.class_prices costed.caps in
      let over : places < bound_of none.count.prices.items none.count.class_prices costed.caps =
      subst P (none.bound_is ∙ bound_there none.count paid) none.above in
      above counted none.count.prices.items none.count.class_prices counts (prices_there none.count paid)
      (class_prices_there none.count paid) paid.paid
      (subst Q (none.places_are ∙ ap (λ (l : List ℕ). sum l) counts.caps) over)

  pub count_cause : (numbers : Numbers) (fault : PlanFault) → IsCountCause counted costed numbers fault →
      IsCause counted costed numbers fault
  count_cause numbers (faults.NoPlan bound places) h = h
  count_cause numbers (faults.NotPlaced item partial) h = absurd h
  count_cause numbers faults.Memory h = tt

  pub cost_cause : (numbers : Numbers) (count : Kept) (fault : PlanFault) → HasPlaces counted numbers count →
      IsCostCause costed numbers fault → IsCause counted costed numbers fault
  cost_cause numbers count (faults.NoPlan bound places) has h = absurd h
  cost_cause numbers count (faults.NotPlaced item partial) has h = (record { count = count; counts = has; leaves = h.0 }, h.1, h.2)
  cost_cause numbers count faults.Memory has h = tt
