-- A day has one plan of blocks that is known, or none; and where one is, it is what is planned.
use Rattle.std.proofs.Common.{◌≡◌, inl, inr, ℕ, ℤ, ◌+◌, Bool, true, false, nat_lt, List, [], ◌∷◌, Option, Some, None, refl, sym, ap, ◌∙◌, subst, if◌then◌else◌, arith}
use Rattle.std.proofs.lemmas.Bool.{true≢false}
use Rattle.plan_core.specs.declared.Price.{Price}
use Rattle.cover_core.specs.declared.Column.{Column}
use Rattle.cover_core.specs.Plans.{cost}
use Rattle.cover_core.specs.Cover.{Problem}
use Rattle.dual_bound.specs.declared.kept.Kept.{Kept}
use Rattle.cover_plan.specs.declared.known.KnownPlan.{KnownPlan}
use Rattle.cover_plan.specs.Endings.{EndsBy, Numbers, planned}
use Rattle.day_method.specs.Method.{SidePlan}
use Rattle.day_model.specs.Facts.{DayFacts}
use Rattle.plan_params.specs.Settings.{put_in_order}
use Rattle.umlauf_write.specs.Printed.{first_of_column, printed}
use Rattle.one_pool_flow.specs.Flows.{AreFlowPrices, FlowPlanIsOne, FlowPricesAreOne, all_blocks}
use Rattle.one_pool_flow.specs.Paths.{IsFlowPlan, columns_of, is_flow_day, plan_cost}
use Rattle.plan_command.specs.Flow.{AreKnownBlocks, HasNoFlow, IsExact, IsKnownFlow}
use Rattle.plan_command.specs.Planning.{ArePlannedBlocks, Asked}

-- a known plan by its parts
abbrev known_of : List Column → List Price → List ℤ → ℕ → KnownPlan
known_of columns prices class_prices bound = record {
  plan = record { columns = columns };
  cost = record { prices = record { items = prices }; class_prices = class_prices; bound = bound };
}

module _ (facts : DayFacts) (one_plan : FlowPlanIsOne facts) (one_prices : FlowPricesAreOne facts) where
  -- The flow plan of least cost that comes first is one (`FlowPlanIsOne`), and its greatest potentials give one list of prices
  -- (`FlowPricesAreOne`). The fields of a known plan are functions of these, so two known plans of a day are equal field by field.
  same_flow : (a b : List (List ℕ)) (one other : KnownPlan) → IsKnownFlow facts a one → IsKnownFlow facts b other → one ≡ other
  same_flow a b one other h k =
      let paths : a ≡ b = one_plan a b h.plan k.plan in
      let P : List (List ℕ) → Type 0 = λ l. AreFlowPrices facts l one.cost.prices.items h.class_price in
      let same = one_prices b one.cost.prices.items other.cost.prices.items h.class_price k.class_price (subst P paths h.prices) k.prices in
      let columns : one.plan.columns ≡ other.plan.columns = h.columns ∙ ap (columns_of facts) paths ∙ sym k.columns in
      let classes : one.cost.class_prices ≡ other.cost.class_prices = h.class_prices ∙ ap (λ (z : ℤ). z ∷ []) same.1 ∙ sym k.class_prices in
      let bounds : one.cost.bound ≡ other.cost.bound = h.bound ∙ ap (plan_cost facts) paths ∙ sym k.bound in
      ap (λ c. known_of c one.cost.prices.items one.cost.class_prices one.cost.bound) columns
      ∙ ap (λ p. known_of other.plan.columns p one.cost.class_prices one.cost.bound) same.0
      ∙ ap (λ z. known_of other.plan.columns other.cost.prices.items z one.cost.bound) classes
      ∙ ap (λ n. known_of other.plan.columns other.cost.prices.items other.cost.class_prices n) bounds

  -- where the flow has blocks it does not lack them
  not_without : (paths : List (List ℕ)) → is_flow_day facts ≡ true → IsFlowPlan facts paths →
      all_blocks facts paths ≡ true → HasNoFlow facts → ⊥
  not_without paths day plan blocks (inl other) = true≢false (sym day ∙ other)
  not_without paths day plan blocks (inr (inl none)) = none paths plan.plan
  not_without paths day plan blocks (inr (inr (others, flow, some))) =
      let P : List (List ℕ) → Type 0 = λ l. all_blocks facts l ≡ true in
      true≢false (sym (subst P (one_plan paths others plan flow) blocks) ∙ some)

  -- A plan of blocks is known or none is, and not both: a flow plan whose paths are blocks is at odds with each of the three reasons
  -- for having none (`not_without`). So whether the passes are made, and with which plan, is fixed by the day and the words alone.
  pub one_known : (flow : Bool) (one other : Option KnownPlan) → AreKnownBlocks facts flow one →
      AreKnownBlocks facts flow other → one ≡ other
  one_known false one other h k = h ∙ sym k
  one_known true None None h k = refl
  one_known true None (Some other) h (paths, k) = absurd (not_without paths k.flow_day k.plan k.blocks h)
  one_known true (Some one) None (paths, h) k = absurd (not_without paths h.flow_day h.plan h.blocks k)
  one_known true (Some one) (Some other) (a, h) (b, k) = ap (λ (p : KnownPlan). Some p) (same_flow a b one other h k)

  -- the flow plan is known, where it is asked for
  flow_known : (flow : Bool) (known : Option KnownPlan) (paths : List (List ℕ)) → flow ≡ true → is_flow_day facts ≡ true →
      IsFlowPlan facts paths → all_blocks facts paths ≡ true →
      AreKnownBlocks facts flow known → (this : KnownPlan) × (known ≡ Some this) × IsKnownFlow facts paths this
  flow_known false known paths asked day plan blocks h = absurd (let bad : false ≡ true = asked in cc)
  flow_known true None paths asked day plan blocks h = absurd (not_without paths day plan blocks h)
  flow_known true (Some known) paths asked day plan blocks (others, h) =
      let P : List (List ℕ) → Type 0 = λ l. IsKnownFlow facts l known in
      (known, refl, subst P (one_plan others paths h.plan plan) h)

-- columns in printed order cost what they cost
put_cost : (c : Column) (cs : List Column) → cost (put_in_order first_of_column c cs) ≡ c.worth + cost cs
put_cost c [] = refl
put_cost c (next ∷ cs) = by (nat_lt (first_of_column next) (first_of_column c)) (put_cost c cs)
  where
    by : (b : Bool) → cost (put_in_order first_of_column c cs) ≡ c.worth + cost cs →
        cost (if b then next ∷ put_in_order first_of_column c cs else c ∷ next ∷ cs) ≡ c.worth + cost (next ∷ cs)
    by true later = omega (arith, later)
    by false later = refl

printed_cost : (cs : List Column) → cost (printed cs) ≡ cost cs
printed_cost [] = refl
printed_cost (c ∷ cs) = omega (arith, put_cost c (printed cs), printed_cost cs)

-- where a plan is known, planning gives it
as_known : (counted costed : Problem) (numbers : Numbers) (this : KnownPlan) (count kept : Kept) (columns : List Column)
    (known : Option KnownPlan) → known ≡ Some this →
    EndsBy counted costed numbers known (planned count kept columns) → (kept ≡ this.cost) × (columns ≡ this.plan.columns)
as_known counted costed numbers this count kept columns known is ends =
    let P : Option KnownPlan → Type 0 = λ k. EndsBy counted costed numbers k (planned count kept columns) in
    let both = subst P is ends in
    (both.1, both.2)

module _ (facts : DayFacts) (one_plan : FlowPlanIsOne facts) (one_prices : FlowPricesAreOne facts) (asked : Asked) where
  -- Where the flow has blocks the plan that is known is theirs (`flow_known`), and planning gives back what is known, unchanged
  -- (`as_known`). Printed order moves columns and no cost (`printed_cost`), so the bound that is written for blocks is their cost: the
  -- plan is shown to be cheapest.
  pub exact : (blocks : SidePlan) → ArePlannedBlocks facts asked blocks → IsExact facts asked.flow blocks
  exact blocks are = λ flow day paths plan all.
      let known = flow_known facts one_plan one_prices asked.flow are.known paths flow day plan all are.known_is in
      let this = known.0 in
      let is = known.2 in
      let same = as_known _ _ asked.numbers this blocks.count blocks.cost are.columns are.known known.1 are.planned in
      let columns : are.columns ≡ columns_of facts paths = same.1 ∙ is.columns in
      let order : blocks.columns ≡ printed (columns_of facts paths) = are.order ∙ ap printed columns in
      let bound : blocks.cost.bound ≡ plan_cost facts paths = ap (λ (k : Kept). k.bound) same.0 ∙ is.bound in
      (order, bound ∙ sym (printed_cost (columns_of facts paths)) ∙ sym (ap cost order))
