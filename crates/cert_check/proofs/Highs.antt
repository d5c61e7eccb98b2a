-- The first bound that is higher than the one that the prices of its pass show.
use Rattle.std.proofs.Common.{◌≡◌, ℕ, ℤ, pos, zero, suc, ◌<◌, ◌≤◌, ◌≤ℤ◌, inl, inr, List, [], ◌∷◌, length, map, sym, ◌∙◌, arith}
use Rattle.std.proofs.lemmas.List.{length-map}
use Rattle.std.proofs.lemmas.List.Elements.{recursion_from_All}
use Rattle.std.specs.List.{AllByRecursion}
use Rattle.plan_core.specs.declared.types.Price.{Price}
use Rattle.cover_core.specs.declared.Plan.{Plan}
use Rattle.cover_core.specs.FirstLeast.{AllWithin}
use Rattle.cover_core.specs.Plans.{number_at}
use Rattle.dual_bound.specs.Ranges.{AreAtLeast}
use Rattle.plan_params.specs.declared.rows.pool.Pool.{Pool}
use Rattle.plan_params.specs.declared.rows.group.Group.{Group}
use Rattle.day_model.specs.Facts.{DayFacts}
use Rattle.plan_cert.specs.declared.cert.CertPart.{CertPart}
use Rattle.plan_cert.specs.Laws.{AreParts, IsModerate, IsPart}
use Rattle.plan_cert.specs.Shapes.{shape_of}
use Rattle.cert_check.specs.declared.bounds.TooHigh.{TooHigh}
use Rattle.cert_check.specs.declared.parts.FourParts.{FourParts}
use Rattle.cert_check.specs.Judging.{Case}
use Rattle.cert_check.specs.Parts.{listed}
use Rattle.cert_check.specs.Reasons.{AllCharged, AreCharged, AreShown, IsFirstTooHigh}
use Rattle.cert_check.specs.Steps.{AreBounding, AreLow, IsBounding, IsFirstHigh}

-- the caps of pools and groups
abbrev pub pool_caps : DayFacts → List ℕ
pool_caps day = map (λ (pool : Pool). pool.cap) day.params.pools

abbrev pub group_caps : DayFacts → List ℕ
group_caps day = map (λ (group : Group). group.cap) day.params.groups

-- prices in their range
within : (prices : List Price) → AllByRecursion IsModerate prices → AllWithin 3000000000000000 prices
within [] moderate = tt
within (p ∷ ps) moderate = (moderate.0.0, moderate.0.1, within ps moderate.1)

-- class prices of at least 0
at-least : (zs : List ℤ) → ((class : ℕ) → class < length zs → pos 0 ≤ℤ number_at zs class) → AreAtLeast (pos 0) zs
at-least [] charged = tt
at-least (z ∷ zs) charged = (charged zero (omega arith), at-least zs (λ class low. charged (suc class) (omega (arith, low))))

bounding : (items : ℕ) (numbers caps : List ℕ) (part : CertPart) → items ≤ 3000 → length caps ≤ 32 → length numbers ≡ length caps →
    IsPart items (length numbers) part →
    AreCharged part (length part.class_prices) → IsBounding caps part
bounding items numbers caps part few classes same is charged = record {
  few = (let prices = is.prices in omega (arith, few, prices));
  moderate = within part.prices.items (recursion_from_All IsModerate part.prices.items is.moderate);
  classes = classes;
  one_each = is.class_prices ∙ same;
  charged = at-least part.class_prices charged;
}

-- The four parts of a certificate whose class prices are at least 0 have the numbers of which bounds are made.
pub parts-bounding : (day : DayFacts) (pieces : ℕ) (p : FourParts) → length day.trips ≤ 3000 → pieces ≤ 3000 →
    length day.params.pools ≤ 32 → length day.params.groups ≤ 32 →
    AreParts (shape_of day pieces) (listed p) → AllCharged (listed p) → AreBounding (pool_caps day) (group_caps day) p
parts-bounding day pieces p few few_pieces pools groups are charged =
    let numbers = map (λ (pool : Pool). pool.number) day.params.pools in
    let numbers' = map (λ (group : Group). group.number) day.params.groups in
    let long = length-map day.params.pools (λ (pool : Pool). pool.number) in
    let long' = length-map day.params.groups (λ (group : Group). group.number) in
    let caps = length-map day.params.pools (λ (pool : Pool). pool.cap) in
    let caps' = length-map day.params.groups (λ (group : Group). group.cap) in
    let low : length (pool_caps day) ≤ 32 = omega (arith, caps, pools) in
    let low' : length (group_caps day) ≤ 32 = omega (arith, caps', groups) in
    record {
      block_number = bounding (length day.trips) numbers (pool_caps day) p.block_number.now few low
          (long ∙ sym caps) are.0.part_is charged.0;
      block_cost = bounding (length day.trips) numbers (pool_caps day) p.block_cost.now few low (long ∙ sym caps) are.1.part_is charged.1.0;
      duty_number = bounding pieces numbers' (group_caps day) p.duty_number.now few_pieces low' (long' ∙ sym caps')
          are.2.part_is charged.1.1.0;
      duty_cost = bounding pieces numbers' (group_caps day) p.duty_cost.now few_pieces low' (long' ∙ sym caps')
          are.3.part_is charged.1.1.1.0;
    }

-- no bound is too high
pub all-low : (c : Case) (blocks : Plan) (bounds : List ℕ) (p : FourParts) → AreLow bounds (pool_caps c.day) (group_caps c.day) p →
    AreShown c blocks bounds zero (listed p)
all-low c blocks bounds p low = (low.0, (low.1, (low.2, (low.3, tt))))

-- The first bound that is too high: the four passes are looked at one after another, by a chain of four alternatives, and the
-- definition goes over the parts of the certificate. As there are four, one is the other written out.
pub first-high : (c : Case) (blocks : Plan) (bounds : List ℕ) (p : FourParts) (found : TooHigh) →
    IsFirstHigh bounds (pool_caps c.day) (group_caps c.day) p found →
    IsFirstTooHigh c blocks bounds zero (listed p) found.pass found.printed found.shown
first-high c blocks bounds p found (inl one) = inr one
first-high c blocks bounds p found (inr (low, inl two)) = inl (low, inr two)
first-high c blocks bounds p found (inr (low, inr (low', inl three))) = inl (low, inl (low', inr three))
first-high c blocks bounds p found (inr (low, inr (low', inr (low'', four)))) = inl (low, inl (low', inl (low'', inr four)))
