-- The first class price below 0.
use Rattle.std.proofs.Common.{◌≡◌, ℕ, ℤ, pos, zero, suc, ◌+◌, ◌<◌, ◌≤◌, ◌≤ℤ◌, ◌<ℤ◌, int_lt, Bool, true, false, if◌then◌else◌, List, [], ◌∷◌, length, map, refl, subst, arith}
use Rattle.std.proofs.lemmas.Int.{ints}
use Rattle.std.proofs.lemmas.List.{length-map}
use Rattle.std.specs.List.{position_from}
use Rattle.std.specs.Prelude.{Some, None}
use Rattle.cover_core.specs.Plans.{number_at}
use Rattle.plan_params.specs.declared.rows.pool.Pool.{Pool}
use Rattle.plan_params.specs.declared.rows.group.Group.{Group}
use Rattle.day_model.specs.Facts.{DayFacts}
use Rattle.plan_cert.specs.declared.cert.CertPart.{CertPart}
use Rattle.plan_cert.specs.Laws.{AreParts}
use Rattle.plan_cert.specs.Shapes.{shape_of}
use Rattle.cert_check.specs.Reasons.{AreCharged, IsNegative}
use Rattle.cert_check.specs.Steps.{HaveFewClasses, first_negative, is_below}

-- the first numbers are at least 0
abbrev Charged : List ℤ → ℕ → Type 0
Charged zs bound = (class : ℕ) → class < bound → pos 0 ≤ℤ number_at zs class

-- the first number below 0
record IsAt (zs : List ℤ) (k : ℕ) : Type 0 where
  pub there : k < length zs
  pub below : number_at zs k <ℤ pos 0
  pub first : Charged zs k

more-charged : (z : ℤ) (zs : List ℤ) (bound : ℕ) → int_lt z (pos 0) ≡ false → Charged zs bound → Charged (z ∷ zs) (suc bound)
more-charged z zs bound test charged zero low = grind (arith, ints)
more-charged z zs bound test charged (suc class) low = charged class (omega (arith, low))

-- The search is followed from any place on: at the number that is found it is below 0, and every number that was passed over is at
-- least 0. So the class that is named is the first of its part.
found-on : (zs : List ℤ) (from class : ℕ) → position_from is_below from zs ≡ Some class → (k : ℕ) × (class ≡ from + k) × IsAt zs k
found-on [] from class e = absurd (cc)
found-on (z ∷ zs) from class e = by (found-on zs (from + 1) class) (int_lt z (pos 0)) refl e
  where
    by : (position_from is_below (from + 1) zs ≡ Some class → (k : ℕ) × (class ≡ from + 1 + k) × IsAt zs k) →
        (t : Bool) → int_lt z (pos 0) ≡ t →
        (if t then Some from else position_from is_below (from + 1) zs) ≡ Some class → (k : ℕ) × (class ≡ from + k) × IsAt (z ∷ zs) k
    by later true test e =
        let same : from ≡ class = cc in
        let low : z <ℤ pos 0 = grind (arith, ints) in
        (0, omega (arith, same), record { there = omega arith; below = low; first = λ k h. absurd (omega (arith, h)) })
    by later false test e =
        let (k, same, at) = later e in (
          suc k,
          omega (arith, same),
          record {
            there = (let h = at.there in omega (arith, h));
            below = at.below;
            first =
                more-charged z zs k test at.first;
          },
        )

none-on : (zs : List ℤ) (from : ℕ) → position_from is_below from zs ≡ None → Charged zs (length zs)
none-on [] from e = λ class low. absurd (omega (arith, low))
none-on (z ∷ zs) from e = by (none-on zs (from + 1)) (int_lt z (pos 0)) refl e
  where
    by : (position_from is_below (from + 1) zs ≡ None → Charged zs (length zs)) → (t : Bool) → int_lt z (pos 0) ≡ t →
        (if t then Some from else position_from is_below (from + 1) zs) ≡ None → Charged (z ∷ zs) (length (z ∷ zs))
    by later true test e = absurd (cc)
    by later false test e = more-charged z zs (length zs) test (later e)

pub negative-there : (part : CertPart) (class : ℕ) → first_negative part.class_prices ≡ Some class → IsNegative part class
negative-there part class e =
    let (k, same, at) = found-on part.class_prices 0 class e in
    let here : k ≡ class = omega (arith, same) in
    let P : ℕ → Type 0 = λ n. IsNegative part n in
    subst P here (record { there = at.there; below = at.below; first = at.first })

pub none-negative : (part : CertPart) → first_negative part.class_prices ≡ None → AreCharged part (length part.class_prices)
none-negative part e = none-on part.class_prices 0 e

-- no part has more classes than the day
few : (numbers : List ℕ) (prices : List ℤ) → length numbers ≤ 32 → length prices ≡ length numbers → length prices ≤ 32
few numbers prices low same = omega (arith, low, same)

pub few-classes : (day : DayFacts) (pieces : ℕ) (parts : List CertPart) → length day.params.pools ≤ 32 → length day.params.groups ≤ 32 →
    AreParts (shape_of day pieces) parts → HaveFewClasses parts
few-classes day pieces (one ∷ two ∷ three ∷ four ∷ []) pools groups are =
    let low : length (map (λ (pool : Pool). pool.number) day.params.pools) ≤ 32 =
    omega (arith, pools, length-map day.params.pools (λ (pool : Pool). pool.number)) in
    let low' : length (map (λ (group : Group). group.number) day.params.groups) ≤ 32 =
    omega (arith, groups, length-map day.params.groups (λ (group : Group). group.number)) in (
      few (map (λ (pool : Pool). pool.number) day.params.pools) one.class_prices low are.0.part_is.class_prices,
      (
        few (map (λ (pool : Pool). pool.number) day.params.pools) two.class_prices low are.1.part_is.class_prices,
        (
          few (map (λ (group : Group). group.number) day.params.groups) three.class_prices low' are.2.part_is.class_prices,
          (few (map (λ (group : Group). group.number) day.params.groups) four.class_prices low' are.3.part_is.class_prices, tt),
        ),
      ),
    )
few-classes day pieces [] pools groups are = absurd are
few-classes day pieces (one ∷ []) pools groups are = absurd are
few-classes day pieces (one ∷ two ∷ []) pools groups are = absurd are
few-classes day pieces (one ∷ two ∷ three ∷ []) pools groups are = absurd are
few-classes day pieces (one ∷ two ∷ three ∷ four ∷ five ∷ more) pools groups are = absurd are
