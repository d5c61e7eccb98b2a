-- Promise: what prices at a scale are guessed to bound, which guess is the greatest, and the prices at a scale.
use Rattle.std.specs.Prelude.{◌≡◌, ℕ, ℤ, pos, ◌+ℤ◌, ◌-ℤ◌, ◌*ℤ◌, ◌<ℤ◌, ◌≤ℤ◌, int_div, int_lt, cond, zero, suc, List, [], ◌∷◌, ◌++◌, map, length, slice_index, All}
use Rattle.std.specs.Int.{int_min, int_div_euclid}
use Rattle.plan_core.specs.declared.Price.{Price}
use Rattle.cover_core.specs.Plans.{number_at}
use Rattle.cover_master.specs.Method.{clamped}
use Rattle.offer_estimate.specs.declared.scales.Scale.{Scale}
use Rattle.offer_estimate.specs.declared.guessing.Estimate.{Estimate}

-- the least value of a class when prices are scaled by part / whole, where a list of it keeps no less than the worth of the cheapest
-- single item: the mean of both, weighted by part and rest of the whole, towards zero; and at most 0
abbrev pub scaled_least : ℤ → ℤ → ℤ → ℤ → ℤ
scaled_least part whole least worth = int_min (pos 0) (int_div ((part *ℤ least) +ℤ ((whole -ℤ part) *ℤ worth)) whole)

-- the sum of cap times scaled least value over the first classes
abbrev pub scaled_leasts : ℤ → ℤ → List ℤ → List ℤ → List ℕ → ℕ → ℤ
scaled_leasts part whole least worths caps zero = pos 0
scaled_leasts part whole least worths caps (suc k) =
    scaled_leasts part whole least worths caps k
    +ℤ (pos (slice_index caps k) *ℤ scaled_least part whole (number_at least k) (number_at worths k))

-- the guess of the bound of prices with this sum, when they are scaled: the scaled sum, and what all classes take off it
abbrev pub estimate_of : ℤ → List ℤ → List ℤ → List ℕ → ℤ → ℤ → ℤ
estimate_of sum least worths caps part whole =
    int_div (sum *ℤ part) whole +ℤ scaled_leasts part whole least worths caps (length caps)

-- a scale with its guess
abbrev pub guess_at : ℤ → List ℤ → List ℤ → List ℕ → Scale → Estimate
guess_at sum least worths caps s = record { scale = s; bound = estimate_of sum least worths caps s.part s.whole }

-- the scale at which prices stay as they are
abbrev pub unscaled : Scale
unscaled = record { part = pos 1; whole = pos 1 }

-- the scale that a class proposes: at it a list of its least value and of the worth of its cheapest single item has the value 0
abbrev pub proposed : ℤ → ℤ → Scale
proposed least worth = record { part = worth; whole = worth -ℤ least }

-- the guesses: unscaled, and at the scale of each of the first classes whose least value is below 0, in their order
abbrev pub guesses : ℤ → List ℤ → List ℤ → List ℕ → ℕ → List Estimate
guesses sum least worths caps zero = guess_at sum least worths caps unscaled ∷ []
guesses sum least worths caps (suc k) =
    cond (int_lt (number_at least k) (pos 0))
    (guesses sum least worths caps k ++ guess_at sum least worths caps (proposed (number_at least k) (number_at worths k)) ∷ [])
    (guesses sum least worths caps k)

-- the first guess of the greatest bound
pub record IsFirstGreatest (all_guesses : List Estimate) (best : Estimate) : Type 0 where
  pub before : List Estimate
  pub after : List Estimate
  pub all : all_guesses ≡ before ++ best ∷ after
  pub less : All (λ (e : Estimate). e.bound <ℤ best.bound) before
  pub no_more : All (λ (e : Estimate). e.bound ≤ℤ best.bound) after

-- a price at a scale: rounded down, and kept from -10,000,000,000,000 to 10,000,000,000,000
abbrev pub scaled_price : ℤ → ℤ → ℤ → ℤ
scaled_price part whole price = clamped (int_div_euclid (price *ℤ part) whole)

-- all prices at a scale
abbrev pub scaled_prices : Scale → List Price → List Price
scaled_prices s prices = map (λ (x : Price). record { 0 = scaled_price s.part s.whole x.0 }) prices
